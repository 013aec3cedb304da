use Rattle.server_sender.specs.Stepping.{StepsSent}
use Rattle.server_sender.proofs.stepping.send_each.Given as goal

abbrev pub invariant-loop-count : goal.invariant-loop-count
invariant-loop-count g l = StepsSent g.E.SendEnd.puts l.to l.now l.count l.fn.publishing l.fn.end l.publishing l.end
