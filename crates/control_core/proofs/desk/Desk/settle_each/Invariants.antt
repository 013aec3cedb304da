use Rattle.std.proofs.Common.{drop}
use Rattle.control_core.proofs.GroupLemmas.{LeavesAll}
use Rattle.control_core.proofs.desk.Desk.settle_each.Given as goal

abbrev pub invariant-loop-session : goal.invariant-loop-session
invariant-loop-session l = LeavesAll l.initial.self.state l.sessions l.self.state (drop l.session-index l.sessions)
