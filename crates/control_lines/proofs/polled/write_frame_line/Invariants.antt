use Rattle.std.proofs.Common.{◌≤◌, length, take}
use Rattle.control_lines.proofs.PolledLemmas.{HasBegun, front_text}
use Rattle.control_lines.proofs.polled.write_frame_line.Given as goal

abbrev pub invariant-loop-rest : goal.invariant-loop-rest
invariant-loop-rest g l = record {
  begun : HasBegun (front_text l.fn.position l.fn.header) l.fn.payload l.rest (take l.end l.out) (g.W.Write.contents l.fn.writer) (g.W.Write.contents l.writer);
  short : l.end ≤ 91;
}

abbrev pub decreases-loop-rest : goal.decreases-loop-rest
decreases-loop-rest g l = length l.rest
