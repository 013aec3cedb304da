use Rattle.std.proofs.Common.{arith}
use Rattle.tool_core.proofs.PartsLemmas.{HasRead-more, ReadsLine-ended, ReadsLine-at_end}
use Rattle.tool_core.proofs.lines.read_line.Goals as goal

pub loop-line-preserved : goal.loop-line-preserved
loop-line-preserved g c =
    let looked = rw c.in-Ok-More.field-0-is at c.in-Ok-More.ensures in
    let before = c.loop-line.invariant.counted in
    let within = looked.counted.0 in
    record {
      counted = omega (arith, looked.counted.1);
      read = HasRead-more _ _ _ _ _ c.loop-line.invariant.read looked.taken;
      spent = λ full. absurd (omega (arith, full));
    }

pub returns-in-Ok-Ended-clause-found : goal.returns-in-Ok-Ended-clause-found
returns-in-Ok-Ended-clause-found g c =
    ReadsLine-ended _ _ _ _ _ c.loop-line.invariant.read (rw c.in-Ok-Ended.field-0-is at c.in-Ok-Ended.ensures).taken

pub returns-in-Ok-AtEnd-clause-found : goal.returns-in-Ok-AtEnd-clause-found
returns-in-Ok-AtEnd-clause-found g c =
    let part = (rw c.in-Ok-AtEnd.field-0-is at c.in-Ok-AtEnd.ensures).taken in
    ReadsLine-at_end _ _ _ _ _ c.loop-line.invariant.read part.0 part.1 part.2 c.is_empty.result c.is_empty.ensures
