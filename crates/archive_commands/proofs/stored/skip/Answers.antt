use Rattle.std.proofs.Common.{arith}
use Rattle.archive_commands.proofs.StoredLemmas.{Passes-more}
use Rattle.archive_commands.proofs.stored.skip.Goals as goal

pub loop-size-preserved : goal.loop-size-preserved
loop-size-preserved g c =
    let looked = rw c.in-Passed.is at c.in_ok-count.ensures in
    let before = c.loop-size.invariant.counted in
    let counted = looked.counted in
    record {
      counted = omega (arith, before, counted.1);
      within = let room = looked.skipped.0 in let more = c.loop-size-test.true in omega (arith, room, more);
      passed = Passes-more _ _ _ _ _ c.loop-size.invariant.passed looked.skipped.1;
    }
