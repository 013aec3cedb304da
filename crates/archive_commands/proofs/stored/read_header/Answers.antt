use Rattle.std.proofs.Common.{arith, le_refl, rules, subst, sym}
use Rattle.std.proofs.lemmas.Slice.{take-put_mid_below}
use Rattle.archive_commands.specs.Stored.{LosesHeader}
use Rattle.archive_commands.proofs.StoredLemmas.{filled_length, filled_more, header_all, header_cut}
use Rattle.archive_commands.proofs.stored.read_header.Goals as goal

pub loop-size-preserved : goal.loop-size-preserved
loop-size-preserved g c =
    let looked = rw c.in-Passed.is at c.in_ok-count.ensures in
    let before = c.loop-size.invariant in
    let counted = looked.counted in
    let room = looked.filled.0 in
    let more = c.loop-size-test.true in
    record {
      counted = let seen = before.counted in omega (arith, seen, counted.1);
      began = λ some. let seen = before.counted in omega (arith, seen, counted.0, counted.1);
      whole = filled_length c.loop-size.size c.loop-size.out c.read_some.new.out before.within before.whole (search rules);
      within = omega (arith, room, more);
      filled = filled_more _ _ _ c.loop-size.size c.in-Passed.count c.loop-size.out c.read_some.new.out (search rules) (search rules) room before.filled looked.filled.1;
    }

pub returns-in-AtEnd-clause-bytes : goal.returns-in-AtEnd-clause-bytes
returns-in-AtEnd-clause-bytes g c =
    let looked = rw c.in-AtEnd.is at c.in_ok-count.ensures in
    let before = c.loop-size.invariant in
    subst (LosesHeader _ _) (sym (take-put_mid_below _ _ _ _ _ (le_refl _) (search rules)))
    (header_cut _ _ _ c.loop-size.size c.loop-size.out before.within (search rules) before.filled looked.filled.0 looked.filled.1)

pub returns-clause-bytes : goal.returns-clause-bytes
returns-clause-bytes g c = header_all _ _ c.loop-size.size c.loop-size.out c.loop-size.invariant.within (search rules) c.loop-size.invariant.whole c.loop-size.invariant.filled
