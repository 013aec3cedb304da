use Rattle.std.proofs.Common.{◌^◌, arith}
use Rattle.image_core.proofs.ChainLemmas.{spaced_wider}
use Rattle.image_core.proofs.LongestLemmas.{IsFirst}
use Rattle.image_core.proofs.TakeLemmas.{first_few, first_is, head_is, length_in}
use Rattle.image_core.proofs.taking.block_length.Goals.{In-Some}
use Rattle.image_core.proofs.taking.block_length.Goals as goal

-- the chain begins with the first frame that is held
first : (c : In-Some) → IsFirst c.args.geometry.now c.args.publication.now c.args.from (2 ^ 62) (c.in-Some.field-0-0.now, c.in-Some.first.now) (head_is c.args.held.now.entries _ c.in-Some.ensures.first).0
first c =
    let is = head_is c.args.held.now.entries _ c.in-Some.ensures.first in
    first_is c.args.geometry.now c.args.publication.now c.args.from (2 ^ 62) (c.in-Some.field-0-0.now, c.in-Some.first.now) is.0 c.args.held.now.entries is.1 c.requires.spaced c.requires.members c.requires.some

pub overflow_add-from : goal.overflow_add-from
overflow_add-from c = let it = first (goal.at.overflow_add-from c).In-Some in omega (arith, it.begins, it.ends, c.aligned_length-size.ensures.value)

pub run_length-requires-clause-spaced : goal.run_length-requires-clause-spaced
run_length-requires-clause-spaced c = spaced_wider c.args.from (2 ^ 62) 0 (2 ^ 62) c.args.held.now.entries (omega arith) (omega arith) c.requires.spaced

pub run_length-requires-clause-from : goal.run_length-requires-clause-from
run_length-requires-clause-from c = let it = first (goal.at.run_length-requires-clause-from c).In-Some in omega (arith, it.begins, it.ends, c.aligned_length-size.ensures.value)

pub run_length-requires-clause-within : goal.run_length-requires-clause-within
run_length-requires-clause-within c =
    let it = first (goal.at.run_length-requires-clause-within c).In-Some in
    let few = first_few _ _ _ _ c.limit_behind-limit.result _ _ c.requires.terms it c.in-Message.is (rw c.offset_of-offset.ensures.offset at c.limit_behind-limit.ensures.limit) in
    omega (arith, few, c.offset_of-offset.ensures.offset, c.aligned_length-size.ensures.value)

pub returns-in-Message : goal.returns-in-Message
returns-in-Message c =
    let it = first (goal.at.returns-in-Message c).In-Some in
    let is = head_is c.args.held.now.entries _ c.in-Some.ensures.first in
    rw (c.run_length.ensures.length, c.block_ids-ids.ensures, c.offset_of-offset.ensures.offset, c.aligned_length-size.ensures.value)
    (length_in c.args.geometry.now c.args.publication.now c.args.from (2 ^ 62) c.limit_behind-limit.result (c.in-Some.field-0-0.now, c.in-Some.first.now) is.0 c.args.held.now.entries is.1 it c.in-Message.is
    (rw c.offset_of-offset.ensures.offset at c.limit_behind-limit.ensures.limit))
