use Rattle.std.proofs.Common.{◌^◌, ap, length, arith}
use Rattle.image_core.proofs.LongestLemmas.{IsFirst}
use Rattle.image_core.proofs.TakeLemmas.{first_few, first_is, length_is, takes_messages, takes_pad}
use Rattle.image_core.proofs.taking.take_frames.Goals.{In-Some}
use Rattle.image_core.proofs.taking.take_frames.Goals as goal

-- the chain begins with the first frame that is held
first : (c : In-Some) → IsFirst c.args.geometry.now c.args.publication.now c.args.from (2 ^ 62) (c.in-Some.field-0-0, c.in-Some.first) c.pop_first.new.self.entries
first c =
    first_is c.args.geometry.now c.args.publication.now c.args.from (2 ^ 62) (c.in-Some.field-0-0, c.in-Some.first) c.pop_first.new.self.entries c.args.held.now.entries
    c.in-Some.ensures.removal c.requires.spaced c.requires.members c.requires.some

pub take_messages-requires-clause-spaced : goal.take_messages-requires-clause-spaced
take_messages-requires-clause-spaced c =
    let it = first (goal.at.take_messages-requires-clause-spaced c).In-Some in
    rw (c.aligned_length-size.ensures.value, it.begins) it.spaced

pub take_messages-requires-clause-within : goal.take_messages-requires-clause-within
take_messages-requires-clause-within c =
    let it = first (goal.at.take_messages-requires-clause-within c).In-Some in
    let few = first_few _ _ _ _ c.limit_behind-limit.result _ _ c.requires.terms it c.in-Message.is (rw c.offset_of-offset.ensures.offset at c.limit_behind-limit.ensures.limit) in
    omega (arith, few, c.offset_of-offset.ensures.offset, c.aligned_length-size.ensures.value)

pub returns-in-Pad : goal.returns-in-Pad
returns-in-Pad c =
    let it = first (goal.at.returns-in-Pad c).In-Some in
    rw c.aligned_length-size.ensures.value
    (takes_pad _ _ _ _ _ _ _ _ c.requires.terms c.in-Some.ensures.removal it c.in-Pad.is (rw c.requires.empty at c.push_reserved.ensures.items))

pub returns-in-Message : goal.returns-in-Message
returns-in-Message c =
    let it = first (goal.at.returns-in-Message c).In-Some in
    rw c.aligned_length-size.ensures.value
    (takes_messages _ _ _ _ c.limit_behind-limit.result _ _ _ _ _ _ _ c.requires.terms c.in-Some.ensures.removal it c.in-Message.is
    (rw c.offset_of-offset.ensures.offset at c.limit_behind-limit.ensures.limit) (rw c.requires.empty at c.push_reserved.ensures.items)
    (rw (c.block_ids-ids.ensures, c.offset_of-offset.ensures.offset, c.aligned_length-size.ensures.value) at c.take_messages.ensures.takes)
    (rw (c.block_ids-ids.ensures, c.offset_of-offset.ensures.offset, c.aligned_length-size.ensures.value) at c.take_messages.ensures.stops))

pub take_messages-requires-clause-room : goal.take_messages-requires-clause-room
take_messages-requires-clause-room c =
    let it = first (goal.at.take_messages-requires-clause-room c).In-Some in
    let fits = length_is c.args.geometry.now c.args.publication.now c.args.from (2 ^ 62) c.limit_behind-limit.result (c.in-Some.field-0-0, c.in-Some.first) c.pop_first.new.self.entries c.args.held.now.entries
    c.in-Some.ensures.removal it c.in-Message.is (rw c.offset_of-offset.ensures.offset at c.limit_behind-limit.ensures.limit) in
    rw (c.block_ids-ids.ensures, c.offset_of-offset.ensures.offset, c.aligned_length-size.ensures.value)
    (omega (arith, fits, c.requires.room, c.push_reserved.ensures.len, c.push_reserved.ensures.capacity, ap length c.requires.empty))
