-- Blocks that continue a recording leave its frames without a gap.
use Rattle.std.proofs.Common.{◌≡◌, ◌<◌, ◌≤◌, ◌+◌, ◌+ℤ◌, ◌*ℤ◌, ◌≤ℤ◌, ◌&&◌, ℕ, ℤ, pos, Bool, true, false, cond, List, [], ◌∷◌, ◌++◌, Option, Some, None, refl, sym, ap, subst, true≢false, arith, inl, inr, unsigned_abs, length}
use Rattle.std.proofs.lemmas.Int.{ints}
use Rattle.std.proofs.lemmas.Bool.Decides.{Decides-int_eq}
use Rattle.frame_core.specs.declared.frame.Frame.{Frame}
use Rattle.frame_core.specs.declared.frame.FrameKind.{FrameKind}
use Rattle.frame_core.specs.declared.frame.FrameKind.TheVariants.{Pad, Message, Heartbeat}
use Rattle.frame_core.specs.declared.block.Block.{Block}
use Rattle.frame_core.specs.declared.block.BlockIds.{BlockIds}
use Rattle.frame_core.specs.declared.block.Publication.{Publication}
use Rattle.frame_core.specs.declared.geometry.Geometry.{Geometry}
use Rattle.frame_core.specs.FrameEncoding.{IsEncodable, HasLength, aligned_length}
use Rattle.frame_core.specs.Position.{terms_since}
use Rattle.frame_core.specs.Block.{AreBlockOf, AreEncodable, covered, run_end, is_part, has_ids, is_message, block_ids, end_position}
use Rattle.archive_model.specs.Commands.{after, frames_of}
use Rattle.archive_model.specs.Acceptance.{AreBlocksFrom}
use Rattle.archive_model.specs.Histories.{AreContiguous}

pub covered-append : (fs gs : List Frame) → covered (fs ++ gs) ≡ covered fs + covered gs
covered-append [] gs = omega arith
covered-append (f ∷ fs) gs = let rest = covered-append fs gs in omega arith

pub contiguous_append : (g : Geometry) (position middle : ℤ) (fs gs : List Frame) → AreContiguous g position fs → middle ≡ position +ℤ pos (covered fs) → AreContiguous g middle gs
    → AreContiguous g position (fs ++ gs)
contiguous_append g position middle [] gs before is after =
    let same : middle ≡ position = omega (arith, ints) in subst (λ (z : ℤ). AreContiguous g z gs) same after
contiguous_append g position middle (f ∷ fs) gs before is after =
    let next : middle ≡ (position +ℤ pos (aligned_length f)) +ℤ pos (covered fs) = omega (arith, ints) in
    (before.0, before.1, contiguous_append g (position +ℤ pos (aligned_length f)) middle fs gs before.2 next after)

-- what a message with the ids at an offset is
record IsPart (p : BlockIds) (offset : ℕ) (f : Frame) : Type 0 where
  kind : f.kind ≡ Message
  offset_is : f.term_offset ≡ pos offset
  term_is : f.term_id ≡ p.term_id

message_kind : (k : FrameKind) → is_message k ≡ true → k ≡ Message
message_kind Pad h = absurd (true≢false (sym h))
message_kind Message h = refl
message_kind Heartbeat h = absurd (true≢false (sym h))

both : {a b : Bool} → a && b ≡ true → (a ≡ true) × (b ≡ true)
both {a = true} {b = b} h = (refl, h)
both {a = false} {b = b} h = absurd (true≢false (sym h))

is_part_of : (p : BlockIds) (offset : ℕ) (f : Frame) → is_part p offset f ≡ true → IsPart p offset f
unfolding is_part has_ids
is_part_of p offset f h =
    let first = both h in
    let second = both first.0 in
    let third = both second.0 in
    let ids = both second.1 in
    let own = both ids.0 in
    record {
      kind = message_kind f.kind third.0;
      offset_is = (Decides-int_eq f.term_offset (pos offset)).0 third.1;
      term_is = (Decides-int_eq f.term_id p.term_id).0 own.0;
    }

-- where the rest of a run is
run_rest : (b : Bool) (some : Option ℕ) (end : ℕ) → cond b some None ≡ Some end → (b ≡ true) × (some ≡ Some end)
run_rest true some end h = (refl, h)
run_rest false some end h = absurd cc

run_grows : (p : BlockIds) (offset : ℕ) (fs : List Frame) (end : ℕ) → run_end p offset fs ≡ Some end → offset ≤ end
run_grows p offset [] end ends = let same : offset ≡ end = cc in omega arith
run_grows p offset (f ∷ fs) end ends =
    let rest = run_rest (is_part p offset f) (run_end p (offset + aligned_length f) fs) end ends in
    let more = run_grows p (offset + aligned_length f) fs end rest.1 in omega arith

-- a message covers some bytes
some_length : (f : Frame) → f.kind ≡ Message → IsEncodable f → 0 < aligned_length f
some_length f is encodable =
    let size : f.length ≡ pos (32 + length f.payload) = subst (λ (k : FrameKind). HasLength k f.length f.payload) is encodable.length in
    let whole : unsigned_abs f.length ≡ 32 + length f.payload = ap unsigned_abs size in
    omega arith

run_contiguous : (g : Geometry) (p : BlockIds) (offset : ℕ) (position : ℤ) (fs : List Frame) (end : ℕ) → pos 0 ≤ℤ terms_since g p.term_id
    → position ≡ terms_since g p.term_id *ℤ g.term_length +ℤ pos offset → AreEncodable fs → run_end p offset fs ≡ Some end → pos end ≤ℤ g.term_length → AreContiguous g position fs
run_contiguous g p offset position [] end since sum encodable ends inside = tt
run_contiguous g p offset position (f ∷ fs) end since sum encodable ends inside =
    let rest = run_rest (is_part p offset f) (run_end p (offset + aligned_length f) fs) end ends in
    let part = is_part_of p offset f rest.0 in
    let some = some_length f part.kind encodable.0 in
    let grows = run_grows p (offset + aligned_length f) fs end rest.1 in
    let begins = part.offset_is in
    let sum' : position ≡ terms_since g p.term_id *ℤ g.term_length +ℤ f.term_offset = rw begins sum in
    let next : position +ℤ pos (aligned_length f) ≡ terms_since g p.term_id *ℤ g.term_length +ℤ pos (offset + aligned_length f) = omega (arith, ints) in (
      rw part.term_is (record { since = since; low = omega (arith, ints); high = omega (arith, ints); sum = sum' }),
      omega (arith, ints),
      run_contiguous g p (offset + aligned_length f) _ fs end since next encodable.1 rest.1 inside,
    )

-- the frames of a block follow one another from its position
block_contiguous : (g : Geometry) (publication : Publication) (fs : List Frame) (position : ℤ) → AreBlockOf g publication fs position → AreContiguous g position fs
block_contiguous g publication [] position none = tt
block_contiguous g publication (f ∷ fs) position (at, encodable, inl pad) = (at, pad.inside, rw pad.alone tt)
block_contiguous g publication (f ∷ fs) position (at, encodable, inr run) =
    let sum : position ≡ terms_since g f.term_id *ℤ g.term_length +ℤ pos run.offset = rw (← run.begins) at.sum in
    run_contiguous g (block_ids g publication f) run.offset position (f ∷ fs) run.end at.since sum encodable run.ends run.inside

-- so do those of blocks
pub blocks_contiguous : (g : Geometry) (publication : Publication) (position : ℤ) (blocks : List Block) → AreBlocksFrom g publication position blocks → AreContiguous g position (frames_of blocks)
blocks_contiguous g publication position [] blocks = tt
blocks_contiguous g publication position (b ∷ bs) blocks =
    let first : AreContiguous g position b.frames = subst (λ (z : ℤ). AreContiguous g z b.frames) blocks.1 (block_contiguous g publication b.frames b.position blocks.0) in
    let next : end_position b ≡ position +ℤ pos (covered b.frames) = ap (λ (z : ℤ). z +ℤ pos (covered b.frames)) blocks.1 in
    contiguous_append g position (end_position b) b.frames (frames_of bs) first next (blocks_contiguous g publication (end_position b) bs blocks.2)
