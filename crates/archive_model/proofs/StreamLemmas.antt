-- The frames of a recording are of its stream and end in it, and it starts at a multiple of 32.
use Rattle.std.proofs.Common.{◌≡◌, ◌≢◌, ◌<◌, ◌≤◌, ◌+◌, ◌*◌, ◌/◌, ◌%◌, ◌+ℤ◌, ◌-ℤ◌, ◌*ℤ◌, ◌≤ℤ◌, ℕ, suc, ℤ, pos, negsuc, Bool, true, false, cond, FitsSigned, List, [], ◌∷◌, ◌++◌, Some, None, ◌&&◌, filter, refl, sym, ap, subst, ◌∙◌, true≢false, arith, inl, inr}
use Rattle.std.proofs.lemmas.Int.{ints, SFits-int_wrap}
use Rattle.std.proofs.Math.Nat.{mul-le-mul_left, mul_comm}
use Rattle.std.proofs.lemmas.Bool.Decides.{nat_tests, Decides-int_eq}
use Rattle.std.specs.Prelude.{◌==◌, ◌^◌, nat_lt, unsigned_abs}
use Rattle.std.specs.Ordering.{int_eq}
use Rattle.std.specs.Int.{w32}
use Rattle.frame_core.specs.declared.frame.Frame.{Frame}
use Rattle.frame_core.specs.declared.frame.FrameKind.{FrameKind}
use Rattle.frame_core.specs.declared.frame.FrameKind.TheVariants.{Pad, Message, Heartbeat}
use Rattle.frame_core.specs.declared.block.Block.{Block}
use Rattle.frame_core.specs.declared.block.BlockIds.{BlockIds}
use Rattle.frame_core.specs.declared.block.Publication.{Publication}
use Rattle.frame_core.specs.declared.geometry.Geometry.{Geometry}
use Rattle.frame_core.specs.FrameEncoding.{IsAligned, aligned_length}
use Rattle.frame_core.specs.Position.{HasPosition, terms_since}
use Rattle.frame_core.specs.Block.{AreBlockOf, block_ids, covered, end_position, has_ids, is_message, is_part, run_end}
use Rattle.archive_model.specs.declared.reply.PolledFrame.{PolledFrame}
use Rattle.archive_model.specs.Acceptance.{AreBlocksFrom}
use Rattle.archive_model.specs.Commands.{frames_of}
use Rattle.archive_model.specs.Descriptor.{is_start_position}
use Rattle.archive_model.specs.Histories.{AreContiguous}
use Rattle.archive_model.specs.Keyed.{Each}
use Rattle.archive_model.specs.Replay.{frames_in, placed}
use Rattle.archive_model.specs.WellFormed.{IsOfStream}
use Rattle.archive_model.proofs.WellLemmas.{both}

pub each_append : {X : Type 0} (P : X → Type 0) (xs ys : List X) → Each P xs → Each P ys → Each P (xs ++ ys)
each_append P [] ys these those = those
each_append P (x ∷ xs) ys these those = (these.0, each_append P xs ys these.1 those)

-- what holds of each frame holds of each that a cut leaves
pub each_left : (P : Frame → Type 0) (test : PolledFrame → Bool) (at : ℤ) (fs : List Frame) → Each P fs → Each P (frames_in (filter test (placed at fs)))
each_left P test at [] all = tt
each_left P test at (f ∷ fs) all = by (test (record { position = at; frame = f })) (each_left P test (at +ℤ pos (aligned_length f)) fs all.1)
  where
    by : (b : Bool) → Each P (frames_in (filter test (placed (at +ℤ pos (aligned_length f)) fs)))
        → Each P (frames_in (cond b (record { position = at; frame = f } ∷ filter test (placed (at +ℤ pos (aligned_length f)) fs)) (filter test (placed (at +ℤ pos (aligned_length f)) fs))))
    by true later = (all.0, later)
    by false later = later

message_other : (kind : FrameKind) → is_message kind ≡ true → kind ≢ Heartbeat
message_other Pad is beat = absurd (true≢false (sym is))
message_other Message is beat = absurd cc
message_other Heartbeat is beat = absurd (true≢false (sym is))

pad_other : (kind : FrameKind) → kind ≡ Pad → kind ≢ Heartbeat
pad_other Pad is beat = absurd cc
pad_other Message is beat = absurd cc
pad_other Heartbeat is beat = absurd cc

ids_of_stream : (p : BlockIds) (f : Frame) → has_ids p f ≡ true → f.stream_id ≡ p.stream_id
unfolding has_ids
ids_of_stream p f is =
    let ids : ((int_eq f.term_id p.term_id && int_eq f.session_id p.session_id) ≡ true) × (int_eq f.stream_id p.stream_id ≡ true) = both is in
    (Decides-int_eq f.stream_id p.stream_id).0 ids.1

part_of_stream : (p : BlockIds) (offset : ℕ) (f : Frame) → is_part p offset f ≡ true → IsOfStream p.stream_id f
unfolding is_part
part_of_stream p offset f is =
    let first : ((is_message f.kind && int_eq f.term_offset (pos offset)) && has_ids p f ≡ true) × (_ ≡ true) = both is in
    let second : (is_message f.kind && int_eq f.term_offset (pos offset) ≡ true) × (has_ids p f ≡ true) = both first.0 in
    let third : (is_message f.kind ≡ true) × (int_eq f.term_offset (pos offset) ≡ true) = both second.0 in
    record { kind = message_other f.kind third.0; stream_is = ids_of_stream p f second.1 }

run_of_stream : (p : BlockIds) (offset end : ℕ) (fs : List Frame) → run_end p offset fs ≡ Some end → Each (IsOfStream p.stream_id) fs
run_of_stream p offset end [] is = tt
run_of_stream p offset end (f ∷ fs) is = by (is_part p offset f) refl is (run_of_stream p (offset + aligned_length f) end fs)
  where
    by : (b : Bool) → is_part p offset f ≡ b → cond b (run_end p (offset + aligned_length f) fs) None ≡ Some end
        → (run_end p (offset + aligned_length f) fs ≡ Some end → Each (IsOfStream p.stream_id) fs) → Each (IsOfStream p.stream_id) (f ∷ fs)
    by true part is later = (part_of_stream p offset f part, later is)
    by false part is later = absurd cc

block_of_stream : (g : Geometry) (publication : Publication) (fs : List Frame) (position : ℤ) → AreBlockOf g publication fs position → Each (IsOfStream publication.stream_id) fs
block_of_stream g publication [] position block = tt
block_of_stream g publication (f ∷ fs) position (at, encodable, inl pad) =
    let first : IsOfStream publication.stream_id f = record { kind = pad_other f.kind pad.kind; stream_is = ids_of_stream (block_ids g publication f) f pad.ids } in
    rw pad.alone (first, tt)
block_of_stream g publication (f ∷ fs) position (at, encodable, inr run) = run_of_stream (block_ids g publication f) run.offset run.end (f ∷ fs) run.ends

pub blocks_of_stream : (g : Geometry) (publication : Publication) (position : ℤ) (blocks : List Block) → AreBlocksFrom g publication position blocks → Each (IsOfStream publication.stream_id) (frames_of blocks)
blocks_of_stream g publication position [] blocks = tt
blocks_of_stream g publication position (b ∷ bs) blocks =
    each_append (IsOfStream publication.stream_id) b.frames (frames_of bs) (block_of_stream g publication b.frames b.position blocks.0) (blocks_of_stream g publication (end_position b) bs blocks.2)

-- a start position is a multiple of 32

pub start_aligned : (position term : ℤ) → is_start_position position term ≡ true → IsAligned position
unfolding is_start_position
start_aligned (pos p) term is =
    let parts : ((p % 32 == 0) ≡ true) × (nat_lt p (2 ^ 31 * unsigned_abs term) ≡ true) = both is in
    let whole : p % 32 ≡ 0 = grind (arith, nat_tests) in
    let same : p ≡ 32 * (p / 32) = omega (arith, whole) in
    (p / 32, ap pos same)
start_aligned (negsuc p) term is = absurd (true≢false (sym is))

covered_is : (fs : List Frame) → (k : ℕ) × (covered fs ≡ 32 * k)
covered_is [] = (0, refl)
covered_is (f ∷ fs) = let rest = covered_is fs in let is = rest.1 in ((unsigned_abs f.length + 31) / 32 + rest.0, omega (arith, is))

-- so is where frames begin that end where those do that begin at a multiple of 32
pub aligned_behind : (p start : ℤ) (left all : List Frame) → pos 0 ≤ℤ p → IsAligned start → p +ℤ pos (covered left) ≡ start +ℤ pos (covered all) → IsAligned p
aligned_behind (pos p) start left all low aligned same =
    let few = covered_is left in
    let many = covered_is all in
    let few_is : covered left ≡ 32 * few.0 = few.1 in
    let many_is : covered all ≡ 32 * many.0 = many.1 in
    let start_is : start ≡ pos (32 * aligned.0) = aligned.1 in
    let sum : p + 32 * few.0 ≡ 32 * aligned.0 + 32 * many.0 = omega (arith, ints, same, few_is, many_is, start_is) in
    let same : p ≡ 32 * (p / 32) = omega (arith, sum) in
    (p / 32, ap pos same)
aligned_behind (negsuc p) start left all low aligned same = absurd (omega (arith, ints, low))

-- a new recording starts before the end of its stream

pub start_in_stream : (position term : ℤ) → is_start_position position term ≡ true → position ≤ℤ pos (2 ^ 31 * unsigned_abs term)
unfolding is_start_position
start_in_stream (pos p) term is =
    let parts : ((p % 32 == 0) ≡ true) × (nat_lt p (2 ^ 31 * unsigned_abs term) ≡ true) = both is in
    let less : p < 2 ^ 31 * unsigned_abs term = grind (arith, nat_tests) in
    omega (arith, ints, less)
start_in_stream (negsuc p) term is = absurd (true≢false (sym is))

-- frames without a gap from a position in the stream end in it

-- a term of at most 2^31 ends in them
pub times_le : (a t : ℕ) → suc a ≤ 2 ^ 31 → a * t + t ≤ 2 ^ 31 * t
times_le a t less =
    let more : t * suc a ≤ t * 2 ^ 31 = mul-le-mul_left t less in
    let left : t * suc a ≡ a * t + t = mul_comm t (suc a) ∙ omega arith in
    let right : t * 2 ^ 31 ≡ 2 ^ 31 * t = mul_comm t (2 ^ 31) in
    omega (arith, more, left, right)

-- what ends in its term ends in the stream
pub ends_in_stream : (g : Geometry) (term offset position : ℤ) (size : ℕ) → HasPosition g term offset position → (offset +ℤ pos size) ≤ℤ g.term_length → (position +ℤ pos size) ≤ℤ pos (2 ^ 31 * unsigned_abs g.term_length)
ends_in_stream g term offset position size at ends = by (terms_since g term) g.term_length offset refl refl refl
  where
    by : (since length other : ℤ) → terms_since g term ≡ since → g.term_length ≡ length → offset ≡ other → (position +ℤ pos size) ≤ℤ pos (2 ^ 31 * unsigned_abs g.term_length)
    by (pos a) (pos t) (pos o) since_is length_is offset_is =
        let fits : FitsSigned w32 (terms_since g term) = SFits-int_wrap w32 (term -ℤ g.initial_term_id) in
        let less : suc a ≤ 2 ^ 31 = omega (arith, ints, fits, since_is) in
        let most : a * t + t ≤ 2 ^ 31 * t = times_le a t less in
        let sum : position ≡ pos a *ℤ pos t +ℤ pos o =
        at.sum ∙ ap (λ (x : ℤ). x *ℤ g.term_length +ℤ offset) since_is ∙ ap (λ (x : ℤ). pos a *ℤ x +ℤ offset) length_is ∙ ap (λ (x : ℤ). pos a *ℤ pos t +ℤ x) offset_is in
        let end : position +ℤ pos size ≡ pos (a * t + o + size) = omega (arith, ints, sum) in
        let within : a * t + o + size ≤ a * t + t = omega (arith, ints, ends, length_is, offset_is) in
        let top : unsigned_abs g.term_length ≡ t = ap unsigned_abs length_is in
        subst (λ (n : ℕ). (position +ℤ pos size) ≤ℤ pos (2 ^ 31 * n)) (sym top) (omega (arith, ints, end, within, most))
    by (negsuc a) length other since_is length_is offset_is = absurd (omega (arith, ints, at.since, since_is))
    by (pos a) (negsuc t) other since_is length_is offset_is = absurd (omega (arith, ints, at.high, at.low, length_is))
    by (pos a) (pos t) (negsuc o) since_is length_is offset_is = absurd (omega (arith, ints, at.low, offset_is))

pub frames_in_stream : (g : Geometry) (position : ℤ) (fs : List Frame) → AreContiguous g position fs → position ≤ℤ pos (2 ^ 31 * unsigned_abs g.term_length)
    → (position +ℤ pos (covered fs)) ≤ℤ pos (2 ^ 31 * unsigned_abs g.term_length)
frames_in_stream g position [] parts inside = omega (arith, ints, inside)
frames_in_stream g position (f ∷ fs) parts inside =
    let rest = frames_in_stream g (position +ℤ pos (aligned_length f)) fs parts.2 (ends_in_stream g f.term_id f.term_offset position (aligned_length f) parts.0 parts.1) in
    omega (arith, ints, rest)
