-- The stored bytes of frames.
use Rattle.std.proofs.Common.{◌≡◌, ◌∙◌, sym, ap, refl, ℕ, zero, suc, Bool, true, false, Some, None, if◌then◌else◌, ◌&&◌, ◌+◌, ◌-◌, ◌<◌, ◌≤◌, List, [], ◌∷◌, length, take, get_or, length-append, arith}
use Rattle.std.proofs.lemmas.Int.{ints}
use Rattle.std.proofs.lemmas.List.{length-replicate}
use Rattle.std.specs.Prelude.{replicate, unsigned_abs}
use Rattle.frame_core.specs.declared.frame.Frame.{Frame}
use Rattle.frame_core.specs.declared.frame.FrameKind.{FrameKind}
use Rattle.frame_core.specs.declared.frame.FrameKind.TheVariants.{Pad, Message, Heartbeat}
use Rattle.frame_core.specs.FrameEncoding.{IsEncodable, HasLength, aligned_length, encoded, stored, stored_as}
use Rattle.frame_core.proofs.FrontLemmas.{length-encoded}
use Rattle.frame_core.proofs.FrameEncodingLemmas.{length-header_of}
use Rattle.frame_core.specs.declared.block.BlockIds.{BlockIds}
use Rattle.frame_core.specs.Block.{AreEncodable, covered, is_message, is_part, run_end}
use Rattle.segment_store.specs.Stored.{stored_frames}

same_some : {x y : ℕ} → Some x ≡ Some y → x ≡ y
same_some is = cc

-- the encoding of a data frame is as long as its length says, and its stored bytes reach to the aligned length
by_kind : (kind : FrameKind) (f : Frame) → HasLength kind f.length f.payload → f.kind ≡ kind
    → (length (stored_as kind f) ≤ aligned_length f) × (kind ≡ Message → (length (encoded f) ≤ aligned_length f) × (length (stored_as kind f) ≡ aligned_length f))
by_kind Pad f long is =
    (omega (arith, ints, long.0, length-header_of f), λ other. absurd (cc))
by_kind Heartbeat f long is = (omega arith, λ other. absurd (cc))
by_kind Message f long is =
    let size : unsigned_abs f.length ≡ length (encoded f) = ap unsigned_abs long ∙ sym (length-encoded f) in
    let fits : length (encoded f) ≤ aligned_length f = omega (arith, size) in
    let zeros = length-replicate {A = ℕ} (aligned_length f - length (encoded f)) 0 in
    let all : length (stored_as Message f) ≡ aligned_length f = length-append (encoded f) (replicate (aligned_length f - length (encoded f)) 0) ∙ omega (arith, zeros, fits) in
    (omega (arith, all), λ same. (fits, all))

pub stored_no_longer : (f : Frame) → IsEncodable f → length (stored f) ≤ aligned_length f
stored_no_longer f encodable = (by_kind f.kind f encodable.length refl).0

pub message_fits : (f : Frame) → IsEncodable f → f.kind ≡ Message → length (encoded f) ≤ aligned_length f
message_fits f encodable is = ((by_kind f.kind f encodable.length refl).1 is).0

pub length_message : (f : Frame) → IsEncodable f → f.kind ≡ Message → length (stored f) ≡ aligned_length f
length_message f encodable is = ((by_kind f.kind f encodable.length refl).1 is).1

-- a pad is stored as its header
pub length_pad : (f : Frame) → f.kind ≡ Pad → length (stored f) ≡ 32
length_pad f is = ap (λ (kind : FrameKind). length (stored_as kind f)) is ∙ length-header_of f

-- a data frame covers a header at least
pub message_some : (f : Frame) → IsEncodable f → f.kind ≡ Message → 32 ≤ aligned_length f
message_some f encodable is = omega (arith, message_fits f encodable is, length-encoded f)

-- a frame of a list that has encodings has one
pub one_encodable : (frames : List Frame) (i : ℕ) (d : Frame) → AreEncodable frames → i < length frames → IsEncodable (get_or frames i d)
one_encodable [] i d all within = absurd (omega arith)
one_encodable (f ∷ fs) zero d all within = all.0
one_encodable (f ∷ fs) (suc i) d all within = one_encodable fs i d all.1 (omega (arith, within))

-- the stored bytes up to a frame and those of the frame are some of all
pub stored_within : (frames : List Frame) (i : ℕ) (d : Frame) → i < length frames
    → length (stored_frames (take i frames)) + length (stored (get_or frames i d)) ≤ length (stored_frames frames)
stored_within [] i d within = absurd (omega arith)
stored_within (f ∷ fs) zero d within = omega (arith, length-append (stored f) (stored_frames fs))
stored_within (f ∷ fs) (suc i) d within =
    omega (arith, stored_within fs i d (omega (arith, within)), length-append (stored f) (stored_frames fs), length-append (stored f) (stored_frames (take i fs)))

-- the stored bytes are no more than the frames cover
pub stored_covered : (frames : List Frame) → AreEncodable frames → length (stored_frames frames) ≤ covered frames
stored_covered [] all = omega arith
stored_covered (f ∷ fs) all =
    omega (arith, length-append (stored f) (stored_frames fs), stored_no_longer f all.0, stored_covered fs all.1)

-- each of them is a data frame
abbrev pub AreMessages : List Frame → Type 0
AreMessages [] = Unit {0}
AreMessages (f ∷ fs) = (f.kind ≡ Message) × AreMessages fs

message_kind : (kind : FrameKind) → is_message kind ≡ true → kind ≡ Message
message_kind Pad is = absurd (cc)
message_kind Message is = refl
message_kind Heartbeat is = absurd (cc)

first_true : (x y : Bool) → (x && y) ≡ true → x ≡ true
first_true true y is = refl
first_true false y is = is

part_is_message : (ids : BlockIds) (offset : ℕ) (f : Frame) → is_part ids offset f ≡ true → f.kind ≡ Message
unfolding is_part
part_is_message ids offset f part = message_kind f.kind (first_true _ _ (first_true _ _ (first_true _ _ part)))

by_part : (ids : BlockIds) (offset end : ℕ) (f : Frame) (fs : List Frame) (b : Bool) → is_part ids offset f ≡ b
    → (run_end ids (offset + aligned_length f) fs ≡ Some end → (end ≡ offset + aligned_length f + covered fs) × AreMessages fs)
    → (if b then run_end ids (offset + aligned_length f) fs else None) ≡ Some end → (end ≡ offset + covered (f ∷ fs)) × AreMessages (f ∷ fs)
by_part ids offset end f fs true part rest goes =
    let others = rest goes in
    (omega (arith, others.0), (part_is_message ids offset f part, others.1))
by_part ids offset end f fs false part rest none = absurd (cc)

-- frames that follow one another are data frames, and end where they cover to
pub run_covers : (ids : BlockIds) (offset end : ℕ) (frames : List Frame) → run_end ids offset frames ≡ Some end → (end ≡ offset + covered frames) × AreMessages frames
run_covers ids offset end [] ends = (omega (arith, same_some ends), tt)
run_covers ids offset end (f ∷ fs) ends =
    by_part ids offset end f fs (is_part ids offset f) refl (run_covers ids (offset + aligned_length f) end fs) ends
