-- A frame in front of gathered bytes is one that the disk shows.
use Rattle.std.proofs.Common.{◌≡◌, ◌∙◌, sym, ap, refl, ℕ, ℤ, pos, ◌+ℤ◌, ◌+◌, ◌%◌, ◌<◌, ◌≤◌, ◌&&◌, Bool, true, false, Option, Some, None, List, ◌++◌, length, take, get_or, length-append, append_assoc, arith}
use Rattle.std.proofs.lemmas.Int.{ints}
use Rattle.std.proofs.lemmas.List.{get_or_append_left}
use Rattle.std.proofs.Math.Seq.{take-append_seam}
use Rattle.std.specs.Prelude.{IfOk, int_le, unsigned_abs, Result, Ok, Err}
use Rattle.disk_core.specs.DiskImage.{DiskImage, bytes_of}
use Rattle.disk_core.specs.declared.file_id.FileId.TheVariants.{Segment}
use Rattle.frame_core.specs.declared.frame.Frame.{Frame}
use Rattle.frame_core.specs.declared.frame.FrameKind.{FrameKind}
use Rattle.frame_core.specs.declared.frame.FrameKind.TheVariants.{Pad, Message, Heartbeat}
use Rattle.frame_core.specs.declared.geometry.Geometry.{Geometry}
use Rattle.frame_core.specs.FrameEncoding.{HasLength, aligned_length, encoded, header_of}
use Rattle.frame_core.specs.Front.{IsFront}
use Rattle.frame_core.specs.Position.{frame_position}
use Rattle.frame_core.proofs.FrameEncodingLemmas.{length-header_of}
use Rattle.frame_core.proofs.FrontLemmas.{length-encoded}
use Rattle.frame_core.proofs.PositionLemmas.{given}
use Rattle.segment_store.specs.Layout.{IsGeometryOf, IsLayout, base_of, file_of, offset_of}
use Rattle.segment_store.specs.DamagedFrame.{ShowsFrame, belongs_at, is_at, is_stored}
use Rattle.segment_store.proofs.BlockPositionLemmas.{position_in_term}
use Rattle.segment_store.proofs.LayoutLemmas.{base_before, same_base}
use Rattle.segment_store.proofs.ReadLemmas.{belongs_stored}
use Rattle.replay_core.specs.declared.gathering.Source.{Source}
use Rattle.replay_core.specs.Gathering.{AreGathered}
use Rattle.replay_core.specs.Pages.{AgreeOver, HasByte, Pages}

first_true : (x y : Bool) → (x && y) ≡ true → x ≡ true
first_true true y is = refl
first_true false y is = is

second_true : (x y : Bool) → (x && y) ≡ true → y ≡ true
second_true true y is = is
second_true false y is = absurd (cc)

at_is : (p : ℕ) (found : Option ℕ) → is_at p found ≡ true → found ≡ Some p
at_is p None is = absurd (cc)
at_is p (Some other) is = ap Some (grind (arith, is))

-- an encoding is no longer than what its frame covers
encoded_covers : (kind : FrameKind) (f : Frame) → is_stored kind ≡ true → HasLength kind f.length f.payload → length (encoded f) ≤ aligned_length f
encoded_covers Pad f is long = omega (arith, ints, long.0, ap length long.1, length-encoded f)
encoded_covers Message f is long = omega (arith, ints, ap unsigned_abs long, length-encoded f)
encoded_covers Heartbeat f is long = absurd (cc)

-- a frame that belongs at a position has its encoding inside the position's term
inside_term : (s : Source) (g : Geometry) (limit : ℤ) (p : ℕ) (f : Frame) → IsGeometryOf s.layout g → HasLength f.kind f.length f.payload → belongs_at s.layout g p limit f ≡ true
    → p % unsigned_abs s.layout.term_length + length (encoded f) ≤ unsigned_abs s.layout.term_length
unfolding belongs_at
inside_term s g limit p f geometry long belongs =
    let before = first_true _ (int_le (pos (p + aligned_length f)) limit) belongs in
    let ends = second_true _ (int_le (f.term_offset +ℤ pos (aligned_length f)) g.term_length) before in
    let there : is_at p (frame_position g f) ≡ true = second_true _ (is_at p (frame_position g f)) (first_true _ _ before) in
    let has = given g f.term_id f.term_offset p (at_is p (frame_position g f) there) in
    let lies = position_in_term g f.term_id f.term_offset (pos p) has in
    let covers = encoded_covers f.kind f (belongs_stored s.layout g p limit f belongs) long in
    let part : p % unsigned_abs s.layout.term_length ≡ unsigned_abs f.term_offset = ap (λ (w : ℤ). p % unsigned_abs w) (sym geometry.term) ∙ lies.0 in
    omega (arith, ints, part, covers, ends, has.low, geometry.term)

module _ (image : DiskImage) (s : Source) (g : Geometry) (limit : ℤ) (base : Pages) (p : ℕ) (layout : IsLayout s.layout) (geometry : IsGeometryOf s.layout g) (from : unsigned_abs s.layout.start_position ≤ p) where
  -- a frame in front of gathered bytes that belongs there is shown, where the pages agree with the disk on it
  pub gathered_shown : (bytes : List ℕ) (f : Frame) (used : ℕ) → IsFront bytes f used → belongs_at s.layout g p limit f ≡ true → AreGathered image s base p bytes
      → AgreeOver image s.layout s.generation base p (length (encoded f)) → ShowsFrame image s.layout g limit p f
  gathered_shown bytes f used front belongs gathered agree = record {
    encodable = front.encodable;
    stands = λ k inside.
        let all : k < length bytes = omega (arith, inside, ap length front.stands, length-append (encoded f) front.rest) in
        let byte : HasByte image s.layout (p + k) (get_or bytes k 0) = gathered k all (agree k inside) in
        let same : get_or bytes k 0 ≡ get_or (encoded f) k 0 = ap (λ (bs : List ℕ). get_or bs k 0) front.stands ∙ get_or_append_left (encoded f) front.rest 0 k inside in
        let term = inside_term s g limit p f geometry front.encodable.length belongs in
        let begins : base_of s.layout (p + k) ≡ base_of s.layout p = same_base s.layout p k layout from (omega (arith, term, inside)) in
        let file : bytes_of (image (file_of s.layout (p + k))) ≡ bytes_of (image (file_of s.layout p)) =
        ap (λ (b : ℕ). bytes_of (image (Segment s.layout.recording (pos b)))) begins in
        let offset : offset_of s.layout (p + k) ≡ offset_of s.layout p + k = omega (arith, begins, base_before s.layout p) in (
          omega (arith, byte.inside, ap length file, offset),
          sym (ap (λ (bs : List ℕ). get_or bs (offset_of s.layout p + k) 0) file) ∙ sym (ap (λ (n : ℕ). get_or (bytes_of (image (file_of s.layout (p + k)))) n 0) offset) ∙ byte.is ∙ same,
        );
    belongs = belongs;
  }

-- what is so of each answer, by what is known of it
pub answered_as : {T E : Type 0} → (result : Result T E) (P Q : T → Type 0) → ((t : T) → P t → Q t) → IfOk result P → IfOk result Q
answered_as (Ok t) P Q so is = so t is
answered_as (Err e) P Q so is = tt

-- a frame in front begins with the 32 bytes of its header
pub front_long : (bytes : List ℕ) (frame : Frame) (used : ℕ) → IsFront bytes frame used → 32 ≤ length bytes
front_long bytes frame used front =
    let whole : length bytes ≡ length (encoded frame) + length front.rest = ap length front.stands ∙ length-append (encoded frame) front.rest in
    omega (arith, whole, length-encoded frame)

pub front_bytes : (bytes : List ℕ) (frame : Frame) (used : ℕ) → IsFront bytes frame used → take 32 bytes ≡ header_of frame
front_bytes bytes frame used front =
    let parts : bytes ≡ header_of frame ++ (frame.payload ++ front.rest) = front.stands ∙ append_assoc (header_of frame) frame.payload front.rest in
    ap (take 32) parts ∙ ap (λ (n : ℕ). take n (header_of frame ++ (frame.payload ++ front.rest))) (sym (length-header_of frame)) ∙ take-append_seam (header_of frame) (frame.payload ++ front.rest)
