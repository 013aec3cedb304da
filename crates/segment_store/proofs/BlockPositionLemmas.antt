-- A block lies in one segment, and stands there once its stored bytes do.
use Rattle.std.proofs.Common.{◌≡◌, ◌∙◌, sym, ap, subst, inl, inr, ℕ, ℤ, pos, negsuc, ◌+◌, ◌*◌, ◌%◌, ◌<◌, ◌≤◌, ◌≤ℤ◌, ◌<ℤ◌, ◌+ℤ◌, ◌*ℤ◌, List, [], ◌∷◌, ◌++◌, length, length-append, get_or, arith}
use Rattle.std.proofs.lemmas.Int.{ints}
use Rattle.std.proofs.lemmas.List.{get_or_append_left, get_or-append-add}
use Rattle.std.proofs.lemmas.Nat.{mod-mul-add}
use Rattle.std.specs.Prelude.{unsigned_abs}
use Rattle.disk_core.specs.declared.file_id.FileId.TheVariants.{Segment}
use Rattle.disk_core.specs.DiskImage.{DiskImage, bytes_of}
use Rattle.disk_core.specs.Standing.{Holds}
use Rattle.frame_core.specs.declared.block.Publication.{Publication}
use Rattle.frame_core.specs.declared.frame.FrameKind.{FrameKind}
use Rattle.frame_core.specs.declared.frame.Frame.{Frame}
use Rattle.frame_core.specs.declared.geometry.Geometry.{Geometry}
use Rattle.frame_core.specs.Block.{AreEncodable, AreBlockOf, covered, block_ids}
use Rattle.frame_core.specs.FrameEncoding.{aligned_length, stored, stored_as}
use Rattle.frame_core.specs.Position.{HasPosition, terms_since}
use Rattle.frame_core.proofs.FrameEncodingLemmas.{length-header_of}
use Rattle.frame_core.proofs.SegmentLemmas.{same_part}
use Rattle.segment_store.specs.declared.layout.Layout.{Layout}
use Rattle.segment_store.specs.Layout.{IsLayout, base_of, file_of, offset_of}
use Rattle.segment_store.specs.Stored.{HoldsFrames, stored_frames}
use Rattle.segment_store.proofs.LayoutLemmas.{base_before, same_base}
use Rattle.segment_store.proofs.StoredLemmas.{AreMessages, length_message, message_some, run_covers, stored_covered}

-- of bytes that stand, the first stand
pub holds_first : (file : List ℕ) (at : ℕ) (first rest : List ℕ) → Holds file at (first ++ rest) → Holds file at first
holds_first file at first rest holds k inside =
    let there = holds k (omega (arith, inside, length-append first rest)) in
    (there.0, there.1 ∙ get_or_append_left first rest 0 k inside)

-- and so do the others, behind them
pub holds_rest : (file : List ℕ) (at : ℕ) (first rest : List ℕ) → Holds file at (first ++ rest) → Holds file (at + length first) rest
holds_rest file at first rest holds k inside =
    let there = holds (length first + k) (omega (arith, inside, length-append first rest)) in
    let same : at + (length first + k) ≡ at + length first + k = omega arith in
    (omega (arith, there.0), ap (λ (n : ℕ). get_or file n 0) (sym same) ∙ there.1 ∙ get_or-append-add first rest k 0)

-- a position and its parts as natural numbers
nat_parts : (t w o p : ℤ) → pos 0 ≤ℤ t → pos 0 ≤ℤ o → o <ℤ w → p ≡ t *ℤ w +ℤ o
    → (unsigned_abs p ≡ unsigned_abs t * unsigned_abs w + unsigned_abs o) × (unsigned_abs o < unsigned_abs w)
nat_parts (pos a) (pos c) (pos b) p since low high is = (ap unsigned_abs is, omega (arith, ints, high))
nat_parts (negsuc a) w o p since low high is = absurd (omega (arith, ints, since))
nat_parts (pos a) (negsuc c) (pos b) p since low high is = absurd (omega (arith, ints, high))
nat_parts (pos a) w (negsuc b) p since low high is = absurd (omega (arith, ints, low))

-- where a position lies in its term
pub position_in_term : (g : Geometry) (term offset p : ℤ) → HasPosition g term offset p
    → (unsigned_abs p % unsigned_abs g.term_length ≡ unsigned_abs offset) × (unsigned_abs offset < unsigned_abs g.term_length)
position_in_term g term offset p has =
    let parts = nat_parts (terms_since g term) g.term_length offset p has.since has.low has.high has.sum in
    let w : ℕ = unsigned_abs g.term_length in
    (ap (λ (n : ℕ). n % w) parts.0 ∙ mod-mul-add (unsigned_abs (terms_since g term)) w (unsigned_abs offset) parts.1, parts.1)

-- data frames stand one after another where their stored bytes do
pub messages_stand : (image : DiskImage) (l : Layout) (frames : List Frame) (p : ℕ) → IsLayout l → unsigned_abs l.start_position ≤ p
    → AreEncodable frames → AreMessages frames
    → (0 < covered frames → (p % unsigned_abs l.term_length + covered frames ≤ unsigned_abs l.term_length) × Holds (bytes_of (image (file_of l p))) (offset_of l p) (stored_frames frames))
    → HoldsFrames image l p frames (p + covered frames)
messages_stand image l [] p layout from encodable messages here = omega arith
messages_stand image l (f ∷ fs) p layout from encodable messages here =
    let file : List ℕ = bytes_of (image (file_of l p)) in
    let size : length (stored f) ≡ aligned_length f = length_message f encodable.0 messages.0 in
    let some : 0 < covered (f ∷ fs) = omega (arith, message_some f encodable.0 messages.0) in
    let inside = (here some).0 in
    let holds = (here some).1 in
    let next : ℕ = p + aligned_length f in
    let others = messages_stand image l fs next layout (omega (arith, from)) encodable.1 messages.1
    (λ more.
    let within : p % unsigned_abs l.term_length + aligned_length f < unsigned_abs l.term_length = omega (arith, inside, more) in
    let base : base_of l next ≡ base_of l p = same_base l p (aligned_length f) layout from within in
    let part : next % unsigned_abs l.term_length ≡ p % unsigned_abs l.term_length + aligned_length f =
    same_part p (aligned_length f) (unsigned_abs l.term_length) within in
    let offset : offset_of l p + length (stored f) ≡ offset_of l next = omega (arith, size, base, base_before l p) in
    let behind : Holds file (offset_of l p + length (stored f)) (stored_frames fs) = holds_rest file (offset_of l p) (stored f) (stored_frames fs) holds in (
      omega (arith, inside, part),
      subst (λ (b : ℕ). Holds (bytes_of (image (Segment l.recording (pos b)))) (offset_of l next) (stored_frames fs)) (sym base)
          (subst (λ (o : ℕ). Holds file o (stored_frames fs)) offset behind),
    )) in
    let end : next + covered fs ≡ p + covered (f ∷ fs) = omega arith in
    (holds_first file (offset_of l p) (stored f) (stored_frames fs) holds, subst (HoldsFrames image l next fs) end others)

-- the frames of a block have encodings, and no more stored bytes than a block may cover
pub block_small : (g : Geometry) (publication : Publication) (frames : List Frame) (position : ℤ) → AreBlockOf g publication frames position
    → AreEncodable frames × (length (stored_frames frames) ≤ 65536)
block_small g publication [] position is = absurd is
block_small g publication (f ∷ fs) position is = (
  is.1,
  elim is.2 [
    | inl pad ↦
        let size : length (stored f) ≡ 32 = ap (λ (k : FrameKind). length (stored_as k f)) pad.kind ∙ length-header_of f in
        let alone : length (stored_frames fs) ≡ 0 = ap (λ (others : List Frame). length (stored_frames others)) pad.alone in
        omega (arith, size, alone, length-append (stored f) (stored_frames fs))
    | inr messages ↦
        let run = run_covers (block_ids g publication f) messages.offset messages.end (f ∷ fs) messages.ends in
        omega (arith, run.0, messages.covers, stored_covered (f ∷ fs) is.1)
  ],
)

-- the frames of a block stand one after another where its stored bytes do
pub block_stands : (image : DiskImage) (l : Layout) (g : Geometry) (publication : Publication) (frames : List Frame) (position : ℤ) → IsLayout l → g.term_length ≡ l.term_length
    → AreBlockOf g publication frames position → unsigned_abs l.start_position ≤ unsigned_abs position
    → Holds (bytes_of (image (file_of l (unsigned_abs position)))) (offset_of l (unsigned_abs position)) (stored_frames frames)
    → HoldsFrames image l (unsigned_abs position) frames (unsigned_abs position + covered frames)
block_stands image l g publication [] position layout same is from holds = absurd is
block_stands image l g publication (f ∷ fs) position layout same is from holds =
    let p : ℕ = unsigned_abs position in
    elim is.2 [
      | inl pad ↦
          let alone : covered fs ≡ 0 = ap covered pad.alone in (
            holds_first (bytes_of (image (file_of l p))) (offset_of l p) (stored f) (stored_frames fs) holds,
            subst (λ (others : List Frame). HoldsFrames image l (p + aligned_length f) others (p + covered (f ∷ fs))) (sym pad.alone) (omega (arith, alone)),
          )
      | inr messages ↦
          let run = run_covers (block_ids g publication f) messages.offset messages.end (f ∷ fs) messages.ends in
          let lies = position_in_term g f.term_id f.term_offset position is.0 in
          let begins : unsigned_abs f.term_offset ≡ messages.offset = ap unsigned_abs messages.begins in
          let width : unsigned_abs g.term_length ≡ unsigned_abs l.term_length = ap unsigned_abs same in
          let part : p % unsigned_abs l.term_length ≡ messages.offset = ap (λ (w : ℕ). p % w) (sym width) ∙ lies.0 ∙ begins in
          let ends : messages.end ≤ unsigned_abs l.term_length = omega (arith, ints, messages.inside, width) in
          messages_stand image l (f ∷ fs) p layout from is.1 run.1 (λ some. (omega (arith, part, ends, run.0), holds))
    ]
