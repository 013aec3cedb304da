-- A block lies in one segment.
use Rattle.std.proofs.Common.{◌≡◌, ◌∙◌, inl, inr, sym, ap, subst, refl, ℕ, ℤ, pos, negsuc, ◌+◌, ◌-◌, ◌*◌, ◌/◌, ◌%◌, ◌^◌, ◌<◌, ◌≤◌, ◌+ℤ◌, ◌*ℤ◌, ◌≤ℤ◌, true, List, [], ◌∷◌, ◌++◌, append-nil, append_assoc, unsigned_abs, arith}
use Rattle.std.proofs.lemmas.Int.{ints}
use Rattle.std.proofs.lemmas.Nat.{pow-add}
use Rattle.engine_core.proofs.Words.{AreEncodable, Block, DiskImage, FileId, Frame, FrameKind, Geometry, Heartbeat, HoldsFrames, IsAligned, IsFromStart, IsLayout, Layout, LieIn, Message, Pad, Recording, Segment, Stands, aligned_length, base_of, covered, covered-append, end_position, file_of, frames_of, is_power, is_term_length, last_of, layout_of}
use Rattle.frame_core.specs.declared.block.Publication.{Publication}
use Rattle.frame_core.specs.Block.{AreBlockOf, block_ids}
use Rattle.frame_core.specs.FrameEncoding.{HasLength}
use Rattle.frame_core.specs.Position.{terms_since}
use Rattle.frame_core.proofs.SegmentLemmas.{same_part}
use Rattle.segment_store.specs.Layout.{IsBlockIn}
use Rattle.segment_store.proofs.BlockPositionLemmas.{position_in_term}
use Rattle.segment_store.proofs.LayoutLemmas.{same_base, start_before}
use Rattle.segment_store.proofs.StoredLemmas.{AreMessages, message_some, run_covers}
use Rattle.archive_model.specs.Acceptance.{AreBlocksFrom}
use Rattle.engine_core.proofs.files.FrameLemmas.{holds_append}

-- data frames of one term lie in the segment of the first
messages_lie : (l : Layout) (this : FileId) (fs : List Frame) (p : ℕ) → IsLayout l
    → unsigned_abs l.start_position ≤ p → AreEncodable fs → AreMessages fs
    → (0 < covered fs → (p % unsigned_abs l.term_length + covered fs ≤ unsigned_abs l.term_length) × (file_of l p ≡ this)) → LieIn this l p fs
messages_lie l this [] p layout from encodable messages here = tt
messages_lie l this (f ∷ fs) p layout from encodable messages here =
    let some : 0 < covered (f ∷ fs) = omega (arith, message_some f encodable.0 messages.0) in
    let inside = (here some).0 in
    let file : file_of l p ≡ this = (here some).1 in (
      file,
      messages_lie l this fs (p + aligned_length f) layout (omega (arith, from)) encodable.1 messages.1
          (λ more.
          let within : p % unsigned_abs l.term_length + aligned_length f < unsigned_abs l.term_length = omega (arith, inside, more) in
          let base : base_of l (p + aligned_length f) ≡ base_of l p = same_base l p (aligned_length f) layout from within in
          let part : (p + aligned_length f) % unsigned_abs l.term_length ≡ p % unsigned_abs l.term_length + aligned_length f = same_part p (aligned_length f) (unsigned_abs l.term_length) within in
          (omega (arith, inside, part), ap (λ (b : ℕ). Segment l.recording (pos b)) base ∙ file)),
    )

pub block_lies : (l : Layout) (g : Geometry) (publication : Publication) (frames : List Frame) (position : ℤ) → IsLayout l → g.term_length ≡ l.term_length → AreBlockOf g publication frames position
    → unsigned_abs l.start_position ≤ unsigned_abs position → LieIn (file_of l (unsigned_abs position)) l (unsigned_abs position) frames
block_lies l g publication [] position layout same is from = tt
block_lies l g publication (f ∷ fs) position layout same is from =
    let p : ℕ = unsigned_abs position in
    elim is.2 [
      | inl pad ↦ (refl, subst (LieIn (file_of l p) l (p + aligned_length f)) (sym pad.alone) tt)
      | inr messages ↦
          let run = run_covers (block_ids g publication f) messages.offset messages.end (f ∷ fs) messages.ends in
          let lies = position_in_term g f.term_id f.term_offset position is.0 in
          let begins : unsigned_abs f.term_offset ≡ messages.offset = ap unsigned_abs messages.begins in
          let width : unsigned_abs g.term_length ≡ unsigned_abs l.term_length = ap unsigned_abs same in
          let part : p % unsigned_abs l.term_length ≡ messages.offset = ap (λ (w : ℕ). p % w) (sym width) ∙ lies.0 ∙ begins in
          let ends : messages.end ≤ unsigned_abs l.term_length = omega (arith, ints, messages.inside, width) in
          messages_lie l (file_of l p) (f ∷ fs) p layout from is.1 run.1 (λ some. (omega (arith, part, ends, run.0), refl))
    ]

-- the frames of blocks are encodable
encodable_append : (fs gs : List Frame) → AreEncodable fs → AreEncodable gs
    → AreEncodable (fs ++ gs)
encodable_append [] gs these those = those
encodable_append (f ∷ fs) gs these those = (these.0, encodable_append fs gs these.1 those)

block_encodable : (g : Geometry) (publication : Publication) (fs : List Frame) (position : ℤ)
    → AreBlockOf g publication fs position → AreEncodable fs
block_encodable g publication [] position none = tt
block_encodable g publication (f ∷ fs) position is = is.1

pub blocks_encodable : (g : Geometry) (publication : Publication) (position : ℤ) (bs : List Block)
    → AreBlocksFrom g publication position bs → AreEncodable (frames_of bs)
blocks_encodable g publication position [] all = tt
blocks_encodable g publication position (b ∷ bs) all = encodable_append b.frames (frames_of bs) (block_encodable g publication b.frames b.position all.0) (blocks_encodable g publication (end_position b) bs all.2)

-- frames that lie in a file, and more behind them
pub lie_append : (this : FileId) (l : Layout) (fs gs : List Frame) (from mid : ℕ) → mid ≡ from + covered fs → LieIn this l from fs → LieIn this l mid gs → LieIn this l from (fs ++ gs)
lie_append this l [] gs from mid is front back = subst (λ (n : ℕ). LieIn this l n gs) (omega (arith, is)) back
lie_append this l (f ∷ fs) gs from mid is front back = (front.0, lie_append this l fs gs (from + aligned_length f) mid (omega (arith, is)) front.1 back)

-- the frames of blocks, and of one more
pub frames_added : (bs : List Block) (block : Block)
    → frames_of (bs ++ block ∷ []) ≡ frames_of bs ++ block.frames
frames_added [] block = append-nil block.frames
frames_added (b ∷ bs) block = ap (λ (fs : List Frame). b.frames ++ fs) (frames_added bs block) ∙ sym (append_assoc b.frames (frames_of bs) block.frames)

-- a block that goes on behind others in their segment: they stand behind what is recorded together
pub stands_more : (image : DiskImage) (r : Recording) (bs : List Block) (block : Block) → IsLayout (layout_of r.descriptor) → IsFromStart (layout_of r.descriptor) block.position → IsBlockIn (layout_of r.descriptor) block
    → unsigned_abs block.position ≡ last_of r + covered (frames_of bs) → base_of (layout_of r.descriptor) (unsigned_abs block.position) ≡ base_of (layout_of r.descriptor) (last_of r)
    → Stands image (file_of (layout_of r.descriptor) (last_of r)) r (frames_of bs) → HoldsFrames image (layout_of r.descriptor) (unsigned_abs block.position) block.frames (unsigned_abs block.position + covered block.frames)
    → Stands image (file_of (layout_of r.descriptor) (last_of r)) r (frames_of (bs ++ block ∷ []))
stands_more image r bs block layout from is at base stood holds =
    let l : Layout = layout_of r.descriptor in
    let this : FileId = file_of l (last_of r) in
    let file : file_of l (unsigned_abs block.position) ≡ this = ap (λ (b : ℕ). Segment l.recording (pos b)) base in
    let lie : LieIn this l (unsigned_abs block.position) block.frames =
    subst (λ (f : FileId). LieIn f l (unsigned_abs block.position) block.frames) file (block_lies l is.geometry is.publication block.frames block.position layout is.term is.is_block (start_before l block.position layout from)) in
    let parts = covered-append (frames_of bs) block.frames in
    let end : unsigned_abs block.position + covered block.frames ≡ last_of r + covered (frames_of bs ++ block.frames) = omega (arith, at, parts) in
    subst (λ (fs : List Frame). Stands image this r fs) (sym (frames_added bs block)) (record {
      holds = subst (HoldsFrames image l (last_of r) (frames_of bs ++ block.frames)) end (holds_append image l (frames_of bs) block.frames (last_of r) (unsigned_abs block.position) (unsigned_abs block.position + covered block.frames)
          (subst (HoldsFrames image l (last_of r) (frames_of bs)) (sym at) stood.holds) holds);
      lie = lie_append this l (frames_of bs) block.frames (last_of r) (unsigned_abs block.position) at stood.lie lie;
    })

-- a block covers something
pub block_some : (g : Geometry) (publication : Publication) (frames : List Frame) (position : ℤ) → AreBlockOf g publication frames position → 0 < covered frames
block_some g publication [] position is = absurd is
block_some g publication (f ∷ fs) position (at, encodable, inl pad) =
    let long : pos 32 ≤ℤ f.length = pad_length f.kind f.length f.payload pad.kind encodable.0.length in omega (arith, ints, long)
  where
    pad_length : (kind : FrameKind) (size : ℤ) (payload : List ℕ) → kind ≡ Pad → HasLength kind size payload → pos 32 ≤ℤ size
    pad_length Pad size payload is has = has.0
    pad_length Message size payload is has = absurd cc
    pad_length Heartbeat size payload is has = absurd cc
block_some g publication (f ∷ fs) position (at, encodable, inr messages) =
    let run = run_covers (block_ids g publication f) messages.offset messages.end (f ∷ fs) messages.ends in
    omega (arith, message_some f encodable.0 run.1.0)

-- frames cover a multiple of 32
covered_is : (fs : List Frame) → (k : ℕ) × (covered fs ≡ 32 * k)
covered_is [] = (0, refl)
covered_is (f ∷ fs) = let rest = covered_is fs in let is = rest.1 in ((unsigned_abs f.length + 31) / 32 + rest.0, omega (arith, is))

-- so is a position at an offset that is one, in terms of such a length
position_aligned : (since term offset position : ℤ) (k o : ℕ) → 16 ≤ k → term ≡ pos (2 ^ k) → offset ≡ pos (32 * o) → pos 0 ≤ℤ since
    → position ≡ since *ℤ term +ℤ offset → IsAligned position
position_aligned (pos a) term offset position k o least term_is offset_is low sum =
    let more : 2 ^ k ≡ 2 ^ (k - 5) * 2 ^ 5 = ap (λ (n : ℕ). 2 ^ n) (omega (arith, least)) ∙ pow-add 2 (k - 5) 5 in
    let whole : a * 2 ^ k ≡ a * (2 ^ (k - 5) * 2 ^ 5) = ap (λ (n : ℕ). a * n) more in
    let here : position ≡ pos a *ℤ pos (2 ^ k) +ℤ pos (32 * o) = sum ∙ ap (λ (z : ℤ). pos a *ℤ z +ℤ offset) term_is ∙ ap (λ (z : ℤ). pos a *ℤ pos (2 ^ k) +ℤ z) offset_is in
    let there : position ≡ pos (a * 2 ^ k + 32 * o) = omega (arith, ints, here) in
    let multiple : a * 2 ^ k + 32 * o ≡ 32 * (a * 2 ^ (k - 5) + o) = omega (arith, whole) in
    (a * 2 ^ (k - 5) + o, there ∙ ap pos multiple)
position_aligned (negsuc a) term offset position k o least term_is offset_is low sum = absurd (omega (arith, ints, low))

-- a block ends at a multiple of 32
pub block_aligned : (g : Geometry) (publication : Publication) (frames : List Frame) (position : ℤ) → is_term_length g.term_length ≡ true
    → AreBlockOf g publication frames position → IsAligned (position +ℤ pos (covered frames))
block_aligned g publication [] position term is = absurd is
block_aligned g publication (f ∷ fs) position term is =
    let power = is_power g.term_length term in
    let offset = is.1.0.offset in
    let at = position_aligned (terms_since g f.term_id) g.term_length f.term_offset position power.0 offset.0 power.1 power.3 offset.1 is.0.since is.0.sum in
    let size = covered_is (f ∷ fs) in
    (at.0 + size.0, omega (arith, ints, at.1, size.1))
