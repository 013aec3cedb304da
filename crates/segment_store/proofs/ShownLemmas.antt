-- Which frame a file shows, by its header.
use Rattle.std.proofs.Common.{◌≡◌, ◌⊎◌, ◌∙◌, inl, inr, sym, ap, subst, refl, ℕ, ℤ, pos, negsuc, ◌≤ℤ◌, ◌+◌, ◌-◌, ◌<◌, ◌≤◌, Bool, true, List, [], ◌++◌, Some, length, take, drop, min, append-nil, length-take, length-drop, arith}
use Rattle.std.proofs.lemmas.Int.{ints}
use Rattle.std.proofs.lemmas.List.{take-take}
use Rattle.std.proofs.Math.Seq.{take-add}
use Rattle.std.specs.Prelude.{unsigned_abs, IsTrue}
use Rattle.disk_core.specs.declared.file_id.FileId.{FileId}
use Rattle.disk_core.specs.DiskImage.{DiskImage, bytes_of}
use Rattle.frame_core.specs.declared.frame.Frame.{Frame}
use Rattle.frame_core.specs.declared.frame.FrameKind.{FrameKind}
use Rattle.frame_core.specs.declared.frame.FrameKind.TheVariants.{Pad, Message, Heartbeat}
use Rattle.frame_core.specs.declared.geometry.Geometry.{Geometry}
use Rattle.frame_core.specs.declared.refusal.Refusal.{Refusal}
use Rattle.frame_core.specs.declared.refusal.Refusal.TheVariants.{DeviceFault, NoMemory}
use Rattle.frame_core.specs.FrameEncoding.{HasLength, aligned_length, encoded}
use Rattle.frame_core.specs.Header.{HasHeaderLength, StartsWithHeader, without_payload}
use Rattle.frame_core.proofs.FrontLemmas.{length-encoded}
use Rattle.frame_core.proofs.HeaderLemmas.{encoding_starts, header_carries, one_header}
use Rattle.segment_store.specs.declared.layout.Layout.{Layout}
use Rattle.segment_store.specs.Layout.{file_of, offset_of}
use Rattle.segment_store.specs.DamagedFrame.{IsDamaged, RefusesFrame, ShowsFrame, ShowsPayload, belongs_at, is_stored}
use Rattle.segment_store.specs.Reading.{RefusesPayload, TellsPayload, encoded_size, size_of}
use Rattle.segment_store.proofs.ReadLemmas.{belongs_header, belongs_stored, front_holds, shown_begins}

-- what a window has from an offset on
pub record HasNumbersFrom (file : List ℕ) (offset : ℕ) (bytes : List ℕ) : Type 0 where
  pub size : ℕ
  pub are : bytes ≡ take size (drop offset file)
  pub enough : (32 ≤ size) ⊎ (size ≡ min 65536 (length file - offset))

module _ (image : DiskImage) (l : Layout) (g : Geometry) (limit : ℤ) (p : ℕ) (bytes : List ℕ) where
  abbrev file : List ℕ
  file = bytes_of (image (file_of l p))

  payload_length : (kind : FrameKind) (header : Frame) → is_stored kind ≡ true → HasHeaderLength kind header.length
      → (payload : List ℕ) → length payload ≡ size_of kind header - 32 → (kind ≡ Pad → payload ≡ []) → HasLength kind header.length payload
  payload_length Pad header is long payload size none = (long, none refl)
  payload_length Message header is long payload size none = whole header.length long size
    where
      whole : (z : ℤ) → pos 32 ≤ℤ z → length payload ≡ unsigned_abs z - 32 → z ≡ pos (32 + length payload)
      whole (pos n) low size = ap pos (omega (arith, ints, low, size))
      whole (negsuc n) low size = absurd (omega (arith, ints, low))
  payload_length Heartbeat header is long payload size none = absurd (cc)

  size_low : (kind : FrameKind) (header : Frame) → HasHeaderLength kind header.length → 32 ≤ size_of kind header
  size_low Pad header long = omega arith
  size_low Message header long = omega (arith, ints, long)
  size_low Heartbeat header long = omega arith

  -- a header in front of the bytes, which belongs there and whose frame is whole, is that of a frame that is shown
  pub header_shown : (header : Frame) (size : ℕ) (payload : List ℕ) → bytes ≡ take size (drop (offset_of l p) file) → StartsWithHeader bytes header → belongs_at l g p limit header ≡ true
      → TellsPayload file (offset_of l p) (encoded_size header) (Some payload) → ShowsFrame image l g limit p (record header { payload = payload })
  header_shown header size payload are starts belongs (whole, is) =
      let low = size_low header.kind header starts.length in
      let behind : List ℕ = drop 32 (drop (offset_of l p) file) in
      let long : length payload ≡ encoded_size header - 32 = omega (arith, ap length is, length-take (encoded_size header - 32) behind, length-drop 32 (drop (offset_of l p) file), length-drop (offset_of l p) file, whole, low) in
      let none : header.kind ≡ Pad → payload ≡ [] = λ pad. is ∙ ap (λ (k : FrameKind). take (size_of k header - 32) behind) pad in
      let carried = header_carries header bytes payload starts (payload_length header.kind header (belongs_stored l g p limit header belongs) starts.length payload long none) in
      let room : 32 ≤ size = omega (arith, starts.whole, ap length are, length-take size (drop (offset_of l p) file)) in
      let first : take 32 bytes ≡ take 32 (drop (offset_of l p) file) = ap (take 32) are ∙ take-take 32 size (drop (offset_of l p) file) room in
      let all : take (encoded_size header) (drop (offset_of l p) file) ≡ encoded (record header { payload = payload }) ++ [] =
      ap (λ (n : ℕ). take n (drop (offset_of l p) file)) (omega (arith, low)) ∙ take-add 32 (encoded_size header - 32) (drop (offset_of l p) file)
      ∙ ap (λ (xs : List ℕ). xs ++ take (encoded_size header - 32) behind) (sym first) ∙ ap (λ (xs : List ℕ). take 32 bytes ++ xs) (sym is) ∙ sym carried.1 ∙ sym (append-nil (encoded (record header { payload = payload }))) in
      record {
        encodable = carried.0;
        stands = front_holds file (take (encoded_size header) (drop (offset_of l p) file)) (encoded (record header { payload = payload })) [] (offset_of l p) (encoded_size header) refl all;
        belongs = belongs_header l g p limit header payload ∙ belongs;
      }

  -- such a header, of a frame that carries something
  pub header_carries_some : (header : Frame) (size : ℕ) → bytes ≡ take size (drop (offset_of l p) file) → StartsWithHeader bytes header → belongs_at l g p limit header ≡ true
      → 32 < encoded_size header → offset_of l p + encoded_size header ≤ length file → ShowsPayload image l g limit p
  header_carries_some header size are starts belongs some whole =
      let behind : List ℕ = drop 32 (drop (offset_of l p) file) in
      let payload : List ℕ = take (encoded_size header - 32) behind in (
        record header { payload = payload },
        header_shown header size payload are starts belongs (whole, refl),
        omega (arith, some, whole, length-take (encoded_size header - 32) behind, length-drop 32 (drop (offset_of l p) file), length-drop (offset_of l p) file),
      )

  size_shown : (kind : FrameKind) (f : Frame) → HasLength kind f.length f.payload → is_stored kind ≡ true → size_of kind f ≡ 32 + length f.payload
  size_shown Pad f long is = omega (arith, ap length long.1)
  size_shown Message f long is = ap unsigned_abs long
  size_shown Heartbeat f long is = absurd (cc)

  size_same : (kind : FrameKind) (f : Frame) → size_of kind (without_payload f) ≡ size_of kind f
  size_same Pad f = refl
  size_same Message f = refl
  size_same Heartbeat f = refl

  -- a frame that is shown has its header in front, belongs there and is whole
  pub shown_header : (f : Frame) → HasNumbersFrom file (offset_of l p) bytes → ShowsFrame image l g limit p f
      → StartsWithHeader bytes (without_payload f) × (belongs_at l g p limit (without_payload f) ≡ true) × (offset_of l p + encoded_size (without_payload f) ≤ length file)
  shown_header f has shown =
      let last = shown.stands (length (encoded f) - 1) (omega (arith, length-encoded f)) in
      let reach : offset_of l p + length (encoded f) ≤ length file = omega (arith, last.0, length-encoded f) in
      let room : 32 ≤ has.size = elim has.enough [ inl low ↦ low | inr all ↦ omega (arith, all, reach, length-encoded f) ] in
      let begins = shown_begins image l g limit p f has.size room shown in
      let starts = encoding_starts bytes begins.1.0 f shown.encodable (subst (λ (bs : List ℕ). 32 ≤ length bs) (sym has.are) begins.0) (ap (take 32) has.are ∙ begins.1.1) in
      let stored = belongs_stored l g p limit f shown.belongs in
      (starts, belongs_header l g p limit f [] ∙ shown.belongs, omega (arith, reach, size_same f.kind f, size_shown f.kind f shown.encodable.length stored, length-encoded f))

some_length : (kind : FrameKind) (header : Frame) → is_stored kind ≡ true → HasHeaderLength kind header.length → 0 < aligned_length header
some_length Pad header is long = omega (arith, ints, long)
some_length Message header is long = omega (arith, ints, long)
some_length Heartbeat header is long = absurd (cc)

-- a header that belongs covers some bytes
pub header_some : (l : Layout) (g : Geometry) (limit : ℤ) (p : ℕ) (bytes : List ℕ) (header : Frame) → StartsWithHeader bytes header → belongs_at l g p limit header ≡ true → 0 < aligned_length header
header_some l g limit p bytes header starts belongs = some_length header.kind header (belongs_stored l g p limit header belongs) starts.length

-- what is read at a position by its first bytes, which were read at the spot of the position
module _ (image : DiskImage) (l : Layout) (g : Geometry) (limit position : ℤ) (p : ℕ) (file : FileId) (offset : ℕ) (bytes : List ℕ) (asked : ℕ)
    (at : p ≡ unsigned_abs position) (file_is : file ≡ file_of l p) (offset_is : offset ≡ offset_of l p) (room : 32 ≤ asked) where
  abbrev all : List ℕ
  all = bytes_of (image (file_of l p))

  same_file : bytes_of (image file) ≡ all
  same_file = ap (λ (f : FileId). bytes_of (image f)) file_is

  -- the first bytes
  abbrev pub WereRead : Type 0
  WereRead = bytes ≡ take asked (drop offset (bytes_of (image file)))

  there : WereRead → bytes ≡ take asked (drop (offset_of l p) all)
  there read = read ∙ ap (λ (n : ℕ). take asked (drop n (bytes_of (image file)))) offset_is ∙ ap (λ (xs : List ℕ). take asked (drop (offset_of l p) xs)) same_file

  has : WereRead → HasNumbersFrom all (offset_of l p) bytes
  has read = record { size = asked; are = there read; enough = inl room }

  -- where no header in front of them belongs there, no frame is shown
  pub no_header : WereRead → ((header : Frame) → StartsWithHeader bytes header → belongs_at l g p limit header ≡ true → ⊥) → IsDamaged image l g limit (unsigned_abs position)
  no_header read none = subst (λ (n : ℕ). IsDamaged image l g limit n) at (λ f shown. let begins = shown_header image l g limit p bytes f (has read) shown in none (without_payload f) begins.0 begins.1)

  module _ (header : Frame) (starts : StartsWithHeader bytes header) (belongs : belongs_at l g p limit header ≡ true) where
    -- the frame of a header and the payload that stands behind it is shown
    pub payload_shows : WereRead → (payload : List ℕ) → TellsPayload (bytes_of (image file)) offset (encoded_size header) (Some payload) → ShowsFrame image l g limit (unsigned_abs position) (record header { payload = payload })
    payload_shows read payload told =
        let here : TellsPayload all (offset_of l p) (encoded_size header) (Some payload) =
        subst (λ (n : ℕ). TellsPayload all n (encoded_size header) (Some payload)) offset_is (subst (λ (xs : List ℕ). TellsPayload xs offset (encoded_size header) (Some payload)) same_file told) in
        subst (λ (n : ℕ). ShowsFrame image l g limit n (record header { payload = payload })) at (header_shown image l g limit p bytes header asked payload (there read) starts belongs here)

    -- none is where the file ends before the frame does
    pub too_short : WereRead → length (bytes_of (image file)) < offset + encoded_size header → IsDamaged image l g limit (unsigned_abs position)
    too_short read short = subst (λ (n : ℕ). IsDamaged image l g limit n) at (λ f shown.
        let begins = shown_header image l g limit p bytes f (has read) shown in
        let same : encoded_size (without_payload f) ≡ encoded_size header = ap encoded_size (one_header bytes (without_payload f) header begins.0 starts) in
        omega (arith, short, ap length same_file, offset_is, begins.2, same))

    -- memory is wanted for the payload of a frame that is shown
    pub refuses_frame : (obeys : Bool) (refusal : Refusal) → (IsTrue obeys → WereRead) → RefusesPayload obeys (bytes_of (image file)) offset (encoded_size header) refusal → RefusesFrame obeys image l g limit position refusal
    refuses_frame obeys DeviceFault read refuses = tt
    refuses_frame obeys NoMemory read (some, whole) = λ here.
        subst (λ (n : ℕ). ShowsPayload image l g limit n) at
        (header_carries_some image l g limit p bytes header asked (there (read here)) starts belongs some (omega (arith, whole here, ap length same_file, offset_is)))
    refuses_frame obeys refusal read refuses = absurd refuses
