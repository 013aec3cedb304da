-- Which frame the bytes of a segment file show.
use Rattle.std.proofs.Common.{◌≡◌, ◌∙◌, sym, ap, subst, refl, ℕ, ℤ, pos, negsuc, ◌≤ℤ◌, ◌+◌, ◌-◌, ◌<◌, ◌≤◌, ◌&&◌, Bool, true, false, List, ◌++◌, length, take, drop, get_or, length-append, length-take, length-drop, arith, append-nil, min, Some}
use Rattle.std.proofs.lemmas.Int.{ints}
use Rattle.std.proofs.lemmas.List.{get_or_append_left, get_or-take, get_or-drop, ext_get_or, take-append-drop, take-take, drop-drop, drop-take, take_min, length-take-le}
use Rattle.std.proofs.Math.Seq.{drop-length, take-append_seam}
use Rattle.std.specs.Prelude.{int_le, unsigned_abs}
use Rattle.frame_core.specs.Limits.{is_mtu}
use Rattle.disk_core.specs.DiskImage.{DiskImage, bytes_of}
use Rattle.disk_core.specs.Calls.{IsRead}
use Rattle.disk_core.specs.Standing.{Holds}
use Rattle.frame_core.specs.declared.frame.Frame.{Frame}
use Rattle.frame_core.specs.declared.frame.FrameKind.{FrameKind}
use Rattle.frame_core.specs.declared.frame.FrameKind.TheVariants.{Pad, Message, Heartbeat}
use Rattle.frame_core.specs.declared.geometry.Geometry.{Geometry}
use Rattle.frame_core.specs.FrameEncoding.{IsEncodable, HasLength, aligned_length, encoded}
use Rattle.frame_core.specs.Front.{IsFront, used_by}
use Rattle.frame_core.proofs.FrontLemmas.{length-encoded, encoding_in_front}
use Rattle.segment_store.specs.declared.layout.Layout.{Layout}
use Rattle.segment_store.specs.Layout.{file_of, offset_of}
use Rattle.segment_store.specs.DamagedFrame.{ShowsFrame, belongs_at, is_stored}
use Rattle.segment_store.specs.Reading.{AreReadAt, TellsPayload}

-- bytes in front of what was read at an offset stand there
pub front_holds : (file bytes first rest : List ℕ) (at size : ℕ) → bytes ≡ take size (drop at file) → bytes ≡ first ++ rest → Holds file at first
front_holds file bytes first rest at size are is k inside =
    let long : length first + length rest ≤ length file - at =
    omega (arith, ap length is, length-append first rest, ap length are, length-take size (drop at file), length-drop at file) in
    let short : k < size = omega (arith, inside, ap length is, length-append first rest, ap length are, length-take size (drop at file)) in (
      omega (arith, long, inside),
      sym (get_or-drop at file k 0) ∙ sym (get_or-take size (drop at file) k 0 short) ∙ ap (λ (bs : List ℕ). get_or bs k 0) (sym are ∙ is) ∙ get_or_append_left first rest 0 k inside,
    )

-- bytes that stand at an offset are in front of what is read there, where so much is read
pub holds_front : (file first : List ℕ) (at size : ℕ) → 0 < length first → Holds file at first → length first ≤ size
    → take size (drop at file) ≡ first ++ drop (length first) (take size (drop at file))
holds_front file first at size some holds fits =
    let bytes : List ℕ = take size (drop at file) in
    let last = holds (length first - 1) (omega (arith, some)) in
    let room : length first ≤ length bytes = omega (arith, last.0, some, fits, length-take size (drop at file), length-drop at file) in
    let same : take (length first) bytes ≡ first = ext_get_or 0 (take (length first) bytes) first (omega (arith, length-take (length first) bytes, room))
    (λ k inside.
    let short : k < length first = omega (arith, inside, length-take (length first) bytes) in
    get_or-take (length first) bytes k 0 short ∙ get_or-take size (drop at file) k 0 (omega (arith, short, fits)) ∙ get_or-drop at file k 0 ∙ (holds k short).1) in
    sym (take-append-drop (length first) bytes) ∙ ap (λ (bs : List ℕ). bs ++ drop (length first) bytes) same

-- a frame belongs where its header does
pub belongs_header : (l : Layout) (g : Geometry) (p : ℕ) (limit : ℤ) (f : Frame) (payload : List ℕ)
    → belongs_at l g p limit (record f { payload = payload }) ≡ belongs_at l g p limit f
unfolding belongs_at
belongs_header l g p limit f payload = refl

first_true : (x y : Bool) → (x && y) ≡ true → x ≡ true
first_true true y is = refl
first_true false y is = is

second_true : (x y : Bool) → (x && y) ≡ true → y ≡ true
second_true true y is = is
second_true false y is = absurd (cc)

-- a frame that belongs at a position ends at or before the limit
pub belongs_ends : (l : Layout) (g : Geometry) (p : ℕ) (limit : ℤ) (f : Frame) → belongs_at l g p limit f ≡ true → pos (p + aligned_length f) ≤ℤ limit
unfolding belongs_at
belongs_ends l g p limit f belongs = omega (arith, ints, second_true _ (int_le (pos (p + aligned_length f)) limit) belongs)

-- only what segment files hold belongs
pub belongs_stored : (l : Layout) (g : Geometry) (p : ℕ) (limit : ℤ) (f : Frame) → belongs_at l g p limit f ≡ true → is_stored f.kind ≡ true
unfolding belongs_at
belongs_stored l g p limit f belongs = first_true _ _ (first_true _ _ (first_true _ _ (first_true _ _ belongs)))

covers_by : (kind : FrameKind) (f : Frame) → is_stored kind ≡ true → HasLength kind f.length f.payload → 0 < aligned_length f
covers_by Pad f is long = omega (arith, ints, long.0)
covers_by Message f is long = omega (arith, ints, ap unsigned_abs long)
covers_by Heartbeat f is long = absurd (cc)

-- a frame that belongs at a position covers some bytes
pub belongs_covers : (l : Layout) (g : Geometry) (p : ℕ) (limit : ℤ) (f : Frame) → IsEncodable f → belongs_at l g p limit f ≡ true → 0 < aligned_length f
belongs_covers l g p limit f encodable belongs = covers_by f.kind f (belongs_stored l g p limit f belongs) encodable.length

module _ (image : DiskImage) (l : Layout) (g : Geometry) (limit : ℤ) (p : ℕ) where
  abbrev file : List ℕ
  file = bytes_of (image (file_of l p))

  -- a frame that is shown is in front of what was read, where so much was read
  pub shown_front : (bytes : List ℕ) (f : Frame) (size : ℕ) → bytes ≡ take size (drop (offset_of l p) file) → ShowsFrame image l g limit p f → length (encoded f) ≤ size
      → (used : ℕ) × IsFront bytes f used
  shown_front bytes f size are shown fits =
      let some : 0 < length (encoded f) = omega (arith, length-encoded f) in
      let rest : List ℕ = drop (length (encoded f)) (take size (drop (offset_of l p) file)) in
      let is : bytes ≡ encoded f ++ rest = are ∙ holds_front file (encoded f) (offset_of l p) size some shown.stands fits in (
        used_by f.kind (length (encoded f)) (length (encoded f ++ rest)),
        subst (λ (bs : List ℕ). IsFront bs f (used_by f.kind (length (encoded f)) (length (encoded f ++ rest)))) (sym is) (encoding_in_front f rest shown.encodable),
      )

  -- what is read of a frame that is shown begins with its header
  pub shown_begins : (f : Frame) (size : ℕ) → 32 ≤ size → ShowsFrame image l g limit p f
      → (32 ≤ length (take size (drop (offset_of l p) file)))
      × ((rest : List ℕ) × (take 32 (take size (drop (offset_of l p) file)) ≡ take 32 (encoded f ++ rest)))
  shown_begins f size room shown =
      let all : ℕ = size + length (encoded f) in
      let some : 0 < length (encoded f) = omega (arith, length-encoded f) in
      let whole = holds_front file (encoded f) (offset_of l p) all some shown.stands (omega arith) in
      let last = shown.stands (length (encoded f) - 1) (omega (arith, some)) in
      let rest : List ℕ = drop (length (encoded f)) (take all (drop (offset_of l p) file)) in (
        omega (arith, last.0, some, length-encoded f, room, length-take size (drop (offset_of l p) file), length-drop (offset_of l p) file),
        (rest, same_first (drop (offset_of l p) file) size all room (omega arith) ∙ ap (take 32) whole),
      )
    where
      same_first : (bytes : List ℕ) (m n : ℕ) → 32 ≤ m → m ≤ n → take 32 (take m bytes) ≡ take 32 (take n bytes)
      same_first bytes m n low high = take-take 32 m bytes low ∙ sym (take-take 32 n bytes (omega (arith, low, high)))

-- an MTU has room for a header
pub mtu_room : (mtu : ℤ) → is_mtu mtu ≡ true → 32 ≤ unsigned_abs mtu
unfolding is_mtu
mtu_room (pos n) is = grind (arith, is)
mtu_room (negsuc n) is = absurd (cc)

-- and is no longer than this
pub mtu_short : (mtu : ℤ) → is_mtu mtu ≡ true → unsigned_abs mtu ≤ 65504
unfolding is_mtu
mtu_short (pos n) is = grind (arith, is)
mtu_short (negsuc n) is = absurd (cc)

-- what a call of the disk read into a buffer
pub read_is : (file old new : List ℕ) (offset count : ℕ) → IsRead file offset old new count → take count new ≡ take (length old) (drop offset file)
read_is file old new offset count read =
    let xs : List ℕ = drop offset file in
    let size : count ≡ min (length old) (length xs) = read.count_is ∙ ap (min (length old)) (sym (length-drop offset file)) in
    let long : length (take count xs) ≡ count = length-take-le count xs (omega (arith, size)) in
    ap (take count) read.buffer ∙ ap (λ (n : ℕ). take n (take count xs ++ drop count old)) (sym long) ∙ take-append_seam (take count xs) (drop count old)
    ∙ ap (λ (n : ℕ). take n xs) size ∙ take_min (length old) xs

-- the payload of a frame that was read whole
pub payload_in : (file front payload : List ℕ) (offset size : ℕ) → AreReadAt file offset front → 32 ≤ size → size ≤ length front → payload ≡ take (size - 32) (drop 32 front)
    → TellsPayload file offset size (Some payload)
payload_in file front payload offset size read low whole is =
    let xs : List ℕ = drop offset file in
    let long : length front ≡ min read.asked (length file - offset) = ap length read.are ∙ length-take read.asked xs ∙ ap (min read.asked) (length-drop offset file) in
    let parts : 32 + (read.asked - 32) ≡ read.asked = omega (arith, low, whole, long) in
    let behind : drop 32 front ≡ take (read.asked - 32) (drop 32 xs) =
    ap (drop 32) read.are ∙ ap (λ (n : ℕ). drop 32 (take n xs)) (sym parts) ∙ drop-take 32 (read.asked - 32) xs in (
      omega (arith, low, whole, long),
      is ∙ ap (take (size - 32)) behind ∙ take-take (size - 32) (read.asked - 32) (drop 32 xs) (omega (arith, whole, long)),
    )

-- and of one whose payload was read by a call of its own
pub payload_read : (file old new : List ℕ) (offset size count : ℕ) → length old ≡ size - 32 → 32 < size → IsRead file (offset + 32) old new count → length old ≤ count → offset + size ≤ length file
    → TellsPayload file offset size (Some new)
payload_read file old new offset size count long some read all whole =
    let xs : List ℕ = drop (offset + 32) file in
    let full : count ≡ length old = omega (arith, read.count_is, all) in (
      whole,
      read.buffer ∙ ap (λ (n : ℕ). take n xs ++ drop n old) full ∙ ap (λ (ys : List ℕ). take (length old) xs ++ ys) (drop-length old) ∙ append-nil (take (length old) xs)
          ∙ ap (λ (n : ℕ). take n xs) long ∙ ap (take (size - 32)) (sym (drop-drop 32 offset file)),
    )

-- a header's bytes are read where the buffer has room for them
pub short_file : (file old new : List ℕ) (offset size count : ℕ) → length old ≡ size - 32 → 32 < size → IsRead file (offset + 32) old new count → count < length old → length file < offset + size
short_file file old new offset size count long some read few = omega (arith, long, some, read.count_is, few)
