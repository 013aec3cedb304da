-- What stands in front of some bytes.
use Rattle.std.proofs.Common.{◌≡◌, ◌∙◌, sym, ap, refl, ℕ, ℤ, pos, ◌+◌, ◌-◌, ◌≤◌, List, [], ◌∷◌, ◌++◌, length, take, drop, append_assoc, length-append, length-drop, subst, arith}
use Rattle.std.proofs.Math.Seq.{take-add, take-append_seam, drop-append_seam}
use Rattle.std.proofs.lemmas.Int.{ints}
use Rattle.std.proofs.lemmas.List.{take-append-drop, length-take-le, length-replicate}
use Rattle.std.specs.Prelude.{slice_index, min, unsigned_abs, replicate}
use Rattle.frame_core.specs.declared.frame.FrameKind.{FrameKind}
use Rattle.frame_core.specs.declared.frame.FrameKind.TheVariants.{Pad, Message, Heartbeat}
use Rattle.frame_core.specs.declared.frame.Frame.{Frame}
use Rattle.frame_core.specs.FrameEncoding.{IsEncodable, IsAligned, IsHeader, Fits, HasLength, header_of, encoded, aligned, type_of, u16_at, i32_at, aligned_length, stored, stored_as}
use Rattle.frame_core.specs.Front.{IsFront, used_by}
use Rattle.frame_core.specs.Decoding.{IsBody, read_frame}
use Rattle.frame_core.proofs.FrameEncodingLemmas.{AreBytes, IsHeader-header_of, header_of-IsHeader, length-header_of, FitsSigned-i32_at, FitsSigned-i64_at}

-- how long an encoding is
pub length-encoded : (f : Frame) → length (encoded f) ≡ 32 + length f.payload
length-encoded f = length-append (header_of f) f.payload ∙ ap (λ (n : ℕ). n + length f.payload) (length-header_of f)

-- a front begins with its header
pub front_header : (bytes : List ℕ) (f : Frame) (used : ℕ) → IsFront bytes f used → IsHeader bytes f
front_header bytes f used front =
    let parts : bytes ≡ header_of f ++ (f.payload ++ front.rest) = front.stands ∙ append_assoc (header_of f) f.payload front.rest in
    subst (λ (bs : List ℕ). IsHeader bs f) (sym parts) (IsHeader-header_of f (f.payload ++ front.rest) front.encodable.fits)

-- behind the header stand the payload and the rest
front_payload : (bytes : List ℕ) (f : Frame) (used : ℕ) (front : IsFront bytes f used) → drop 32 bytes ≡ f.payload ++ front.rest
front_payload bytes f used front =
    let parts : bytes ≡ header_of f ++ (f.payload ++ front.rest) = front.stands ∙ append_assoc (header_of f) f.payload front.rest in
    ap (drop 32) parts ∙ sym (ap (λ (n : ℕ). drop n (header_of f ++ (f.payload ++ front.rest))) (length-header_of f)) ∙ drop-append_seam (header_of f) (f.payload ++ front.rest)

-- an encoding in front is no longer than the bytes
front_room : (bytes : List ℕ) (f : Frame) (used : ℕ) → IsFront bytes f used → 32 + length f.payload ≤ length bytes
front_room bytes f used front =
    let whole : length bytes ≡ length (encoded f) + length front.rest = ap length front.stands ∙ length-append (encoded f) front.rest in
    omega (arith, whole, length-encoded f)

-- what stands behind the header of a front, by its kind
body_by_kind : (kind : FrameKind) (size : ℤ) (payload bytes : List ℕ) (used : ℕ) → HasLength kind size payload → 32 + length payload ≤ length bytes
    → used ≡ used_by kind (32 + length payload) (length bytes) → u16_at bytes 6 ≡ type_of kind → i32_at bytes 0 ≡ size → (end : ℕ) × IsBody bytes kind end used
body_by_kind Pad size payload bytes used long room uses number is = (32, (number, rw is long.0, refl, uses))
body_by_kind Message size payload bytes used long room uses number is = (32 + length payload, (number, is ∙ long, omega arith, room, uses))
body_by_kind Heartbeat size payload bytes used long room uses number is =
    (32, (number, is ∙ long.0, refl, uses ∙ ap (λ (xs : List ℕ). 32 + length xs) long.1))

-- what stands behind the header of a front
pub front_body : (bytes : List ℕ) (f : Frame) (used : ℕ) → IsFront bytes f used → (end : ℕ) × IsBody bytes f.kind end used
front_body bytes f used front =
    let header = front_header bytes f used front in
    let uses : used ≡ used_by f.kind (32 + length f.payload) (length bytes) = front.uses ∙ ap (λ (n : ℕ). used_by f.kind n (length bytes)) (length-encoded f) in
    body_by_kind f.kind f.length f.payload bytes used front.encodable.length (front_room bytes f used front) uses header.type_at header.length_at

-- a body ends behind the header, and in the bytes
pub body_ends : (bytes : List ℕ) (kind : FrameKind) (end used : ℕ) → 32 ≤ length bytes → IsBody bytes kind end used → (32 ≤ end) × (end ≤ length bytes)
body_ends bytes Pad end used room body = (omega (arith, body.2), omega (arith, body.2))
body_ends bytes Message end used room body = (body.2, body.3)
body_ends bytes Heartbeat end used room body = (omega (arith, body.2), omega (arith, body.2))

-- the header's type is the kind's
body_type : (bytes : List ℕ) (kind : FrameKind) (end used : ℕ) → IsBody bytes kind end used → u16_at bytes 6 ≡ type_of kind
body_type bytes Pad end used body = body.0
body_type bytes Message end used body = body.0
body_type bytes Heartbeat end used body = body.0

-- the length is of the kind
body_length : (bytes payload : List ℕ) (kind : FrameKind) (end used : ℕ) → IsBody bytes kind end used → length payload ≡ end - 32 → HasLength kind (i32_at bytes 0) payload
body_length bytes [] Pad end used body long = (body.1, refl)
body_length bytes (b ∷ bs) Pad end used body long = absurd (omega (arith, body.2))
body_length bytes payload Message end used body long = body.1 ∙ ap pos (omega (arith, body.2))
body_length bytes [] Heartbeat end used body long = (body.1, refl)
body_length bytes (b ∷ bs) Heartbeat end used body long = absurd (omega (arith, body.2))

-- how many bytes it uses
body_uses : (bytes : List ℕ) (kind : FrameKind) (end used size : ℕ) → IsBody bytes kind end used → size ≡ end → used ≡ used_by kind size (length bytes)
body_uses bytes Pad end used size body is = body.3
body_uses bytes Message end used size body is = body.4 ∙ ap (λ (n : ℕ). min (aligned n) (length bytes)) (sym is)
body_uses bytes Heartbeat end used size body is = body.3 ∙ sym (is ∙ body.2)

-- the header that was read is the header
read_header : (bytes : List ℕ) (kind : FrameKind) (end used : ℕ) → 32 ≤ length bytes → slice_index bytes 4 ≡ 0 → IsBody bytes kind end used
    → IsHeader bytes (read_frame bytes kind end)
read_header bytes kind end used room version body = record {
  whole = room;
  length_at = refl;
  version_at = version;
  flags_at = refl;
  type_at = body_type bytes kind end used body;
  term_offset_at = refl;
  session_id_at = refl;
  stream_id_at = refl;
  term_id_at = refl;
  reserved_at = refl;
}

-- what was read fits
pub read_fits : (bytes : List ℕ) (kind : FrameKind) (end : ℕ) → AreBytes bytes → Fits (read_frame bytes kind end)
read_fits bytes kind end small = record {
  flags = small 5;
  length = FitsSigned-i32_at bytes 0 small;
  term_offset = FitsSigned-i32_at bytes 8 small;
  session_id = FitsSigned-i32_at bytes 12 small;
  stream_id = FitsSigned-i32_at bytes 16 small;
  term_id = FitsSigned-i32_at bytes 20 small;
  reserved = FitsSigned-i64_at bytes 24 small;
}

-- the first bytes and those behind, up to an end
joined : (bytes header : List ℕ) (end : ℕ) → 32 ≤ end → header ≡ take 32 bytes → bytes ≡ header ++ take (end - 32) (drop 32 bytes) ++ drop end bytes
joined bytes header end low is =
    let cut : take 32 bytes ++ take (end - 32) (drop 32 bytes) ≡ take end bytes =
    sym (take-add 32 (end - 32) bytes) ∙ ap (λ (n : ℕ). take n bytes) (omega arith) in
    rw (is, cut) (sym (take-append-drop end bytes))

-- a frame is read where its header and its body stand
pub front_read : (bytes : List ℕ) (kind : FrameKind) (end used : ℕ) → AreBytes bytes → 32 ≤ length bytes → slice_index bytes 4 ≡ 0 → IsAligned (i32_at bytes 8)
    → IsBody bytes kind end used → IsFront bytes (read_frame bytes kind end) used
front_read bytes kind end used small room version offset body =
    let f : Frame = read_frame bytes kind end in
    let ends = body_ends bytes kind end used room body in
    let long : length f.payload ≡ end - 32 = length-take-le (end - 32) (drop 32 bytes) (omega (arith, length-drop 32 bytes, ends.1)) in
    let size : length (encoded f) ≡ end = length-encoded f ∙ omega (arith, long, ends.0) in
    record {
      encodable = record { fits = read_fits bytes kind end small; length = body_length bytes f.payload kind end used body long; offset = offset };
      rest = drop end bytes;
      stands = joined bytes (header_of f) end ends.0 (header_of-IsHeader bytes f small (read_header bytes kind end used room version body));
      uses = body_uses bytes kind end used (length (encoded f)) body size;
    }

-- the kind follows from the type and the length
kind_is : (kind other : FrameKind) (size : ℤ) (xs ys : List ℕ) → type_of kind ≡ type_of other → HasLength kind size xs → HasLength other size ys → kind ≡ other
kind_is Pad Pad size xs ys number here there = refl
kind_is Pad Message size xs ys number here there = absurd (omega arith)
kind_is Pad Heartbeat size xs ys number here there = absurd (omega arith)
kind_is Message Pad size xs ys number here there = absurd (omega arith)
kind_is Message Message size xs ys number here there = refl
kind_is Message Heartbeat size xs ys number here there = absurd (omega (arith, ints, here, there.0))
kind_is Heartbeat Pad size xs ys number here there = absurd (omega arith)
kind_is Heartbeat Message size xs ys number here there = absurd (omega (arith, ints, here.0, there))
kind_is Heartbeat Heartbeat size xs ys number here there = refl

-- how long a payload is follows from the kind and the length
length_is : (kind : FrameKind) (size : ℤ) (xs ys : List ℕ) → HasLength kind size xs → HasLength kind size ys → length xs ≡ length ys
length_is Pad size xs ys here there = ap length (here.1 ∙ sym there.1)
length_is Message size xs ys here there = omega (arith, ints, here, there)
length_is Heartbeat size xs ys here there = ap length (here.1 ∙ sym there.1)

-- what has one length and stands in front of the same bytes is one
prefix_is : (xs ys rest others : List ℕ) → xs ++ rest ≡ ys ++ others → length xs ≡ length ys → xs ≡ ys
prefix_is xs ys rest others same long =
    sym (take-append_seam xs rest) ∙ ap (take (length xs)) same ∙ ap (λ (n : ℕ). take n (ys ++ others)) long ∙ take-append_seam ys others

-- at most one frame stands in front of some bytes
pub one_front : (bytes : List ℕ) (f g : Frame) (m n : ℕ) → IsFront bytes f m → IsFront bytes g n → (f ≡ g) × (m ≡ n)
one_front bytes f g m n here there =
    let first = front_header bytes f m here in
    let second = front_header bytes g n there in
    let size : f.length ≡ g.length = sym first.length_at ∙ second.length_at in
    let number : type_of f.kind ≡ type_of g.kind = sym first.type_at ∙ second.type_at in
    let other_length : HasLength g.kind f.length g.payload = rw size there.encodable.length in
    let kind : f.kind ≡ g.kind = kind_is f.kind g.kind f.length f.payload g.payload number here.encodable.length other_length in
    let long : length f.payload ≡ length g.payload = length_is f.kind f.length f.payload g.payload here.encodable.length (rw kind other_length) in
    let payload : f.payload ≡ g.payload =
    prefix_is f.payload g.payload here.rest there.rest (sym (front_payload bytes f m here) ∙ front_payload bytes g n there) long in
    let flags : f.flags ≡ g.flags = sym first.flags_at ∙ second.flags_at in
    let term_offset : f.term_offset ≡ g.term_offset = sym first.term_offset_at ∙ second.term_offset_at in
    let session_id : f.session_id ≡ g.session_id = sym first.session_id_at ∙ second.session_id_at in
    let stream_id : f.stream_id ≡ g.stream_id = sym first.stream_id_at ∙ second.stream_id_at in
    let term_id : f.term_id ≡ g.term_id = sym first.term_id_at ∙ second.term_id_at in
    let reserved : f.reserved ≡ g.reserved = sym first.reserved_at ∙ second.reserved_at in
    let frame : f ≡ g =
    λ i. record {
      kind = kind i;
      flags = flags i;
      length = size i;
      term_offset = term_offset i;
      session_id = session_id i;
      stream_id = stream_id i;
      term_id = term_id i;
      reserved = reserved i;
      payload = payload i;
    } in
    (frame, here.uses ∙ ap (λ (h : Frame). used_by h.kind (length (encoded h)) (length bytes)) frame ∙ sym there.uses)

-- how many bytes a kind uses of enough
used_bounds : (kind : FrameKind) (size all : ℕ) → 32 ≤ size → size ≤ all → (32 ≤ used_by kind size all) × (used_by kind size all ≤ all)
used_bounds Pad size all low high = (omega arith, omega arith)
used_bounds Message size all low high = (omega arith, omega arith)
used_bounds Heartbeat size all low high = (low, high)

-- a front uses at least a header, and no more than there is
pub front_uses : (bytes : List ℕ) (f : Frame) (used : ℕ) → IsFront bytes f used → (32 ≤ used) × (used ≤ length bytes)
front_uses bytes f used front =
    let room = front_room bytes f used front in
    let bounds = used_bounds f.kind (length (encoded f)) (length bytes) (omega (arith, length-encoded f)) (omega (arith, length-encoded f, room)) in
    rw front.uses bounds

-- an encoding is read as its frame, whatever follows it
pub encoding_in_front : (f : Frame) (rest : List ℕ) → IsEncodable f → IsFront (encoded f ++ rest) f (used_by f.kind (length (encoded f)) (length (encoded f ++ rest)))
encoding_in_front f rest encodable = record { encodable = encodable; rest = rest; stands = refl; uses = refl }

-- a message's length is that of its encoding
message_length : (f : Frame) → IsEncodable f → f.kind ≡ Message → unsigned_abs f.length ≡ length (encoded f)
message_length f encodable kind =
    let long : HasLength Message f.length f.payload = subst (λ (k : FrameKind). HasLength k f.length f.payload) kind encodable.length in
    ap unsigned_abs long ∙ sym (length-encoded f)

-- a message uses its aligned length, where so much is there
pub message_in_front : (f : Frame) (rest : List ℕ) → IsEncodable f → f.kind ≡ Message → aligned_length f ≤ length (encoded f ++ rest)
    → IsFront (encoded f ++ rest) f (aligned_length f)
message_in_front f rest encodable kind room =
    let size : aligned_length f ≡ aligned (length (encoded f)) = ap aligned (message_length f encodable kind) in
    let least : aligned_length f ≡ min (aligned (length (encoded f))) (length (encoded f ++ rest)) = omega (arith, size, room) in
    record {
      encodable = encodable;
      rest = rest;
      stands = refl;
      uses = least ∙ sym (ap (λ (k : FrameKind). used_by k (length (encoded f)) (length (encoded f ++ rest))) kind);
    }

-- what a segment holds of a message is read as that message, whatever follows
pub stored_in_front : (f : Frame) (rest : List ℕ) → IsEncodable f → f.kind ≡ Message → IsFront (stored f ++ rest) f (aligned_length f)
stored_in_front f rest encodable kind =
    let zeros : List ℕ = replicate (aligned_length f - length (encoded f)) 0 in
    let is : stored f ≡ encoded f ++ zeros = ap (λ (k : FrameKind). stored_as k f) kind in
    let joined : stored f ++ rest ≡ encoded f ++ (zeros ++ rest) = ap (λ (xs : List ℕ). xs ++ rest) is ∙ append_assoc (encoded f) zeros rest in
    let count : length zeros ≡ aligned_length f - length (encoded f) = length-replicate (aligned_length f - length (encoded f)) 0 in
    let first : length (encoded f ++ (zeros ++ rest)) ≡ length (encoded f) + length (zeros ++ rest) = length-append (encoded f) (zeros ++ rest) in
    let second : length (zeros ++ rest) ≡ length zeros + length rest = length-append zeros rest in
    subst
    (λ (bs : List ℕ). IsFront bs f (aligned_length f))
    (sym joined)
    (message_in_front f (zeros ++ rest) encodable kind (omega (arith, count, first, second)))

-- an encoding begins with its header
pub encoding_has_header : (f : Frame) (rest : List ℕ) → IsEncodable f → IsHeader (encoded f ++ rest) f
encoding_has_header f rest encodable = front_header (encoded f ++ rest) f _ (encoding_in_front f rest encodable)

-- the header's fields determine its bytes
pub header_is_first : (bytes : List ℕ) (f : Frame) → AreBytes bytes → IsHeader bytes f → take 32 bytes ≡ header_of f
header_is_first bytes f small header = sym (header_of-IsHeader bytes f small header)
