-- Headers in front of some bytes.
use Rattle.std.proofs.Common.{◌≡◌, ◌∙◌, sym, ap, refl, ℕ, ℤ, ◌≤◌, List, [], ◌++◌, length, take, drop, append_assoc, subst, arith}
use Rattle.std.proofs.lemmas.Int.{ints}
use Rattle.std.proofs.lemmas.List.{take-append-drop}
use Rattle.std.proofs.Math.Seq.{take-append_seam}
use Rattle.std.specs.Prelude.{slice_index}
use Rattle.frame_core.specs.declared.frame.FrameKind.{FrameKind}
use Rattle.frame_core.specs.declared.frame.FrameKind.TheVariants.{Pad, Message, Heartbeat}
use Rattle.frame_core.specs.declared.frame.Frame.{Frame}
use Rattle.frame_core.specs.FrameEncoding.{IsEncodable, IsAligned, IsHeader, HasLength, header_of, encoded, type_of, u16_at, i32_at}
use Rattle.frame_core.specs.Header.{HasHeaderLength, IsHeaderOfKind, StartsWithHeader, without_payload}
use Rattle.frame_core.specs.Decoding.{read_frame}
use Rattle.frame_core.proofs.FrameEncodingLemmas.{AreBytes, IsHeader-header_of, length-header_of}
use Rattle.frame_core.proofs.FrontLemmas.{header_is_first, read_fits}

-- the header stands there field by field
pub header_fields : (bytes : List ℕ) (header : Frame) → StartsWithHeader bytes header → IsHeader bytes header
header_fields bytes header starts =
    let parts : header_of header ++ drop 32 bytes ≡ bytes = ap (λ (xs : List ℕ). xs ++ drop 32 bytes) (sym starts.stands) ∙ take-append-drop 32 bytes in
    subst (λ (bs : List ℕ). IsHeader bs header) parts (IsHeader-header_of header (drop 32 bytes) starts.fits)

-- its kind is that of its type and length
pub header_kind_is : (bytes : List ℕ) (header : Frame) → StartsWithHeader bytes header → IsHeaderOfKind (u16_at bytes 6) (i32_at bytes 0) header.kind
header_kind_is bytes header starts =
    let fields = header_fields bytes header starts in
    (fields.type_at, rw fields.length_at starts.length)

-- what was read of some bytes is the header in front of them
pub header_read : (bytes : List ℕ) (kind : FrameKind) → AreBytes bytes → 32 ≤ length bytes → slice_index bytes 4 ≡ 0 → IsAligned (i32_at bytes 8)
    → IsHeaderOfKind (u16_at bytes 6) (i32_at bytes 0) kind → StartsWithHeader bytes (read_frame bytes kind 32)
header_read bytes kind small room version offset is = record {
  whole = room;
  stands = header_is_first bytes (read_frame bytes kind 32) small (record {
    whole = room;
    length_at = refl;
    version_at = version;
    flags_at = refl;
    type_at = is.0;
    term_offset_at = refl;
    session_id_at = refl;
    stream_id_at = refl;
    term_id_at = refl;
    reserved_at = refl;
  });
  fits = read_fits bytes kind 32 small;
  length = is.1;
  offset = offset;
  no_payload = refl;
}

-- which length a header has follows from the frame's
header_length : (kind : FrameKind) (f : Frame) → HasLength kind f.length f.payload → HasHeaderLength kind f.length
header_length Pad f long = long.0
header_length Message f long = rw long (omega (arith, ints))
header_length Heartbeat f long = long.0

-- without its payload a frame has the same header
same_header : (f : Frame) (payload : List ℕ) → header_of (record f { payload = payload }) ≡ header_of f
unfolding header_of
same_header f payload = refl

-- what begins with a frame's encoding, or with the first bytes of it, begins with its header
pub encoding_starts : (bytes rest : List ℕ) (f : Frame) → IsEncodable f → 32 ≤ length bytes → take 32 bytes ≡ take 32 (encoded f ++ rest) → StartsWithHeader bytes (without_payload f)
encoding_starts bytes rest f encodable room same = record {
  whole = room;
  stands = same ∙ ap (take 32) (append_is f rest) ∙ first f (f.payload ++ rest) ∙ sym (same_header f []);
  fits = record { flags = encodable.fits.flags; length = encodable.fits.length; term_offset = encodable.fits.term_offset; session_id = encodable.fits.session_id; stream_id = encodable.fits.stream_id; term_id = encodable.fits.term_id; reserved = encodable.fits.reserved };
  length = header_length f.kind f encodable.length;
  offset = encodable.offset;
  no_payload = refl;
} where
  append_is : (f : Frame) (rest : List ℕ) → encoded f ++ rest ≡ header_of f ++ (f.payload ++ rest)
  append_is f rest = append_assoc (header_of f) f.payload rest

  first : (f : Frame) (behind : List ℕ) → take 32 (header_of f ++ behind) ≡ header_of f
  first f behind = ap (λ (n : ℕ). take n (header_of f ++ behind)) (sym (length-header_of f)) ∙ take-append_seam (header_of f) behind

-- where a header stands and the payload of a length that is its own, the frame is the one with that payload
pub header_carries : (header : Frame) (bytes payload : List ℕ) → StartsWithHeader bytes header → HasLength header.kind header.length payload
    → IsEncodable (record header { payload = payload }) × (encoded (record header { payload = payload }) ≡ take 32 bytes ++ payload)
header_carries header bytes payload starts long = (
  record {
    fits = record { flags = starts.fits.flags; length = starts.fits.length; term_offset = starts.fits.term_offset; session_id = starts.fits.session_id; stream_id = starts.fits.stream_id; term_id = starts.fits.term_id; reserved = starts.fits.reserved };
    length = long;
    offset = starts.offset;
  },
  ap (λ (xs : List ℕ). xs ++ payload) (same_header header payload ∙ sym starts.stands),
)

-- the kind follows from the type and the length
kind_is : (kind other : FrameKind) (size : ℤ) → type_of kind ≡ type_of other → HasHeaderLength kind size → HasHeaderLength other size → kind ≡ other
kind_is Pad Pad size number here there = refl
kind_is Pad Message size number here there = absurd (omega arith)
kind_is Pad Heartbeat size number here there = absurd (omega arith)
kind_is Message Pad size number here there = absurd (omega arith)
kind_is Message Message size number here there = refl
kind_is Message Heartbeat size number here there = absurd (omega (arith, ints, here, there))
kind_is Heartbeat Pad size number here there = absurd (omega arith)
kind_is Heartbeat Message size number here there = absurd (omega (arith, ints, here, there))
kind_is Heartbeat Heartbeat size number here there = refl

-- at most one header stands in front of some bytes
pub one_header : (bytes : List ℕ) (h k : Frame) → StartsWithHeader bytes h → StartsWithHeader bytes k → h ≡ k
one_header bytes h k here there =
    let first = header_fields bytes h here in
    let second = header_fields bytes k there in
    let size : h.length ≡ k.length = sym first.length_at ∙ second.length_at in
    let number : type_of h.kind ≡ type_of k.kind = sym first.type_at ∙ second.type_at in
    let kind : h.kind ≡ k.kind = kind_is h.kind k.kind h.length number here.length (rw size there.length) in
    let flags : h.flags ≡ k.flags = sym first.flags_at ∙ second.flags_at in
    let term_offset : h.term_offset ≡ k.term_offset = sym first.term_offset_at ∙ second.term_offset_at in
    let session_id : h.session_id ≡ k.session_id = sym first.session_id_at ∙ second.session_id_at in
    let stream_id : h.stream_id ≡ k.stream_id = sym first.stream_id_at ∙ second.stream_id_at in
    let term_id : h.term_id ≡ k.term_id = sym first.term_id_at ∙ second.term_id_at in
    let reserved : h.reserved ≡ k.reserved = sym first.reserved_at ∙ second.reserved_at in
    let payload : h.payload ≡ k.payload = here.no_payload ∙ sym there.no_payload in
    λ i. record {
      kind = kind i;
      flags = flags i;
      length = size i;
      term_offset = term_offset i;
      session_id = session_id i;
      stream_id = stream_id i;
      term_id = term_id i;
      reserved = reserved i;
      payload = payload i;
    }
