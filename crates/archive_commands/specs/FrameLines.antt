-- The frames of a segment file as lines: docs/CONTROL.md, "Frames of a file".
use Rattle.std.specs.Prelude.{◌≡◌, ◌⊎◌, ◌≤◌, ◌++◌, ◌/◌, ◌%◌, ℕ, false, List, [], ◌∷◌, length, take, drop, replicate, flat_map, codes, unsigned_abs, decimal, Option, IfSome}
use Rattle.std.specs.Fmt.{digit_glyph, signed_decimal}
use Rattle.std.specs.Io.KnownBytes.{Appends, Keeps}
use Rattle.frame_core.specs.declared.frame.FrameKind.{FrameKind}
use Rattle.frame_core.specs.declared.frame.FrameKind.TheVariants.{Pad, Message, Heartbeat}
use Rattle.frame_core.specs.declared.frame.Frame.{Frame}
use Rattle.frame_core.specs.declared.refusal.Refusal.TheVariants.{BadFrame}
use Rattle.frame_core.specs.Block.{covered}
use Rattle.frame_core.specs.FrameEncoding.{aligned_length, type_of}
use Rattle.frame_core.specs.Header.{StartsWithHeader}
use Rattle.control_lines.specs.RefusalText.{refusal_text}
use Rattle.tool_core.specs.declared.fault.EarlyEnd.{EarlyEnd}
use Rattle.tool_core.specs.declared.fault.EarlyEnd.TheVariants as ends
use Rattle.archive_commands.specs.declared.frames.Listing.{Listing}
use Rattle.archive_commands.specs.declared.frames.Listing.TheVariants.{Whole, Damaged}

-- ---- what stands in a file

-- What a file stores of a frame is among so many bytes: a message with its payload, a pad's header alone. A heartbeat
-- isn't stored.
abbrev pub HasStored : FrameKind → ℕ → ℕ → Type 0
HasStored Pad size count = Unit {0}
HasStored Message size count = size ≤ count
HasStored Heartbeat size count = ⊥

-- a frame with this header, of which the payload is left out, stands first in the bytes
pub record StandsFirst (bytes : List ℕ) (header : Frame) : Type 0 where
  pub begins : StartsWithHeader bytes header
  pub whole : HasStored header.kind (unsigned_abs header.length) (length bytes)

-- the frames end before these bytes: none is left, or the four of a length are 0
abbrev pub EndsFrames : List ℕ → Type 0
EndsFrames bytes = (bytes ≡ []) ⊎ (take 4 bytes ≡ replicate 4 0)

-- the frames do not end before these bytes, and none stands first in them
pub record HasNoFrame (bytes : List ℕ) : Type 0 where
  pub more : EndsFrames bytes → ⊥
  pub no_frame : (header : Frame) → StandsFirst bytes header → ⊥

-- The first frames of a file, and its bytes behind them: each stands where the aligned length of the one before it ends.
abbrev pub HasFrames : List ℕ → List Frame → List ℕ → Type 0
HasFrames bytes [] rest = rest ≡ bytes
HasFrames bytes (header ∷ headers) rest = StandsFirst bytes header × HasFrames (drop (aligned_length header) bytes) headers rest

-- ---- lines

-- a byte as two hex digits
abbrev pub two_digits : ℕ → List ℕ
two_digits b = digit_glyph false (b / 16) ∷ digit_glyph false (b % 16) ∷ []

-- a frame's line: its term, its term offset, its type, its length and its flags
abbrev pub frame_text : Frame → List ℕ
frame_text f =
    codes "frame " ++ (signed_decimal f.term_id ++ (codes " " ++ (signed_decimal f.term_offset ++ (codes " " ++ (decimal (type_of f.kind)
    ++ (codes " " ++ (signed_decimal f.length ++ (codes " " ++ (two_digits f.flags ++ codes "\n")))))))))

-- the last line of a file whose frames end
abbrev pub end_text : ℕ → List ℕ
end_text count = codes "end " ++ (decimal count ++ codes "\n")

-- The listing of a file: the lines of its frames, and then how many they are, or the offset of what is no frame.
abbrev pub IsListing : Listing → List ℕ → List ℕ → Type 0
IsListing Whole bytes text =
    (headers : List Frame) × (rest : List ℕ) × HasFrames bytes headers rest × EndsFrames rest × (text ≡ flat_map frame_text headers ++ end_text (length headers))
IsListing Damaged bytes text =
    (headers : List Frame) × (rest : List ℕ) × HasFrames bytes headers rest × HasNoFrame rest
    × (text ≡ flat_map frame_text headers ++ refusal_text (BadFrame (covered headers)))

-- the lines of the first frames of a file
abbrev pub IsListingOfFirst : List ℕ → List ℕ → Type 0
IsListingOfFirst bytes text = (headers : List Frame) × (rest : List ℕ) × HasFrames bytes headers rest × (text ≡ flat_map frame_text headers)

-- the writer gained a text that is right for the file, where its bytes are known
pub record Lists (file contents written : Option (List ℕ)) (IsRight : List ℕ → List ℕ → Type 0) : Type 0 where
  pub text : List ℕ
  pub appended : Appends contents written text
  pub right : IfSome file (λ bytes. IsRight bytes text)

-- What a listing that ended early has written: nothing for want of memory, the lines of first frames of a file that could
-- not be read on; nothing is said of a writer that failed.
abbrev pub ListsSome : EarlyEnd → Option (List ℕ) → Option (List ℕ) → Option (List ℕ) → Type 0
ListsSome ends.Read file contents written = Lists file contents written IsListingOfFirst
ListsSome ends.Memory file contents written = Keeps contents written
ListsSome ends.Write file contents written = Unit {0}
