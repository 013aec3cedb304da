-- Which bytes are lines.
use Rattle.std.proofs.Common.{◌≡◌, ℕ, Bool, true, false, List, Err, refl, sym}
use Rattle.std.specs.Str.{IsUtf8, is_utf8}
use Rattle.std.proofs.lemmas.Str.{is_utf8-from_IsUtf8, IsUtf8-from_is_utf8}
use Rattle.frame_core.specs.declared.refusal.Refusal.TheVariants.{BadLine}
use Rattle.control_lines.specs.Lines.{read_copies, read_of, text_copies, text_of}

-- what is UTF-8 is read as text
pub read_of-text : (bytes : List ℕ) → IsUtf8 bytes → read_of bytes ≡ text_of bytes
unfolding read_of
read_of-text bytes h = rw (is_utf8-from_IsUtf8 bytes h)

-- and takes memory where the text does
pub read_copies-text : (bytes : List ℕ) → IsUtf8 bytes → read_copies bytes ≡ text_copies bytes
unfolding read_copies
read_copies-text bytes h = rw (is_utf8-from_IsUtf8 bytes h)

no_text : (bytes : List ℕ) (t : Bool) → t ≡ is_utf8 bytes → ¬ (IsUtf8 bytes) → t ≡ false
no_text bytes false is h = refl
no_text bytes true is h = absurd (h (IsUtf8-from_is_utf8 bytes (sym is)))

-- what is not is no line
pub read_of-bytes : (bytes : List ℕ) → ¬ (IsUtf8 bytes) → read_of bytes ≡ Err BadLine
unfolding read_of
read_of-bytes bytes h = rw (no_text bytes (is_utf8 bytes) refl h)
