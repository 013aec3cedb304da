-- Bytes that stand in a file, whatever a crash does behind them.
use Rattle.std.specs.Prelude.{◌≡◌, ◌⊎◌, ℕ, ◌+◌, ◌<◌, ◌≤◌, min, true, List, length, get_or, Option, Some, None}
use Rattle.disk_core.specs.DiskImage.{FileState, IsWithin, bytes_of}

-- these bytes stand in the file at this offset
abbrev pub Holds : List ℕ → ℕ → List ℕ → Type 0
Holds file at bytes = (k : ℕ) → k < length bytes →
    (at + k < length file) × (get_or file (at + k) 0 ≡ get_or bytes k 0)

-- the same file, where every offset from this one on is unsynced too
abbrev pub unsynced_from : ℕ → FileState → FileState
unsynced_from at file = record file { is_touched = true; least = min file.least at }

-- below this offset nothing has become unsynced, and what is read is the same
pub record KeepsBelow (at : ℕ) (old new : FileState) : Type 0 where
  pub written : (offset : ℕ) → offset < at → IsWithin new.written offset → IsWithin old.written offset
  pub least : min old.least at ≤ new.least
  pub was_absent : new.was_absent ≡ old.was_absent
  pub no_shorter : min (length (bytes_of old.reads)) at ≤ length (bytes_of new.reads)
  pub same : (offset : ℕ) → offset < at →
      get_or (bytes_of new.reads) offset 0 ≡ get_or (bytes_of old.reads) offset 0

-- as long as the file at least, with the same bytes outside this range
pub record IsTornBytes (at count : ℕ) (old left : List ℕ) : Type 0 where
  pub no_shorter : length old ≤ length left
  pub outside : (offset : ℕ) → (offset < at) ⊎ (at + count ≤ offset) → offset < length old →
      get_or left offset 0 ≡ get_or old offset 0

-- what a crash leaves of a durable file that was then written once: it is there, with a torn range
abbrev pub IsTornCopy : ℕ → ℕ → List ℕ → Option (List ℕ) → Type 0
IsTornCopy at count old None = ⊥
IsTornCopy at count old (Some left) = IsTornBytes at count old left

-- what a crash leaves of a durable file that was then changed from this offset on alone: it is there, and
-- the same below that offset
abbrev pub IsSameBelow : ℕ → List ℕ → Option (List ℕ) → Type 0
IsSameBelow at old None = ⊥
IsSameBelow at old (Some left) =
    (min (length old) at ≤ length left)
    × ((offset : ℕ) → offset < at → offset < length old → get_or left offset 0 ≡ get_or old offset 0)
