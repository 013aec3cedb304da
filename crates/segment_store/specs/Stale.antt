-- Segment files that are not needed any more: docs/STORAGE.md, "Stale files".
use Rattle.std.specs.Prelude.{◌≡◌, ◌≢◌, ◌&&◌, ◌||◌, ◌==◌, not, max, ℕ, ℤ, pos, negsuc, Bool, true, false, IsTrue, IsSome, Option, None, Some, List, [], ◌∷◌, int_lt, int_le, unsigned_abs}
use Rattle.std.specs.List.{list_any}
use Rattle.std.specs.Ordering.{int_eq}
use Rattle.disk_core.specs.declared.file_id.FileId.{FileId}
use Rattle.disk_core.specs.declared.file_id.FileId.TheVariants.{BankA, BankB, Segment}
use Rattle.disk_core.specs.FileNames.{AreFilesWith}
use Rattle.disk_core.specs.DiskImage.{DiskImage, LeavesFile, durable, reads}
use Rattle.disk_core.specs.Life.{Life, LeavesOnly}
use Rattle.segment_store.specs.declared.layout.Layout.{Layout}
use Rattle.segment_store.specs.declared.keep.Keep.{Keep}
use Rattle.segment_store.specs.declared.keep.Keep.TheVariants.{Below, Recording}
use Rattle.segment_store.specs.Layout.{IsFromStart, IsLayout, base_of}
use Rattle.segment_store.specs.Stored.{ChangesFile}

-- the recording's layout is in its limits, and it is not recorded to before its start
abbrev pub IsKeep : Keep → Type 0
IsKeep (Below next) = Unit {0}
IsKeep (Recording l recorded active) = IsLayout l × IsFromStart l recorded

-- a recorded byte has this base: the first one at or behind it, from the start on
unfoldable pub is_base_of_recorded : Layout → ℤ → ℤ → Bool
is_base_of_recorded l recorded (pos base) =
    let first : ℕ = max base (unsigned_abs l.start_position) in
    int_lt (pos first) recorded && base_of l first == base
is_base_of_recorded l recorded (negsuc base) = false

-- the recording keeps the file with this base: a stopped one, of its recorded bytes; an active one, from its start on
abbrev pub keeps_base : Layout → ℤ → Bool → ℤ → Bool
keeps_base l recorded true base = int_le (pos (base_of l (unsigned_abs l.start_position))) base
keeps_base l recorded false base = is_base_of_recorded l recorded base

-- the id is that of a recording that is there
abbrev pub is_recording : ℤ → Keep → Bool
is_recording id (Below next) = false
is_recording id (Recording l recorded active) = int_eq l.recording id

-- the id is below the next one
abbrev pub is_given : ℤ → Keep → Bool
is_given id (Below next) = int_lt id next
is_given id (Recording l recorded active) = false

-- the file of that id and base is kept
abbrev pub is_kept : ℤ → ℤ → Keep → Bool
is_kept id base (Below next) = false
is_kept id base (Recording l recorded active) = int_eq l.recording id && keeps_base l recorded active base

-- A segment file is stale if its recording is there and does not keep it, or is gone: its id was given, and is no
-- recording's.
abbrev pub is_stale : List Keep → FileId → Bool
is_stale keeps BankA = false
is_stale keeps BankB = false
is_stale keeps (Segment id base) =
    (list_any (is_recording id) keeps || list_any (is_given id) keeps) && not (list_any (is_kept id base) keeps)

-- these are the stale files of an image, in order
abbrev pub AreStale : DiskImage → List Keep → List FileId → Type 0
AreStale image keeps files = AreFilesWith (λ file. IsSome (image file) × (is_stale keeps file ≡ true)) files

-- the first stale file of an image
abbrev pub IsFirstStale : DiskImage → List Keep → FileId → Type 0
IsFirstStale image keeps file = (rest : List FileId) × AreStale image keeps (file ∷ rest)

-- which stale file comes first, or that there is none
abbrev pub IsFirst : Bool → DiskImage → List Keep → Option FileId → Type 0
IsFirst obeys image keeps None = IsTrue obeys → AreStale image keeps []
IsFirst obeys image keeps (Some file) = (is_stale keeps file ≡ true) × (IsTrue obeys → IsFirstStale image keeps file)

-- at most this file has changed; whatever a crash has left since, the others are as before
pub record TouchesOnly (this : FileId) (old new : Life) : Type 0 where
  pub changes : ChangesFile this old new
  pub any_moment : LeavesOnly old new (λ image. (file : FileId) → file ≢ this → LeavesFile (old.now file) (image file))

-- at most this file has changed, the first stale one
pub record SweepsAtMost (keeps : List Keep) (this : FileId) (old new : Life) : Type 0 where
  pub stale : is_stale keeps this ≡ true
  pub first : IsTrue new.obeys → IsFirstStale (reads old.now) keeps this
  pub touches : TouchesOnly this old new

-- what a sweep has done that answers
abbrev pub HasSwept : List Keep → Life → Life → Bool → Type 0
HasSwept keeps old new true = (this : FileId) × SweepsAtMost keeps this old new × (new.now this ≡ durable None)
HasSwept keeps old new false = (new.now ≡ old.now) × (new.past ≡ old.past) × (IsTrue new.obeys → AreStale (reads old.now) keeps [])
