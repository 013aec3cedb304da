-- What an image recovers to, and what the engine keeps of its files: docs/STORAGE.md, "Recovery".
use Rattle.std.specs.Prelude.{◌≡◌, ◌⊎◌, ℕ, List, unsigned_abs}
use Rattle.disk_core.specs.DiskImage.{DiskImage, Files}
use Rattle.segment_store.specs.Stored.{AreDurableFrames, HoldsFrames}
use Rattle.archive_model.specs.Keyed.{Each}
use Rattle.archive_model.specs.Register.{no_recordings}
use Rattle.archive_model.specs.State.{Recording, State, recorded_position, register_of}
use Rattle.archive_model.specs.WellFormed.{IsWell}
use Rattle.catalogue_log.specs.declared.bank.BankHeader.{BankHeader}
use Rattle.catalogue_entries.specs.declared.entry.Entry.{Entry}
use Rattle.catalogue_log.specs.Catalogue.{IsCatalogue}
use Rattle.catalogue_entries.specs.Fold.{after_entries}
use Rattle.catalogue_log.specs.LogState.{IsAtRest, LogState}
use Rattle.recording_reads.specs.Recording.{layout_of}

-- where a recording begins, and where its last frame ends, in bytes of the stream
abbrev pub first_of : Recording → ℕ
first_of r = unsigned_abs r.descriptor.start_position

abbrev pub last_of : Recording → ℕ
last_of r = unsigned_abs (recorded_position r)

-- the recorded frames stand in the image, one after another, from the start to the recorded position
abbrev pub HoldsRecording : DiskImage → Recording → Type 0
HoldsRecording image r = HoldsFrames image (layout_of r.descriptor) (first_of r) r.frames (last_of r)

-- they stand in every image that a crash may leave, whatever is written behind them
abbrev pub IsDurable : Files → Recording → Type 0
IsDurable files r = AreDurableFrames files (layout_of r.descriptor) (first_of r) r.frames (last_of r)

-- entries that give all of a state but its frames
abbrev pub Folds : List Entry → State → Type 0
Folds entries s = after_entries no_recordings entries ≡ register_of s

-- An image recovers to a state: its catalogue's entries give the descriptors, the recorded positions and the next id, and
-- its segment files hold the recorded frames.
pub record Recovers (image : DiskImage) (s : State) : Type 0 where
  pub header : BankHeader
  pub entries : List Entry
  pub catalogue : IsCatalogue image header entries
  pub folds : Folds entries s
  pub frames : Each (HoldsRecording image) s.recordings
  pub well : IsWell s

-- the image recovers to a state that has P
pub record RecoversTo (P : State → Type 0) (image : DiskImage) : Type 0 where
  pub state : State
  pub is : P state
  pub recovers : Recovers image state

-- one or the other
abbrev pub IsEither : State → State → State → Type 0
IsEither s u x = (x ≡ s) ⊎ (x ≡ u)

-- The log is at rest with entries that give the state, whose frames are durable.
pub record IsSound (files : Files) (log : LogState) (s : State) : Type 0 where
  pub entries : List Entry
  pub rests : IsAtRest files log entries
  pub folds : Folds entries s
  pub frames : Each (IsDurable files) s.recordings
  pub well : IsWell s
