-- An entry behind the catalogue's closed gate that may have been answered: docs/STORAGE.md, "A closed gate".
use Rattle.std.specs.Prelude.{◌≡◌, ◌⊎◌, ◌<ℤ◌, ℤ, IsFalse, IsTrue, Option, Some, None, true, false}
use Rattle.disk_core.specs.DiskImage.{DiskImage}
use Rattle.archive_model.specs.declared.registration.Registration.{Registration}
use Rattle.archive_model.specs.Register.{RegisterState, is_active, registration_in}
use Rattle.catalogue_entries.specs.declared.entry.Entry.{Entry}
use Rattle.catalogue_entries.specs.declared.entry.Entry.TheVariants.{Settle}
use Rattle.catalogue_entries.specs.EntryBytes.{HasNoEntry}
use Rattle.catalogue_log.specs.declared.hidden.Hidden.{Hidden}
use Rattle.catalogue_log.specs.Hidden.{IsHidden, hidden_bytes}
use Rattle.catalogue_log.specs.LogState.{LogState}
use Rattle.recording_reads.specs.Reading.{TellsWritten}

module _ (image : DiskImage) (g : RegisterState) where
  -- it settles an active recording up to a position past the recorded one, and whole frames stand up to there
  pub record SettlesFrames (id position : ℤ) : Type 0 where
    pub known : Registration
    pub is_known : registration_in g id ≡ Some known
    pub active : IsTrue (is_active known)
    pub further : known.recorded <ℤ position
    pub written : TellsWritten image known position true

  abbrev pub HasFrames : Entry → Type 0
  HasFrames (Settle id position) = SettlesFrames id position
  HasFrames _ = ⊥

  abbrev pub HasNoFrames : Entry → Type 0
  HasNoFrames (Settle id position) =
      (known : Registration) → registration_in g id ≡ Some known → IsTrue (is_active known) → known.recorded <ℤ position → TellsWritten image known position false
  HasNoFrames _ = Unit {0}

  -- An entry that stands there, whole, may have been answered if it is followed by another one, or if the frames stand that it
  -- settles. Else none is told of.
  abbrev pub TellsHiddenEntry : LogState → Option Hidden → Type 0
  TellsHiddenEntry log (Some h) = IsHidden log.header.version (hidden_bytes image log) h × (IsTrue h.is_followed ⊎ HasFrames h.entry)
  TellsHiddenEntry log None =
      HasNoEntry log.header.version (hidden_bytes image log)
      ⊎ ((h : Hidden) × IsHidden log.header.version (hidden_bytes image log) h × IsFalse h.is_followed × HasNoFrames h.entry)
