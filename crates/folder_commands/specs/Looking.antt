-- What a command does that only looks at a folder, whatever files that holds, and how it ends: docs/CONTROL.md, "Looking without a change".
use Rattle.std.specs.Prelude.{◌≡◌, ◌⊎◌, ℕ, ℤ, Bool, true, false, List, Option, None, Some, codes}
use Rattle.std.specs.Io.KnownBytes.{Appends}
use Rattle.frame_core.specs.declared.refusal.Refusal.TheVariants.{BadParameter, DeviceFault}
use Rattle.disk_core.specs.Life.{IsQuiet, Life}
use Rattle.host_disk.specs.Events.{Given}
use Rattle.host_disk.specs.Replay.{life_from}
use Rattle.archive_commands.specs.declared.commands.Stop.{Stop}
use Rattle.archive_commands.specs.declared.commands.Stop.TheVariants as stops
use Rattle.tool_core.specs.declared.fault.EarlyEnd.TheVariants as ends
use Rattle.archive_commands.specs.declared.reports.Verdict.TheVariants as verdicts
use Rattle.archive_export.specs.declared.span.Span.{Span}
use Rattle.archive_report.specs.ReadOnly.{IsOnlyRead}
use Rattle.archive_report.specs.declared.form.Form.{Form}
use Rattle.archive_report.specs.declared.form.Form.TheVariants.{Page, Json}
use Rattle.archive_report.specs.Describing.{FailsToDescribe, HasDescribed}
use Rattle.archive_report.specs.Exported.{FailsToExportFrom, HasExportedFrom}
use Rattle.archive_report.specs.Verifying.{FailsToVerifyViewed, HasVerifiedViewed}
use Rattle.archive_report.specs.Viewing.{FailsToListViewed, HasListedViewed}
use Rattle.folder_commands.specs.declared.status.Ending.{Ending}
use Rattle.folder_commands.specs.declared.status.Ending.TheVariants.{Done, Cut, Refused, Unopened}
use Rattle.folder_commands.specs.Folders.{FolderEndsAs}
use Rattle.folder_commands.specs.Status.{ending_of}

-- A disk of which its life alone is seen.
abbrev pub itself : Life → Life
itself life = life

-- the form in which an archive is described, with `--json` or without
abbrev pub form_of : Bool → Form
form_of true = Json
form_of false = Page

module _ (given : Given) where
  -- `list --read-only`: the archive of these files was seen, and its recordings are written
  abbrev pub ListsAsItStands : Option (List ℕ) → Option (List ℕ) → Option Life → Ending → Type 0
  ListsAsItStands contents written = FolderEndsAs
      (λ new. HasListedViewed (life_from given) new contents written)
      (λ new. ⊥)
      (λ new why. FailsToListViewed itself (life_from given) new why contents written)
      contents written

  -- `verify --read-only`: behind at most a listing of its files each of its recordings was verified, or the one that was asked for,
  -- and the answers are written
  abbrev pub VerifiesAsItStands : Option ℤ → Option (List ℕ) → Option (List ℕ) → Option Life → Ending → Type 0
  VerifiesAsItStands asked contents written = FolderEndsAs
      (λ new. (old : Life) × IsQuiet (life_from given) old × HasVerifiedViewed itself asked old new contents written verdicts.Whole)
      (λ new. (old : Life) × IsQuiet (life_from given) old × HasVerifiedViewed itself asked old new contents written verdicts.Refused)
      (λ new why. (old : Life) × IsQuiet (life_from given) old × FailsToVerifyViewed itself asked old new why contents written)
      contents written

  -- `describe`: the archive of these files was seen, and the page on it, or on the recording that was asked for, is written, or the
  -- document with `--json`
  abbrev pub DescribesFolder : Option ℤ → Bool → Option (List ℕ) → Option (List ℕ) → Option Life → Ending → Type 0
  DescribesFolder asked json contents written = FolderEndsAs
      (λ new. HasDescribed asked (life_from given) new (form_of json) contents written)
      (λ new. ⊥)
      (λ new why. FailsToDescribe itself asked (life_from given) new why contents written)
      contents written

-- a capture file is not written: its place is in the archive's folder, a call of the system failed, or there is no memory
abbrev pub IsUncaptured : Ending → Type 0
IsUncaptured (Refused BadParameter) = Unit {0}
IsUncaptured (Refused DeviceFault) = Unit {0}
IsUncaptured (Cut ends.Memory) = Unit {0}
IsUncaptured ending = ⊥

-- how an export ends that was stopped so: by a device fault where its file takes no more
abbrev pub uncaptured_ending : Stop → Ending
uncaptured_ending (stops.Cut ends.Write) = Refused DeviceFault
uncaptured_ending why = ending_of why

module _ (old new : Life) (recording : ℤ) (span : Span) where
  -- the frames of a span of a recording were written into a file, whose bytes nobody knows
  abbrev pub HasCaptured : Type 0
  HasCaptured = HasExportedFrom itself old new recording span None None

  -- the archive refuses that; or the file is not written, and the folder was only read
  abbrev pub FailsToCapture : Ending → Type 0
  FailsToCapture (Refused refusal) =
      FailsToExportFrom itself old new recording span (stops.Refused refusal) None None
      ⊎ (IsUncaptured (Refused refusal) × IsOnlyRead old new)
  FailsToCapture ending = IsUncaptured ending × IsOnlyRead old new

-- `export`: the frames were written into a file, and that is said, or could not be; or they were not, and nothing is said; or the
-- folder was not opened, and then nothing is left either
module _ (given : Given) (recording : ℤ) (span : Span) (contents written : Option (List ℕ)) where
  abbrev pub ExportsFolder : Option Life → Ending → Type 0
  ExportsFolder (Some new) Done = HasCaptured (life_from given) new recording span × Appends contents written (codes "exported\n")
  ExportsFolder (Some new) (Cut ends.Write) = HasCaptured (life_from given) new recording span
  ExportsFolder (Some new) ending = FailsToCapture (life_from given) new recording span ending × (written ≡ contents)
  ExportsFolder None (Unopened fault) = written ≡ contents
  ExportsFolder None ending = ⊥
