-- What `describe` prints of an archive that is only looked at: docs/CONTROL.md, "A page for people".
use Rattle.std.specs.Prelude.{◌≡◌, ◌⊎◌, ℕ, ℤ, IsTrue, List, [], Option, None, Some}
use Rattle.std.specs.Io.KnownBytes.{Appends}
use Rattle.std.specs.Option.{option_map_or}
use Rattle.frame_core.specs.declared.refusal.Refusal.{Refusal}
use Rattle.frame_core.specs.declared.refusal.Refusal.TheVariants.{DeviceFault, NoMemory}
use Rattle.disk_core.specs.declared.file_id.FileId.{FileId}
use Rattle.disk_core.specs.DiskImage.{reads}
use Rattle.disk_core.specs.Life.{Life}
use Rattle.archive_model.specs.declared.registration.Registration.{Registration}
use Rattle.archive_model.specs.Register.{registration_in}
use Rattle.control_core.specs.Desk.{DeskState}
use Rattle.archive_commands.specs.declared.commands.Stop.{Stop}
use Rattle.archive_commands.specs.declared.commands.Stop.TheVariants.{Refused, Cut}
use Rattle.archive_commands.specs.Reports.{KnowsAsked}
use Rattle.tool_core.specs.declared.fault.EarlyEnd.{EarlyEnd}
use Rattle.tool_core.specs.declared.fault.EarlyEnd.TheVariants as ends
use Rattle.archive_view.specs.declared.view.ArchiveView.{ArchiveView}
use Rattle.archive_view.specs.ReadOnly.{IsOnlyRead}
use Rattle.archive_view.specs.Viewed.{desk_of}
use Rattle.archive_report.specs.declared.form.Form.{Form}
use Rattle.archive_report.specs.declared.form.Form.TheVariants.{Page, Json}
use Rattle.archive_report.specs.declared.summary.Measured.{Measured}
use Rattle.archive_report.specs.DocumentData.{document_text, recording_text}
use Rattle.archive_report.specs.Files.{ShowsFiles, unknown_among}
use Rattle.archive_report.specs.PageText.{page_text, recording_lines}
use Rattle.archive_report.specs.Viewing.{IsUnseenBy, ShowsDesk, inner}

-- ---- what is written

-- the text in a form, of an archive with these files, of which a sweep would remove these, and no recording knows these
abbrev pub text_as : Form → DeskState → List Measured → List FileId → List FileId → List ℕ
text_as Page d files stale unknown = page_text d files stale unknown
text_as Json d files stale unknown = document_text d files stale unknown

-- the text in a form of a recording alone, of an archive with these files
abbrev pub recording_as : Form → List Measured → Registration → List ℕ
recording_as Page files r = recording_lines files r
recording_as Json files r = recording_text files r

-- the text in a form on the recording that is asked for alone, or on the archive
abbrev pub text_asked : Option ℤ → Form → DeskState → List Measured → List FileId → List FileId → List ℕ
text_asked None form d files stale unknown = text_as form d files stale unknown
text_asked (Some id) form d files stale unknown = option_map_or (recording_as form files) (registration_in d.register id) []

-- which files no recording knows is a matter of the files
abbrev pub description : Option ℤ → Form → DeskState → List Measured → List FileId → List ℕ
description asked form d files stale = text_asked asked form d files stale (unknown_among d.register files)

-- without memory nothing is written; of a writer that failed nothing is said
abbrev pub LeavesText : EarlyEnd → Option (List ℕ) → Option (List ℕ) → Type 0
LeavesText ends.Read contents written = ⊥
LeavesText ends.Memory contents written = written ≡ contents
LeavesText ends.Write contents written = Unit {0}

-- files are not asked if a call of the disk fails, or for want of memory
abbrev pub IsUnasked : Refusal → Type 0
IsUnasked refusal = (refusal ≡ DeviceFault) ⊎ (refusal ≡ NoMemory)

-- ---- of a disk

-- The desk was seen, which has the recording that is asked for alone, then the files, and the text on them is written.
pub record HasDescribed (asked : Option ℤ) (old new : Life) (form : Form) (contents written : Option (List ℕ)) : Type 0 where
  pub desk : DeskState
  pub shown : ShowsDesk old new desk
  pub there : KnowsAsked asked desk
  pub files : List Measured
  pub stale : List FileId
  pub seen : IsTrue new.obeys → ShowsFiles (reads old.now) desk.register files stale
  pub told : Appends contents written (description asked form desk files stale)

-- the desk was seen, and its files could not be asked
pub record HasNotAsked (old new : Life) (refusal : Refusal) : Type 0 where
  pub desk : DeskState
  pub shown : ShowsDesk old new desk
  pub unasked : IsUnasked refusal

-- it was seen, and its text could not be written
pub record HasNotDescribed (old new : Life) (contents written : Option (List ℕ)) (end : EarlyEnd) : Type 0 where
  pub desk : DeskState
  pub shown : ShowsDesk old new desk
  pub told : LeavesText end contents written

module _ {D : Type 0} (life : D → Life) (asked : Option ℤ) where
  -- it was not seen, or lacks the recording, or its files were not, and nothing is written; or its text could not be written
  abbrev pub FailsToDescribe : Life → D → Stop → Option (List ℕ) → Option (List ℕ) → Type 0
  FailsToDescribe old disk (Refused refusal) contents written =
      (IsUnseenBy life asked old disk (Refused refusal) ⊎ HasNotAsked old (life disk) refusal) × (written ≡ contents)
  FailsToDescribe old disk (Cut end) contents written = HasNotDescribed old (life disk) contents written end

-- ---- of a view

module _ {D : Type 0} (life : D → Life) where
  -- its disk was only read, and the view stays
  pub record IsLookedOn (old new : ArchiveView D) : Type 0 where
    pub inside : IsOnlyRead (inner life old) (inner life new)
    pub desk : desk_of new ≡ desk_of old

  -- its files were seen, and the text on them is written
  pub record DescribesView (asked : Option ℤ) (old new : ArchiveView D) (form : Form) (contents written : Option (List ℕ)) : Type 0 where
    pub files : List Measured
    pub stale : List FileId
    pub seen : IsTrue (inner life new).obeys → ShowsFiles (reads (inner life old).now) (desk_of old).register files stale
    pub told : Appends contents written (description asked form (desk_of old) files stale)

-- its files could not be asked, or its text could not be written
abbrev pub FailsView : Stop → Option (List ℕ) → Option (List ℕ) → Type 0
FailsView (Refused refusal) contents written = IsUnasked refusal × (written ≡ contents)
FailsView (Cut end) contents written = LeavesText end contents written
