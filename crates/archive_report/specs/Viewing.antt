-- What `list` and `verify` tell of an archive that is only looked at: docs/CONTROL.md, "Looking without a change".
use Rattle.std.specs.Prelude.{◌≡◌, ◌⊎◌, ℕ, ℤ, pos, IsTrue, List, Option}
use Rattle.std.specs.Io.KnownBytes.{Appends}
use Rattle.frame_core.specs.declared.refusal.Refusal.{Refusal}
use Rattle.frame_core.specs.declared.refusal.Refusal.TheVariants.{UnknownRecording}
use Rattle.disk_core.specs.DiskImage.{reads}
use Rattle.disk_core.specs.Life.{Life}
use Rattle.archive_model.specs.declared.reply.Reply.TheVariants.{Recordings}
use Rattle.catalogue_log.specs.Catalogue.{RefusesCatalogue}
use Rattle.catalogue_log.specs.LogState.{LogState}
use Rattle.control_core.specs.Decisions.{listed}
use Rattle.control_core.specs.Desk.{DeskState}
use Rattle.control_lines.specs.ReplyText.{reply_text}
use Rattle.archive_commands.specs.declared.commands.Stop.{Stop}
use Rattle.archive_commands.specs.declared.commands.Stop.TheVariants.{Refused, Cut}
use Rattle.archive_commands.specs.Reports.{LacksAsked}
use Rattle.tool_core.specs.declared.fault.EarlyEnd.{EarlyEnd}
use Rattle.tool_core.specs.Answering.{FailsToAnswer}
use Rattle.archive_view.specs.declared.view.ArchiveView.{ArchiveView}
use Rattle.archive_view.specs.ReadOnly.{IsOnlyRead, disk_of}
use Rattle.archive_view.specs.View.{IsAsCatalogued}
use Rattle.archive_view.specs.Viewed.{desk_of, read_of}

-- A disk was only read, and the desk is that of its catalogue, if it obeys the crash model.
pub record ShowsDesk (old new : Life) (desk : DeskState) : Type 0 where
  pub inside : IsOnlyRead old new
  pub log : LogState
  pub seen : IsTrue new.obeys → IsAsCatalogued (reads old.now) desk log

-- a disk was only read, and its catalogue is refused so
pub record RefusesDesk (old new : Life) (Why : Type 0) : Type 0 where
  pub inside : IsOnlyRead old new
  pub refused : IsTrue new.obeys → Why

-- the desk was seen, and lacks the recording that was asked for alone
pub record ShowsWithout (asked : Option ℤ) (old new : Life) (refusal : Refusal) : Type 0 where
  pub desk : DeskState
  pub shown : ShowsDesk old new desk
  pub absent : LacksAsked asked desk
  pub is : refusal ≡ UnknownRecording

-- the desk was seen, and this is written of its recordings
pub record HasListedViewed (old new : Life) (contents written : Option (List ℕ)) : Type 0 where
  pub desk : DeskState
  pub shown : ShowsDesk old new desk
  pub told : Appends contents written (reply_text (Recordings (listed (pos 0) (pos 1024) desk.register.recordings)))

-- it was seen, and its recordings could not be written
pub record HasNotListed (old new : Life) (contents written : Option (List ℕ)) (end : EarlyEnd) : Type 0 where
  pub desk : DeskState
  pub shown : ShowsDesk old new desk
  pub told : FailsToAnswer end contents written

module _ {D : Type 0} (life : D → Life) where
  -- the disk of a view
  abbrev pub inner : ArchiveView D → Life
  inner view = life (disk_of (read_of view))

  abbrev pub IsViewedBy : Life → ArchiveView D → Type 0
  IsViewedBy old view = ShowsDesk old (inner view) (desk_of view)

  abbrev pub IsUnviewedBy : Life → D → Stop → Type 0
  IsUnviewedBy old disk (Refused refusal) = RefusesDesk old (life disk) (RefusesCatalogue (reads old.now) refusal)
  IsUnviewedBy old disk (Cut end) = ⊥

  -- it was not seen, or lacks the recording that was asked for alone
  abbrev pub IsUnseenBy : Option ℤ → Life → D → Stop → Type 0
  IsUnseenBy asked old disk (Refused refusal) = IsUnviewedBy old disk (Refused refusal) ⊎ ShowsWithout asked old (life disk) refusal
  IsUnseenBy asked old disk (Cut end) = ⊥

  -- it was not seen, and nothing is written; or it was
  abbrev pub FailsToListViewed : Life → D → Stop → Option (List ℕ) → Option (List ℕ) → Type 0
  FailsToListViewed old disk (Refused refusal) contents written = IsUnviewedBy old disk (Refused refusal) × (written ≡ contents)
  FailsToListViewed old disk (Cut end) contents written = HasNotListed old (life disk) contents written end
