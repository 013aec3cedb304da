-- What is seen of a disk is seen of its life alone.
use Rattle.std.proofs.Common.{ℕ, ℤ, List, Option, Result}
use Rattle.disk_core.specs.Life.{Life}
use Rattle.frame_core.specs.declared.refusal.Refusal.{Refusal}
use Rattle.archive_model.specs.declared.reply.Reply.{Reply}
use Rattle.archive_commands.specs.declared.commands.Stop.{Stop}
use Rattle.archive_commands.specs.declared.commands.Stop.TheVariants as stops
use Rattle.archive_commands.specs.declared.reports.Verdict.{Verdict}
use Rattle.archive_report.specs.ArchiveView.{ArchiveView}
use Rattle.archive_report.specs.Describing.{FailsToDescribe}
use Rattle.archive_report.specs.Verifying.{FailsToVerifyViewed, HasVerifiedViewed, VerifiesEach}
use Rattle.archive_report.specs.Viewing.{FailsToListViewed}
use Rattle.folder_commands.specs.Looking.{itself}

module _ {D : Type 0} (life : D → Life) where
  -- a view over the life of its disk
  abbrev pub bare : ArchiveView D → ArchiveView Life
  bare view = record {
    disk = record { disk = life view.disk.disk; refused = view.disk.refused };
    desk = view.desk;
    log = view.log;
  }

  pub view_unlisted : (old : Life) (contents written : Option (List ℕ)) (disk : D) (why : Stop) → FailsToListViewed life old disk why contents written → FailsToListViewed itself old (life disk) why contents written
  view_unlisted old contents written disk (stops.Refused refusal) h = h
  view_unlisted old contents written disk (stops.Cut end) h = h

  pub view_undescribed : (asked : Option ℤ) (old : Life) (contents written : Option (List ℕ)) (disk : D) (why : Stop) → FailsToDescribe life asked old disk why contents written → FailsToDescribe itself asked old (life disk) why contents written
  view_undescribed asked old contents written disk (stops.Refused refusal) h = h
  view_undescribed asked old contents written disk (stops.Cut end) h = h

  each : {old new : ArchiveView D} {ids : List ℤ} {outcomes : List (Result Reply Refusal)} → VerifiesEach life old new ids outcomes → VerifiesEach itself (bare old) (bare new) ids outcomes
  each h = record { inside = h.inside; same = h.same; desk = h.desk; total = h.total; each = h.each }

  pub view_verified : {asked : Option ℤ} {old new : Life} {contents written : Option (List ℕ)} {verdict : Verdict} → HasVerifiedViewed life asked old new contents written verdict → HasVerifiedViewed itself asked old new contents written verdict
  view_verified h = record {
    seen = bare h.seen;
    shown = h.shown;
    there = h.there;
    last = bare h.last;
    verified = record { outcomes = h.verified.outcomes; answers = each h.verified.answers; told = h.verified.told; judged = h.verified.judged };
    left = h.left;
  }

  pub view_unverified : (asked : Option ℤ) (old : Life) (contents written : Option (List ℕ)) (disk : D) (why : Stop) → FailsToVerifyViewed life asked old disk why contents written → FailsToVerifyViewed itself asked old (life disk) why contents written
  view_unverified asked old contents written disk (stops.Refused refusal) h = h
  view_unverified asked old contents written disk (stops.Cut end) h = record {
    seen = bare h.seen;
    shown = h.shown;
    there = h.there;
    last = bare h.last;
    verified = record { outcomes = h.verified.outcomes; answers = each h.verified.answers; told = h.verified.told };
    left = h.left;
  }
