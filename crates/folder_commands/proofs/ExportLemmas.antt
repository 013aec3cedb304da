-- How an export ends, by what was seen of the watched folder.
use Rattle.std.proofs.Common.{◌≡◌, ◌∙◌, ℕ, ℤ, List, Option, None, Some, inl, inr, refl, subst, sym}
use Rattle.std.specs.Prelude.{IsSomeAnd, MatchResult, Result, Ok, Err, codes}
use Rattle.std.specs.Io.KnownBytes.{Appends}
use Rattle.frame_core.specs.declared.refusal.Refusal.{Refusal}
use Rattle.frame_core.specs.declared.refusal.Refusal.TheVariants.{DeviceFault}
use Rattle.disk_core.specs.DiskImage.{MayLeave}
use Rattle.disk_core.specs.Life.{Life}
use Rattle.disk_core.proofs.CallerLemmas.{goes_on_part, now_leaves, started}
use Rattle.host_disk.specs.Events.{Given}
use Rattle.host_disk.specs.Replay.{life_from}
use Rattle.archive_commands.specs.declared.commands.Stop.{Stop}
use Rattle.archive_commands.specs.declared.commands.Stop.TheVariants as stops
use Rattle.tool_core.specs.declared.fault.EarlyEnd.TheVariants as ends
use Rattle.archive_report.specs.ArchiveView.{ArchiveView}
use Rattle.archive_report.specs.ReadOnly.{IsOnlyRead}
use Rattle.archive_export.specs.declared.span.Span.{Span}
use Rattle.archive_export.specs.Exporting.{IsLookedOn}
use Rattle.archive_report.specs.Exported.{FailsToExportFrom, HasExportedFrom, HasLookedFrom, HasRefusedFrom}
use Rattle.folder_commands.specs.declared.exit.Exit.{Exit}
use Rattle.folder_commands.specs.declared.status.Ending.{Ending}
use Rattle.folder_commands.specs.declared.status.Ending.TheVariants.{Done, Cut, Refused, Unopened, FoundDamage, LineRefused, NoneBefore, Stuck, Hidden, NoCommand, Failed}
use Rattle.folder_commands.specs.Folders.{ending_in}
use Rattle.folder_commands.specs.Looking.{ExportsFolder, FailsToCapture, HasCaptured, IsUncaptured, itself, uncaptured_ending}
use Rattle.folder_commands.proofs.ViewLemmas.{bare}

-- ---- a folder that is only read

pub unread : (life : Life) → IsOnlyRead life life
unread life = record { same = λ file. refl; any_moment = started life (MayLeave life.now) (λ image left. left); obeyed = λ obeys. obeys }

read_on : (old mid new : Life) → IsOnlyRead old mid → IsOnlyRead mid new → IsOnlyRead old new
read_on old mid new first last = record {
  same = λ file. last.same file ∙ first.same file;
  any_moment = goes_on_part old mid new (MayLeave old.now) (MayLeave mid.now) first.any_moment last.any_moment (now_leaves old mid (MayLeave old.now) first.any_moment);
  obeyed = λ obeys. first.obeyed (last.obeyed obeys);
}

-- ---- what was seen of it, of its life alone

module _ {D : Type 0} (life : D → Life) where
  looked : {old new : ArchiveView D} → IsLookedOn life old new → IsLookedOn itself (bare life old) (bare life new)
  looked h = record { inside = h.inside; same = h.same; desk = h.desk; faults = h.faults }

  pub exported : {old new : Life} {recording : ℤ} {span : Span} {contents written : Option (List ℕ)} → HasExportedFrom life old new recording span contents written → HasExportedFrom itself old new recording span contents written
  exported h = record {
    seen = bare life h.seen;
    shown = h.shown;
    last = bare life h.last;
    exported = record {
      look = looked h.exported.look;
      g = h.exported.g;
      found = h.exported.found;
      within = h.exported.within;
      destination = h.exported.destination;
      is_destination = h.exported.is_destination;
      frames = h.exported.frames;
      begins = h.exported.begins;
      shown = h.exported.shown;
      told = h.exported.told;
    };
    left = h.left;
  }

  refused : {old new : Life} {recording : ℤ} {span : Span} {refusal : Refusal} → HasRefusedFrom life old new recording span refusal → HasRefusedFrom itself old new recording span refusal
  refused h = record {
    seen = bare life h.seen;
    shown = h.shown;
    last = bare life h.last;
    refused = record { look = looked h.refused.look; why = h.refused.why; cause = h.refused.cause };
    left = h.left;
  }

  unexported : (old : Life) (disk : D) (recording : ℤ) (span : Span) (refusal : Refusal) (contents written : Option (List ℕ)) → FailsToExportFrom life old disk recording span (stops.Refused refusal) contents written → FailsToExportFrom itself old (life disk) recording span (stops.Refused refusal) contents written
  unexported old disk recording span refusal contents written (inl h) = inl h
  unexported old disk recording span refusal contents written (inr h) = inr (refused h)

  looked_on : (old new : Life) → HasLookedFrom life old new → IsOnlyRead old new
  looked_on old new h = subst (IsOnlyRead old) (sym h.left) (read_on old _ _ h.shown.inside h.looked.inside)

  -- why the frames were not written into a file
  pub fails_to_capture : (old : Life) (recording : ℤ) (span : Span) (disk : D) (why : Stop) → FailsToExportFrom life old disk recording span why None None → FailsToCapture old (life disk) recording span (uncaptured_ending why)
  fails_to_capture old recording span disk (stops.Refused refusal) h = inl (unexported old disk recording span refusal None None h)
  fails_to_capture old recording span disk (stops.Cut ends.Write) h = inr (tt, looked_on old (life disk) h)
  fails_to_capture old recording span disk (stops.Cut ends.Read) h = absurd h
  fails_to_capture old recording span disk (stops.Cut ends.Memory) h = absurd h

-- ---- how the capture ends

module _ (old : Life) (recording : ℤ) (span : Span) where
  only_read : (new : Life) → HasCaptured old new recording span → IsOnlyRead old new
  only_read new h = subst (IsOnlyRead old) (sym h.left) (read_on old _ _ h.shown.inside h.exported.look.inside)

  pub capture_done : (left : Option Life) (new : Life) → left ≡ Some new → HasCaptured old new recording span → IsSomeAnd left (λ n. HasCaptured old n recording span)
  capture_done left new is h = subst (λ l. IsSomeAnd l (λ n. HasCaptured old n recording span)) (sym is) h

  pub capture_fails : (left : Option Life) (new : Life) (so ending : Ending) → left ≡ Some new → ending ≡ so → FailsToCapture old new recording span so → IsSomeAnd left (λ n. FailsToCapture old n recording span ending)
  capture_fails left new so ending is last h =
      subst (λ l. IsSomeAnd l (λ n. FailsToCapture old n recording span ending)) (sym is) (subst (FailsToCapture old new recording span) (sym last) h)

  -- they were written, and then the file was not written out, synced or named
  pub capture_lost : (left : Option Life) (ending : Ending) → IsSomeAnd left (λ n. HasCaptured old n recording span) → ending ≡ Refused DeviceFault → IsSomeAnd left (λ n. FailsToCapture old n recording span ending)
  capture_lost None ending h is = absurd h
  capture_lost (Some new) ending h is = subst (FailsToCapture old new recording span) (sym is) (inr (tt, only_read new h))

-- ---- how the export ends

module _ (given : Given) (recording : ℤ) (span : Span) (contents : Option (List ℕ)) where
  -- the frames were not captured, and nothing is told
  uncaptured_so : (new : Life) (ending : Ending) → FailsToCapture (life_from given) new recording span ending → ExportsFolder given recording span contents contents (Some new) ending
  uncaptured_so new Done h = absurd h.0
  uncaptured_so new (Cut ends.Write) h = absurd h.0
  uncaptured_so new (Cut ends.Read) h = (h, refl)
  uncaptured_so new (Cut ends.Memory) h = (h, refl)
  uncaptured_so new (Refused refusal) h = (h, refl)
  uncaptured_so new (Unopened fault) h = (h, refl)
  uncaptured_so new FoundDamage h = (h, refl)
  uncaptured_so new LineRefused h = (h, refl)
  uncaptured_so new NoneBefore h = (h, refl)
  uncaptured_so new (Stuck stop) h = (h, refl)
  uncaptured_so new Hidden h = (h, refl)
  uncaptured_so new (NoCommand kind) h = (h, refl)
  uncaptured_so new (Failed fault) h = (h, refl)

  pub export_fails : (old : Life) (left : Option Life) (ending : Ending) → old ≡ life_from given → IsSomeAnd left (λ n. FailsToCapture old n recording span ending) → ExportsFolder given recording span contents contents left ending
  export_fails old None ending begins h = absurd h
  export_fails old (Some new) ending begins h = uncaptured_so new ending (subst (λ l. FailsToCapture l new recording span ending) begins h)

  unmade : (old : Life) (ending : Ending) → IsUncaptured ending → FailsToCapture old old recording span ending
  unmade old (Refused refusal) h = inr (h, unread old)
  unmade old ending h = (h, unread old)

  -- no file was made
  pub export_unmade : (new : Life) (ending : Ending) → new ≡ life_from given → IsUncaptured ending → ExportsFolder given recording span contents contents (Some new) ending
  export_unmade new ending begins h = uncaptured_so new ending (subst (λ l. FailsToCapture l new recording span ending) begins (unmade new ending h))

  -- they were, and that is told, or could not be
  pub export_ends : (written : Option (List ℕ)) (old : Life) (kept left : Option Life) (done : Result (Unit {0}) Exit) (ending : Ending) → old ≡ life_from given → IsSomeAnd kept (λ n. HasCaptured old n recording span)
      → MatchResult done (λ _. Appends contents written (codes "exported\n")) (λ exit. exit.ending ≡ Cut ends.Write) → left ≡ kept → ending ≡ ending_in done → ExportsFolder given recording span contents written left ending
  export_ends written old None left done ending begins h told is so = absurd h
  export_ends written old (Some new) left (Ok done) ending begins h told is so =
      subst (λ l. ExportsFolder given recording span contents written l ending) (sym is)
      (subst (ExportsFolder given recording span contents written (Some new)) (sym so) (subst (λ l. HasCaptured l new recording span) begins h, told))
  export_ends written old (Some new) left (Err exit) ending begins h told is so =
      subst (λ l. ExportsFolder given recording span contents written l ending) (sym is)
      (subst (ExportsFolder given recording span contents written (Some new)) (sym (so ∙ told)) (subst (λ l. HasCaptured l new recording span) begins h))
