-- Whether an entry past the closed gate settles frames that stand.
use Rattle.std.proofs.Common.{◌≡◌, ◌∙◌, ◌<ℤ◌, sym, subst, ℤ, Bool, true, false, Some, Result, Ok, Err, IfOk, IsTrue}
use Rattle.std.specs.Bool.{MatchBool}
use Rattle.frame_core.specs.declared.refusal.Refusal.{Refusal}
use Rattle.disk_core.specs.DiskImage.{DiskImage}
use Rattle.archive_model.specs.declared.registration.Registration.{Registration}
use Rattle.archive_model.specs.Register.{RegisterState, is_active, registration_in}
use Rattle.catalogue_entries.specs.declared.entry.Entry.{Entry}
use Rattle.catalogue_entries.specs.declared.entry.Entry.TheVariants.{Settle}
use Rattle.recording_reads.specs.Reading.{TellsWritten}
use Rattle.archive_view.specs.Hidden.{HasFrames, HasNoFrames}

same_one : (r s : Registration) → Some r ≡ Some s → r ≡ s
same_one r s is = cc

module _ (image : DiskImage) (g : RegisterState) (id position : ℤ) (known : Registration) (there : registration_in g id ≡ Some known) (active : IsTrue (is_active known)) (further : known.recorded <ℤ position) where
  written : (told : Bool) → TellsWritten image known position told → MatchBool told (HasFrames image g (Settle id position)) (HasNoFrames image g (Settle id position))
  written true tells = record { known = known; is_known = there; active = active; further = further; written = tells }
  written false tells = λ other found works more. subst (λ (r : Registration). TellsWritten image r position false) (same_one known other (sym there ∙ found)) tells

  pub settles : (Works : Type 0) (entry : Entry) → entry ≡ Settle id position → (result : Result Bool Refusal) → IfOk result (λ told. Works → TellsWritten image known position told)
      → IfOk result (λ found. Works → MatchBool found (HasFrames image g entry) (HasNoFrames image g entry))
  settles Works entry is (Ok told) tells = λ works. subst (λ (e : Entry). MatchBool told (HasFrames image g e) (HasNoFrames image g e)) (sym is) (written told (tells works))
  settles Works entry is (Err refusal) tells = tt
