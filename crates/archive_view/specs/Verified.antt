-- What the verifying of a recording answers, of an archive that is only looked at.
use Rattle.std.specs.Prelude.{◌≡◌, ℤ, Option, None, Some, Result, Ok, Err}
use Rattle.frame_core.specs.declared.refusal.Refusal.{Refusal}
use Rattle.frame_core.specs.declared.refusal.Refusal.TheVariants.{UnknownRecording}
use Rattle.disk_core.specs.DiskImage.{reads}
use Rattle.disk_core.specs.Life.{Life}
use Rattle.archive_model.specs.declared.registration.Registration.{Registration}
use Rattle.archive_model.specs.Register.{registration_in}
use Rattle.recording_reads.specs.Reading.{HasFrames, RefusesCount}
use Rattle.archive_view.specs.declared.read_only.ReadOnly.{ReadOnly}
use Rattle.archive_view.specs.declared.view.ArchiveView.{ArchiveView}
use Rattle.archive_view.specs.ReadOnly.{Looks, Refuses, disk_of}
use Rattle.archive_view.specs.Viewed.{desk_of, read_of}

module _ {D : Type 0} (life : D → Life) where
  -- a recording that is not there is told at once; of one that is there each frame is counted, or it is told where they
  -- break off
  abbrev pub VerifyAnswers : ReadOnly D → ReadOnly D → Option Registration → Result ℤ Refusal → Type 0
  VerifyAnswers old new None (Ok count) = ⊥
  VerifyAnswers old new None (Err refusal) = (refusal ≡ UnknownRecording) × (new ≡ old)
  VerifyAnswers old new (Some g) (Ok count) = Looks life (λ image. HasFrames image g count) old new
  VerifyAnswers old new (Some g) (Err refusal) =
      Refuses life (λ image. Unit {0}) old new refusal
      × RefusesCount (life (disk_of new)).obeys (reads (life (disk_of old)).now) g refusal

  -- a recording was verified, and the view stays
  pub record HasVerified (old new : ArchiveView D) (recording : ℤ) (result : Result ℤ Refusal) : Type 0 where
    pub answers : VerifyAnswers (read_of old) (read_of new) (registration_in (desk_of old).register recording) result
    pub desk : desk_of new ≡ desk_of old
    pub same : reads (life (disk_of (read_of new))).now ≡ reads (life (disk_of (read_of old))).now
