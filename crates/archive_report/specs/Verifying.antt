-- What `verify` tells of an archive that is only looked at.
use Rattle.std.specs.Prelude.{◌≡◌, ℕ, ℤ, true, IsTrue, List, [], ◌∷◌, length, Option, None, Some, Result, Ok, Err}
use Rattle.std.specs.List.{AllZip}
use Rattle.frame_core.specs.declared.refusal.Refusal.{Refusal}
use Rattle.frame_core.specs.declared.refusal.Refusal.TheVariants.{UnknownRecording}
use Rattle.disk_core.specs.DiskImage.{DiskImage, reads}
use Rattle.disk_core.specs.Life.{Life}
use Rattle.archive_model.specs.declared.registration.Registration.{Registration}
use Rattle.archive_model.specs.declared.reply.Reply.{Reply}
use Rattle.archive_model.specs.declared.reply.Reply.TheVariants.{Verified}
use Rattle.archive_model.specs.Register.{RegisterState, registration_in}
use Rattle.control_core.specs.Desk.{DeskState}
use Rattle.recording_reads.specs.Reading.{HasFrames, RefusesCount}
use Rattle.archive_commands.specs.declared.commands.Stop.{Stop}
use Rattle.archive_commands.specs.declared.commands.Stop.TheVariants.{Refused, Cut}
use Rattle.tool_core.specs.declared.fault.EarlyEnd.{EarlyEnd}
use Rattle.archive_commands.specs.declared.reports.Verdict.{Verdict}
use Rattle.archive_commands.specs.Reports.{KnowsAsked, HasReported, HasReportedFirst, Verification, ids_asked}
use Rattle.archive_view.specs.declared.view.ArchiveView.{ArchiveView}
use Rattle.archive_view.specs.ReadOnly.{IsOnlyRead}
use Rattle.archive_view.specs.Viewed.{desk_of}
use Rattle.archive_report.specs.declared.verify.Seen.{Seen}
use Rattle.archive_report.specs.Viewing.{IsUnseenBy, ShowsDesk, inner}

-- what is answered of a recording on such an image
abbrev pub Tells : DiskImage → Option Registration → Result Reply Refusal → Type 0
Tells image None (Err refusal) = refusal ≡ UnknownRecording
Tells image None (Ok reply) = ⊥
Tells image (Some g) (Ok (Verified count)) = HasFrames image g count
Tells image (Some g) (Ok reply) = ⊥
Tells image (Some g) (Err refusal) = RefusesCount true image g refusal

-- each is that of its recording
abbrev pub TellEach : DiskImage → RegisterState → List ℤ → List (Result Reply Refusal) → Type 0
TellEach image g ids outcomes = AllZip (λ id outcome. Tells image (registration_in g id) outcome) ids outcomes

-- what is known of an archive that was seen
abbrev pub desk_seen : {D : Type 0} → Seen D → DeskState
desk_seen seen = desk_of seen.view

module _ {D : Type 0} (life : D → Life) where
  -- Each of these recordings was verified; the disk was only read, and reads as before.
  pub record VerifiesEach (old new : ArchiveView D) (ids : List ℤ) (outcomes : List (Result Reply Refusal)) : Type 0 where
    pub inside : IsOnlyRead (inner life old) (inner life new)
    pub same : reads (inner life new).now ≡ reads (inner life old).now
    pub desk : desk_of new ≡ desk_of old
    pub total : length outcomes ≡ length ids
    pub each : IsTrue (inner life new).obeys → TellEach (reads (inner life old).now) (desk_of old).register ids outcomes

  -- a recording of an archive that was seen is verified
  abbrev pub seen_verifies : Verification (Seen D)
  seen_verifies old id outcome new = VerifiesEach old.view new.view (id ∷ []) (outcome ∷ [])

module _ {D : Type 0} (life : D → Life) (asked : Option ℤ) where
  -- the archive was seen, and then each of its recordings, or the one that was asked for; behind that the disk was at most read
  pub record HasVerifiedViewed (old new : Life) (contents written : Option (List ℕ)) (verdict : Verdict) : Type 0 where
    pub seen : ArchiveView D
    pub shown : ShowsDesk old (inner life seen) (desk_of seen)
    pub there : KnowsAsked asked (desk_of seen)
    pub last : ArchiveView D
    pub verified : HasReported (VerifiesEach life) (ids_asked asked (desk_of seen)) seen last contents written verdict
    pub left : IsOnlyRead (inner life last) new

  pub record HasVerifiedFirstViewed (old new : Life) (contents written : Option (List ℕ)) (end : EarlyEnd) : Type 0 where
    pub seen : ArchiveView D
    pub shown : ShowsDesk old (inner life seen) (desk_of seen)
    pub there : KnowsAsked asked (desk_of seen)
    pub last : ArchiveView D
    pub verified : HasReportedFirst (VerifiesEach life) (ids_asked asked (desk_of seen)) seen last contents written end
    pub left : IsOnlyRead (inner life last) new

  -- it was not seen, or lacks the recording that was asked for, and nothing is written; or it was
  abbrev pub FailsToVerifyViewed : Life → D → Stop → Option (List ℕ) → Option (List ℕ) → Type 0
  FailsToVerifyViewed old disk (Refused refusal) contents written = IsUnseenBy life asked old disk (Refused refusal) × (written ≡ contents)
  FailsToVerifyViewed old disk (Cut end) contents written = HasVerifiedFirstViewed old (life disk) contents written end
