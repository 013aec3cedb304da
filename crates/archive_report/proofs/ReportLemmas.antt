-- Recordings of an archive that is only looked at, verified one after another.
use Rattle.std.proofs.Common.{◌≡◌, ◌∙◌, refl, sym, ap, subst, inl, inr, ℕ, suc, ℤ, Bool, IsTrue, List, [], ◌∷◌, length, take, Option, None, Some}
use Rattle.std.specs.Prelude.{Result, Ok, Err, IfErr, MatchResult}
use Rattle.frame_core.specs.declared.refusal.Refusal.{Refusal}
use Rattle.disk_core.specs.DiskImage.{DiskImage, MayLeave, reads}
use Rattle.disk_core.specs.Life.{Life}
use Rattle.disk_core.proofs.CallerLemmas.{goes_on_part, now_leaves, started}
use Rattle.archive_model.specs.declared.registration.Registration.{Registration}
use Rattle.archive_model.specs.declared.reply.Reply.{Reply}
use Rattle.archive_model.specs.declared.reply.Reply.TheVariants.{Verified}
use Rattle.archive_model.specs.Register.{registration_in}
use Rattle.control_core.specs.Desk.{DeskState}
use Rattle.recording_reads.specs.Reading.{RefusesCount}
use Rattle.archive_commands.specs.declared.commands.CommandFault.{CommandFault}
use Rattle.archive_commands.specs.declared.commands.Stop.{Stop}
use Rattle.archive_commands.specs.declared.commands.Stop.TheVariants as stops
use Rattle.tool_core.specs.declared.fault.EarlyEnd.{EarlyEnd}
use Rattle.archive_commands.specs.declared.reports.Verdict.{Verdict}
use Rattle.archive_commands.specs.Reports.{HasReported, HasReportedFirst, InTurn, InTurnAndOne}
use Rattle.archive_view.specs.declared.read_only.ReadOnly.{ReadOnly}
use Rattle.archive_view.specs.declared.view.ArchiveView.{ArchiveView}
use Rattle.archive_view.specs.ReadOnly.{IsOnlyRead, Looks, Refuses, disk_of}
use Rattle.catalogue_log.specs.Catalogue.{RefusesCatalogue}
use Rattle.catalogue_log.specs.LogState.{LogState}
use Rattle.archive_view.specs.View.{TellsMoved}
use Rattle.archive_view.specs.Verified.{HasVerified as WasVerified, VerifyAnswers}
use Rattle.archive_view.specs.Viewed.{desk_of, read_of}
use Rattle.archive_view.specs.Asked.{Answers, HasAsked}
use Rattle.archive_report.specs.Describing.{IsLookedOn}
use Rattle.archive_report.specs.Viewing.{FailsToListViewed, IsUnseenBy, IsUnviewedBy, inner}
use Rattle.archive_report.specs.declared.verify.Seen.{Seen}
use Rattle.archive_report.specs.Verifying.{FailsToVerifyViewed, TellEach, Tells, VerifiesEach, seen_verifies}

-- ---- a disk that is only read

pub unread : (life : Life) → IsOnlyRead life life
unread life = record { same = λ file. refl; any_moment = started life (MayLeave life.now) (λ image left. left); obeyed = λ obeys. obeys }

pub read_on : (old mid new : Life) → IsOnlyRead old mid → IsOnlyRead mid new → IsOnlyRead old new
read_on old mid new first last = record {
  same = λ file. last.same file ∙ first.same file;
  any_moment = goes_on_part old mid new (MayLeave old.now) (MayLeave mid.now) first.any_moment last.any_moment (now_leaves old mid (MayLeave old.now) first.any_moment);
  obeyed = λ obeys. first.obeyed (last.obeyed obeys);
}

-- ---- answers

-- the answer as a reply
abbrev pub replied : Result ℤ Refusal → Result Reply Refusal
replied (Ok count) = Ok (Verified count)
replied (Err refusal) = Err refusal

-- it is that of the image, if the disk obeys
told_of : {D : Type 0} (life : D → Life) (old new : ReadOnly D) (g : Option Registration) (result : Result ℤ Refusal) → VerifyAnswers life old new g result
    → IsOnlyRead (life (disk_of old)) (life (disk_of new)) × (IsTrue (life (disk_of new)).obeys → Tells (reads (life (disk_of old)).now) g (replied result))
told_of life old new None (Ok count) answers = absurd answers
told_of life old new None (Err refusal) answers = (subst (λ r. IsOnlyRead (life (disk_of old)) (life (disk_of r))) (sym answers.1) (unread (life (disk_of old))), λ obeys. answers.0)
told_of life old new (Some g) (Ok count) answers = (answers.inside, answers.seen)
told_of life old new (Some g) (Err refusal) answers = (answers.0.look.inside, λ obeys. subst (λ (b : Bool). RefusesCount b (reads (life (disk_of old)).now) g refusal) obeys answers.1)

module _ {D : Type 0} (life : D → Life) where
  pub none_yet : (view : ArchiveView D) → VerifiesEach life view view [] []
  none_yet view = record { inside = unread (inner life view); same = refl; desk = refl; total = refl; each = λ obeys. tt }

  -- a view's answer to the verifying of one
  pub one : (old new : ArchiveView D) (id : ℤ) (result : Result ℤ Refusal) (outcome : Result Reply Refusal) → WasVerified life old new id result → outcome ≡ replied result → VerifiesEach life old new (id ∷ []) (outcome ∷ [])
  one old new id result outcome was is =
      let told = told_of life (read_of old) (read_of new) (registration_in (desk_of old).register id) result was.answers in
      record {
        inside = told.0;
        same = was.same;
        desk = was.desk;
        total = refl;
        each = λ obeys. (subst (λ (o : Result Reply Refusal). Tells (reads (inner life old).now) (registration_in (desk_of old).register id) o) (sym is) (told.1 obeys), tt);
      }

  -- one before the others
  before : (old mid new : ArchiveView D) (id : ℤ) (ids : List ℤ) (outcome : Result Reply Refusal) (outcomes : List (Result Reply Refusal)) → VerifiesEach life old mid (id ∷ []) (outcome ∷ []) → VerifiesEach life mid new ids outcomes
      → VerifiesEach life old new (id ∷ ids) (outcome ∷ outcomes)
  before old mid new id ids outcome outcomes first rest = record {
    inside = read_on (inner life old) (inner life mid) (inner life new) first.inside rest.inside;
    same = rest.same ∙ first.same;
    desk = rest.desk ∙ first.desk;
    total = ap suc rest.total;
    each = λ obeys.
        let there = subst (λ (d : DeskState). TellEach (reads (inner life mid).now) d.register ids outcomes) first.desk (rest.each obeys) in
        ((first.each (rest.inside.obeyed obeys)).0, subst (λ (image : DiskImage). TellEach image (desk_of old).register ids outcomes) first.same there);
  }

  -- a later view, of whose call no answer was written
  pub later : (old mid new : ArchiveView D) (ids : List ℤ) (outcomes : List (Result Reply Refusal)) (id : ℤ) (outcome : Result Reply Refusal) → VerifiesEach life old mid ids outcomes → VerifiesEach life mid new (id ∷ []) (outcome ∷ [])
      → VerifiesEach life old new ids outcomes
  later old mid new ids outcomes id outcome so_far last = record {
    inside = read_on (inner life old) (inner life mid) (inner life new) so_far.inside last.inside;
    same = last.same ∙ so_far.same;
    desk = last.desk ∙ so_far.desk;
    total = so_far.total;
    each = λ obeys. so_far.each (last.inside.obeyed obeys);
  }

  -- ---- in turn

  in_turn : (old new : Seen D) (ids : List ℤ) (outcomes : List (Result Reply Refusal)) → InTurn (seen_verifies life) old new ids outcomes → VerifiesEach life old.view new.view ids outcomes
  in_turn old new [] [] is = subst (λ (s : Seen D). VerifiesEach life old.view s.view [] []) (sym is) (none_yet old.view)
  in_turn old new (id ∷ ids) (o ∷ os) (mid, first, turn) = before old.view mid.view new.view id ids o os first (in_turn mid new ids os turn)
  in_turn old new [] (o ∷ os) turn = absurd turn
  in_turn old new (id ∷ ids) [] turn = absurd turn

  and_one : (old new : Seen D) (ids : List ℤ) (outcomes : List (Result Reply Refusal)) → InTurnAndOne (seen_verifies life) old new ids outcomes → VerifiesEach life old.view new.view ids outcomes
  and_one old new ids os (mid, turn, inl is) = subst (λ (s : Seen D). VerifiesEach life old.view s.view ids os) (sym is) (in_turn old mid ids os turn)
  and_one old new ids os (mid, turn, inr (id, outcome, last)) = later old.view mid.view new.view ids os id outcome (in_turn old mid ids os turn) last

  pub verified : (ids : List ℤ) (old new : Seen D) (contents written : Option (List ℕ)) (verdict : Verdict) → HasReported (InTurn (seen_verifies life)) ids old new contents written verdict
      → HasReported (VerifiesEach life) ids old.view new.view contents written verdict
  verified ids old new contents written verdict did = record { outcomes = did.outcomes; answers = in_turn old new ids did.outcomes did.answers; told = did.told; judged = did.judged }

  pub verified_first : (ids : List ℤ) (old new : Seen D) (contents written : Option (List ℕ)) (end : EarlyEnd) → HasReportedFirst (InTurnAndOne (seen_verifies life)) ids old new contents written end
      → HasReportedFirst (VerifiesEach life) ids old.view new.view contents written end
  verified_first ids old new contents written end did = record { outcomes = did.outcomes; answers = and_one old new (take (length did.outcomes) ids) did.outcomes did.answers; told = did.told }

-- ---- archives that are not seen

module _ {D X : Type 0} (life : D → Life) (old : Life) (contents : Option (List ℕ)) (result : Result X (CommandFault D)) (fault : CommandFault D) (is : result ≡ Err fault) where
  pub unlisted : IsUnviewedBy life old fault.disk fault.why → IfErr result (λ f. FailsToListViewed life old f.disk f.why contents contents)
  unlisted none = subst (λ (r : Result X (CommandFault D)). IfErr r (λ f. FailsToListViewed life old f.disk f.why contents contents)) (sym is) (by fault.why none)
    where
      by : (why : Stop) → IsUnviewedBy life old fault.disk why → FailsToListViewed life old fault.disk why contents contents
      by (stops.Refused refusal) none = (none, refl)
      by (stops.Cut end) none = absurd none

  pub unverified : (asked : Option ℤ) → IsUnseenBy life asked old fault.disk fault.why → IfErr result (λ f. FailsToVerifyViewed life asked old f.disk f.why contents contents)
  unverified asked none = subst (λ (r : Result X (CommandFault D)). IfErr r (λ f. FailsToVerifyViewed life asked old f.disk f.why contents contents)) (sym is) (by fault.why none)
    where
      by : (why : Stop) → IsUnseenBy life asked old fault.disk why → FailsToVerifyViewed life asked old fault.disk why contents contents
      by (stops.Refused refusal) none = (none, refl)
      by (stops.Cut end) none = absurd none

-- ---- files that are asked

asked_inside : {D T : Type 0} (life : D → Life) (Seen : DiskImage → T → Type 0) (old new : ReadOnly D) (result : Result T Refusal) → Answers life Seen old new result → IsOnlyRead (life (disk_of old)) (life (disk_of new))
asked_inside life Seen old new (Ok answer) answers = answers.inside
asked_inside life Seen old new (Err refusal) answers = answers.0.look.inside

module _ {D : Type 0} (life : D → Life) where
  pub asked_look : {T : Type 0} (Seen : DiskImage → T → Type 0) (old new : ArchiveView D) (result : Result T Refusal) → HasAsked life Seen old new result → IsLookedOn life old new
  asked_look Seen old new result asked = record { inside = asked_inside life Seen (read_of old) (read_of new) result asked.answers; desk = asked.desk }

  pub look_on : (old mid new : ArchiveView D) → IsLookedOn life old mid → IsLookedOn life mid new → IsLookedOn life old new
  look_on old mid new first last = record { inside = read_on (inner life old) (inner life mid) (inner life new) first.inside last.inside; desk = last.desk ∙ first.desk }

  pub no_look : (view : ArchiveView D) → IsLookedOn life view view
  no_look view = record { inside = unread (inner life view); desk = refl }

-- the catalogue that was read again
pub read_again : {D : Type 0} (life : D → Life) (old new : ReadOnly D) (log : LogState) (result : Result Bool Refusal)
    → MatchResult result (λ moved. Looks life (λ image. TellsMoved image log moved) old new) (λ refusal. Refuses life (λ image. RefusesCatalogue image refusal) old new refusal)
    → IsOnlyRead (life (disk_of old)) (life (disk_of new))
read_again life old new log (Ok moved) looks = looks.inside
read_again life old new log (Err refusal) refuses = refuses.look.inside
