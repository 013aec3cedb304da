-- What an engine answers to the verifying of recordings.
use Rattle.std.proofs.Common.{◌≡◌, ◌⊎◌, ◌∙◌, ◌+◌, Bool, true, false, refl, sym, ap, subst, inl, inr, ℕ, suc, ℤ, true≢false, cond, List, [], ◌∷◌, length, take, Option, arith}
use Rattle.std.proofs.lemmas.List.Sums.{sum_by-cons}
use Rattle.std.specs.Prelude.{IfSome, IsTrue, MatchBool, Result, Ok, Err}
use Rattle.std.specs.List.{AllZip}
use Rattle.frame_core.specs.declared.refusal.Refusal.{Refusal}
use Rattle.frame_core.specs.declared.refusal.Refusal.TheVariants.{DeviceFault, NoMemory}
use Rattle.disk_core.specs.DiskImage.{Files, reads}
use Rattle.disk_core.specs.Life.{HasFailed, IsQuiet, Life}
use Rattle.archive_model.specs.declared.reply.Reply.{Reply}
use Rattle.control_core.specs.declared.event.Event.TheVariants.{Verify}
use Rattle.archive_model.specs.Checks.{Tests, checks}
use Rattle.archive_model.specs.Register.{registration_in}
use Rattle.control_core.specs.declared.asked.Asked.TheVariants as calls
use Rattle.control_core.specs.declared.asked.Told.TheVariants as told
use Rattle.archive_model.specs.declared.reply.Reply.TheVariants as replies
use Rattle.control_core.specs.Desk.{DeskState}
use Rattle.control_core.specs.Exact.{Archive, CallEnds, told_of}
use Rattle.control_core.specs.Machine.{Ended, Ends, Outcome, Outside, Passing, RefusesCall, Step, Stepped, Unread}
use Rattle.control_core.specs.Turns.{verify_tests}
use Rattle.engine_core.specs.Calls.{AnswersEvent, HasFailedOften, faults_in, is_fault}
use Rattle.engine_core.specs.Consistent.{IsCrashConsistent}
use Rattle.engine_core.specs.Engine.{DiskGoesOn, EngineState, archive_of}
use Rattle.engine_core.specs.Shown.{CountsShown}
use Rattle.tool_core.specs.declared.fault.EarlyEnd.{EarlyEnd}
use Rattle.archive_commands.specs.declared.reports.Verdict.{Verdict}
use Rattle.archive_commands.specs.Reports.{AnswersEach, HasReported, HasReportedFirst, InTurn, InTurnAndOne, IsEngineOf, Verifications, verifies_by}
use Rattle.control_core.proofs.FaultLemmas.{other_cause}
use Rattle.tool_core.proofs.CallLemmas.{answered_at}

-- a device fault is answered where a call of the disk has failed; those of both have their causes
faults_then : (old mid new : Life) (outcome : Result Reply Refusal) (last : List (Result Reply Refusal)) → DiskGoesOn old mid → (outcome ≡ Err DeviceFault → HasFailed old mid) → HasFailedOften (faults_in last) mid new
    → HasFailedOften (faults_in (outcome ∷ last)) old new
faults_then old mid new outcome last goes cause behind = subst (λ (n : ℕ). HasFailedOften n old new) (sym (sum_by-cons (λ o. cond (is_fault o) 1 0) outcome last)) (by outcome cause)
  where
    by : (o : Result Reply Refusal) → (o ≡ Err DeviceFault → HasFailed old mid) → HasFailedOften (cond (is_fault o) 1 0 + faults_in last) old new
    by (Err DeviceFault) cause = let failed = cause refl in omega (arith, failed, behind)
    by o cause = omega (arith, goes.faults, behind)

faults_since : (old mid new : Life) (outcomes : List (Result Reply Refusal)) → HasFailedOften (faults_in outcomes) old mid → DiskGoesOn mid new → HasFailedOften (faults_in outcomes) old new
faults_since old mid new outcomes first goes = omega (arith, first, goes.faults)

goes_then : (old mid new : Life) → DiskGoesOn old mid → DiskGoesOn mid new → DiskGoesOn old new
goes_then old mid new first behind =
    let early = first.faults in
    let late = behind.faults in
    record { obeyed = λ obeys. first.obeyed (behind.obeyed obeys); faults = omega (arith, early, late) }

-- ---- calls that only read

quiet_here : (life : Life) → IsQuiet life life
quiet_here life = record { obeyed = λ obeys. obeys; past = refl; now = refl; faults = omega arith }

quiet_then : (old mid new : Life) → IsQuiet old mid → IsQuiet mid new → IsQuiet old new
quiet_then old mid new first behind =
    let early = first.faults in
    let late = behind.faults in
    record { obeyed = λ obeys. first.obeyed (behind.obeyed obeys); past = behind.past ∙ first.past; now = behind.now ∙ first.now; faults = omega (arith, early, late) }

-- a verification leaves the desk

passing_leaves : (d new : DeskState) (tests : Tests) (rs : List Refusal) (ends : Ends) (o : Outcome) → (ends o new → new ≡ d) → Passing d tests rs ends o new → new ≡ d
passing_leaves d new tests [] ends o leaves h = leaves h
passing_leaves d new tests (r ∷ rs) ends o leaves h = by (tests r) h (passing_leaves d new tests rs ends o leaves)
  where
    by : (t : Bool) → MatchBool t (Passing d tests rs ends o new) (RefusesCall d r o new) → (Passing d tests rs ends o new → new ≡ d) → new ≡ d
    by true h rest = rest h
    by false h rest = h.1

verify_leaves : (d new : DeskState) (id : ℤ) (o : Outcome) → Step d (calls.Verify id) o new → new ≡ d
verify_leaves d new id o step = passing_leaves d new (verify_tests d id) checks verifying o leaves step
  where
    verifying : Ends
    verifying = λ outcome end. ((frames : ℤ) × Ended (Ok (told.Reply (replies.Verified frames))) d outcome end) ⊎ Unread d outcome end

    leaves : verifying o new → new ≡ d
    leaves (inl counted) = counted.1.1
    leaves (inr (inl fault)) = fault.1
    leaves (inr (inr damaged)) = damaged.2.1

verified_leaves : (d new : DeskState) (id : ℤ) (o : Outcome) → Stepped d (calls.Verify id) o new → new ≡ d
verified_leaves d new id (Ok told) step = verify_leaves d new id (Ok told) step
verified_leaves d new id (Err refusal) step = elim step [ inl exact ↦ verify_leaves d new id (Err refusal) exact | inr out ↦ outside refusal out ]
  where
    outside : (r : Refusal) → Outside d ⊥ (λ x. ⊥) r new → new ≡ d
    outside NoMemory is = is
    outside DeviceFault never = absurd never.0
    outside r never = absurd never

-- what is told over the same desk and files is told over both
shown_before : (old mid : Life) (d e : DeskState) (ids : List ℤ) (outcomes : List (Result Reply Refusal)) → IsQuiet old mid → e ≡ d → AllZip (λ id outcome. IfSome (registration_in e.register id) (λ g. CountsShown (reads mid.now) g outcome)) ids outcomes
    → AllZip (λ id outcome. IfSome (registration_in d.register id) (λ g. CountsShown (reads old.now) g outcome)) ids outcomes
shown_before old mid d e ids outcomes quiet same shown =
    subst (λ (x : DeskState). AllZip (λ id outcome. IfSome (registration_in x.register id) (λ g. CountsShown (reads old.now) g outcome)) ids outcomes) same
    (subst (λ (files : Files). AllZip (λ id outcome. IfSome (registration_in e.register id) (λ g. CountsShown (reads files) g outcome)) ids outcomes) quiet.now shown)

none_yet : (engine : EngineState) → AnswersEach engine engine [] []
none_yet engine = record { goes_on = record { obeyed = λ obeys. obeys; faults = omega arith }; each = refl; quiet = quiet_here engine.life; shown = λ obeys. tt; cause = omega arith; stays = λ a is. is; exact = λ a is obeys. tt }

one_desk : (old new : EngineState) (id : ℤ) (outcome : Result Reply Refusal) → AnswersEvent old new (Verify id) outcome → new.desk ≡ old.desk
one_desk old new id outcome answers = verified_leaves old.desk new.desk id (told_of old.desk (Verify id) outcome) answers.ends.machine

-- the archive of one verifying stays, and its answer is one that the call may have
stays_one : (old new : EngineState) (id : ℤ) (outcome : Result Reply Refusal) → AnswersEvent old new (Verify id) outcome → (a : Archive) → IsEngineOf a old → IsEngineOf a new
stays_one old new id outcome answers a was =
    let ended = answered_at old new a (Verify id) outcome was.desk was.consistent answers (λ cut. absurd (true≢false (sym cut))) in
    record { desk = ap (λ (b : Archive). b.desk) ended.ends.1; consistent = subst (λ (b : Archive). IsCrashConsistent new.life new.log b) ended.ends.1 ended.consistent }

exact_one : (old new : EngineState) (id : ℤ) (outcome : Result Reply Refusal) → AnswersEvent old new (Verify id) outcome → (a : Archive) → IsEngineOf a old → IsTrue new.life.obeys → CallEnds a (Verify id) (Unit {0}) outcome a
exact_one old new id outcome answers a was obeys =
    let ended = answered_at old new a (Verify id) outcome was.desk was.consistent answers (λ cut. obeys) in
    let b : Archive = archive_of new ended.after in
    let ends = other_cause a (Verify id) (HasFailed old.life new.life) (Unit {0}) outcome b (λ failed. tt) (ended.ends.0 (λ reads. obeys)) in
    subst (λ (x : Archive). CallEnds a (Verify id) (Unit {0}) outcome x) ended.ends.1 ends

-- one before the others
before : (old mid new : EngineState) (id : ℤ) (ids : List ℤ) (outcome : Result Reply Refusal) (outcomes : List (Result Reply Refusal)) → AnswersEvent old mid (Verify id) outcome → AnswersEach mid new ids outcomes → AnswersEach old new (id ∷ ids) (outcome ∷ outcomes)
before old mid new id ids outcome outcomes first rest = record {
  goes_on = goes_then old.life mid.life new.life first.ends.goes_on rest.goes_on;
  each = ap suc rest.each;
  quiet = quiet_then old.life mid.life new.life first.touches rest.quiet;
  shown = λ obeys. (first.shows (rest.goes_on.obeyed obeys), shown_before old.life mid.life old.desk mid.desk ids outcomes first.touches (one_desk old mid id outcome first) (rest.shown obeys));
  cause = faults_then old.life mid.life new.life outcome outcomes first.ends.goes_on first.ends.cause rest.cause;
  stays = λ a is. rest.stays a (stays_one old mid id outcome first a is);
  exact = λ a is obeys. (exact_one old mid id outcome first a is (rest.goes_on.obeyed obeys), rest.exact a (stays_one old mid id outcome first a is) obeys);
}

-- a later engine, of whose call no answer was written
later : (old mid new : EngineState) (ids : List ℤ) (outcomes : List (Result Reply Refusal)) (id : ℤ) (outcome : Result Reply Refusal) → AnswersEach old mid ids outcomes → AnswersEvent mid new (Verify id) outcome → AnswersEach old new ids outcomes
later old mid new ids outcomes id outcome so_far last = record {
  goes_on = goes_then old.life mid.life new.life so_far.goes_on last.ends.goes_on;
  each = so_far.each;
  quiet = quiet_then old.life mid.life new.life so_far.quiet last.touches;
  shown = λ obeys. so_far.shown (last.ends.goes_on.obeyed obeys);
  cause = faults_since old.life mid.life new.life outcomes so_far.cause last.ends.goes_on;
  stays = λ a is. stays_one mid new id outcome last a (so_far.stays a is);
  exact = λ a is obeys. so_far.exact a is (last.ends.goes_on.obeyed obeys);
}

-- ---- of whoever is seen as an engine

module _ {A : Type 0} (view : A → EngineState) where
  -- all that verifying each in turn promises
  abbrev pub EachSeen : Verifications A
  EachSeen old new ids outcomes = AnswersEach (view old) (view new) ids outcomes

  in_turn : (old new : A) (ids : List ℤ) (outcomes : List (Result Reply Refusal)) → InTurn (verifies_by view) old new ids outcomes → EachSeen old new ids outcomes
  in_turn old new [] [] is = subst (λ (a : A). EachSeen old a [] []) (sym is) (none_yet (view old))
  in_turn old new (id ∷ ids) (o ∷ os) (mid, first, turn) = before (view old) (view mid) (view new) id ids o os first (in_turn mid new ids os turn)
  in_turn old new [] (o ∷ os) turn = absurd turn
  in_turn old new (id ∷ ids) [] turn = absurd turn

  and_one : (old new : A) (ids : List ℤ) (outcomes : List (Result Reply Refusal)) → InTurnAndOne (verifies_by view) old new ids outcomes → EachSeen old new ids outcomes
  and_one old new ids os (mid, turn, inl is) = subst (λ (a : A). EachSeen old a ids os) (sym is) (in_turn old mid ids os turn)
  and_one old new ids os (mid, turn, inr (id, outcome, last)) = later (view old) (view mid) (view new) ids os id outcome (in_turn old mid ids os turn) last

  pub verified : (ids : List ℤ) (old new : A) (contents written : Option (List ℕ)) (verdict : Verdict) → HasReported (InTurn (verifies_by view)) ids old new contents written verdict
      → HasReported AnswersEach ids (view old) (view new) contents written verdict
  verified ids old new contents written verdict did = record { outcomes = did.outcomes; answers = in_turn old new ids did.outcomes did.answers; told = did.told; judged = did.judged }

  pub verified_first : (ids : List ℤ) (old new : A) (contents written : Option (List ℕ)) (end : EarlyEnd) → HasReportedFirst (InTurnAndOne (verifies_by view)) ids old new contents written end
      → HasReportedFirst AnswersEach ids (view old) (view new) contents written end
  verified_first ids old new contents written end did = record { outcomes = did.outcomes; answers = and_one old new (take (length did.outcomes) ids) did.outcomes did.answers; told = did.told }
