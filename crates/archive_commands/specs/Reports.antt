-- What `verify` tells of an archive: docs/CONTROL.md, "The program".
use Rattle.std.specs.Prelude.{◌≡◌, ◌⊎◌, ℕ, ℤ, Bool, IfSome, IsSome, IsTrue, List, [], ◌∷◌, length, map, take, Option, None, Some, Result, MatchResult, is_ok, if◌then◌else◌}
use Rattle.std.specs.List.{AllZip, flat_map, list_all}
use Rattle.std.specs.Io.KnownBytes.{Appends}
use Rattle.frame_core.specs.declared.refusal.Refusal.{Refusal}
use Rattle.disk_core.specs.DiskImage.{reads}
use Rattle.disk_core.specs.Life.{IsQuiet}
use Rattle.archive_model.specs.declared.reply.Reply.{Reply}
use Rattle.archive_model.specs.Register.{id_of, registration_in}
use Rattle.control_core.specs.declared.event.Event.TheVariants.{Verify}
use Rattle.control_core.specs.Desk.{DeskState}
use Rattle.control_core.specs.Exact.{Archive, CallEnds}
use Rattle.engine_core.specs.Calls.{AnswersEvent, HasFailedOften, faults_in}
use Rattle.engine_core.specs.Engine.{DiskGoesOn, EngineState}
use Rattle.engine_core.specs.Consistent.{KeepsArchive}
use Rattle.engine_core.specs.Shown.{CountsShown}
use Rattle.tool_core.specs.declared.fault.EarlyEnd.{EarlyEnd}
use Rattle.tool_core.specs.declared.fault.EarlyEnd.TheVariants as ends
use Rattle.archive_commands.specs.declared.reports.Verdict.{Verdict}
use Rattle.archive_commands.specs.declared.reports.Verdict.TheVariants.{Whole, Refused}
use Rattle.tool_core.specs.Answering.{FailsToAnswer, outcome_text}

-- what is written of answers, one behind another
abbrev pub outcomes_text : List (Result Reply Refusal) → List ℕ
outcomes_text outcomes = flat_map outcome_text outcomes

-- whether each of them is a reply
abbrev pub verdict_of : List (Result Reply Refusal) → Verdict
verdict_of outcomes = if list_all is_ok outcomes then Whole else Refused

-- what was written before an early end: nothing is said of a writer that failed
abbrev pub IsWrittenBefore : EarlyEnd → Option (List ℕ) → Option (List ℕ) → List ℕ → Type 0
IsWrittenBefore ends.Read contents written text = ⊥
IsWrittenBefore ends.Memory contents written text = Appends contents written text
IsWrittenBefore ends.Write contents written text = Unit {0}

-- the ids of a desk's recordings, as they rise
abbrev pub ids_in : DeskState → List ℤ
ids_in desk = map id_of desk.register.recordings

-- the ids that are asked for: that of one recording alone, or those of a desk's recordings
abbrev pub ids_asked : Option ℤ → DeskState → List ℤ
ids_asked None desk = ids_in desk
ids_asked (Some id) desk = id ∷ []

-- if one recording alone is asked for, the desk has it
abbrev pub KnowsAsked : Option ℤ → DeskState → Type 0
KnowsAsked None desk = Unit {0}
KnowsAsked (Some id) desk = IsSome (registration_in desk.register id)

-- one recording alone is asked for, and the desk doesn't have it
abbrev pub LacksAsked : Option ℤ → DeskState → Type 0
LacksAsked None desk = ⊥
LacksAsked (Some id) desk = registration_in desk.register id ≡ None

-- what the verifying of a recording may answer, and leave
abbrev pub Verification : Type 0 → Type 1
Verification A = A → ℤ → Result Reply Refusal → A → Type 0

-- and of several
abbrev pub Verifications : Type 0 → Type 1
Verifications A = A → A → List ℤ → List (Result Reply Refusal) → Type 0

module _ {A : Type 0} (one : Verification A) where
  -- one after another
  abbrev pub InTurn : Verifications A
  InTurn old new [] [] = new ≡ old
  InTurn old new (id ∷ ids) (outcome ∷ outcomes) = (mid : A) × one old id outcome mid × InTurn mid new ids outcomes
  InTurn old new ids outcomes = ⊥

  -- and behind them at most one more, whose answer is not among these
  abbrev pub InTurnAndOne : Verifications A
  InTurnAndOne old new ids outcomes =
      (mid : A) × InTurn old mid ids outcomes × ((new ≡ mid) ⊎ ((id : ℤ) × (outcome : Result Reply Refusal) × one mid id outcome new))

  -- one recording was verified; what is written of the answer, and whether it is a reply
  pub record HasReportedOne (old new : A) (id : ℤ) (contents written : Option (List ℕ)) (result : Result Bool EarlyEnd) : Type 0 where
    pub outcome : Result Reply Refusal
    pub answer : one old id outcome new
    pub told : MatchResult result
        (λ is_verified. Appends contents written (outcome_text outcome) × (is_verified ≡ is_ok outcome))
        (λ end. FailsToAnswer end contents written)

module _ {A : Type 0} (each : Verifications A) (ids : List ℤ) where
  -- each recording was verified, and the answers are written
  pub record HasReported (old new : A) (contents written : Option (List ℕ)) (verdict : Verdict) : Type 0 where
    pub outcomes : List (Result Reply Refusal)
    pub answers : each old new ids outcomes
    pub told : Appends contents written (outcomes_text outcomes)
    pub judged : verdict ≡ verdict_of outcomes

  -- the first recordings were verified, and the answers are written
  pub record HasReportedFirst (old new : A) (contents written : Option (List ℕ)) (end : EarlyEnd) : Type 0 where
    pub outcomes : List (Result Reply Refusal)
    pub answers : each old new (take (length outcomes) ids) outcomes
    pub told : IsWrittenBefore end contents written (outcomes_text outcomes)

-- the engine is a crash-consistent archive's
abbrev pub IsEngineOf : Archive → EngineState → Type 0
IsEngineOf a engine = KeepsArchive engine a

-- a recording is verified as the engine that is seen so answers that event
abbrev pub verifies_by : {A : Type 0} → (A → EngineState) → Verification A
verifies_by view old id outcome new = AnswersEvent (view old) (view new) (Verify id) outcome

-- An answer to the verifying of each of these recordings, so many of them device faults at most as calls of the disk have
-- failed; where the disk obeys the crash model each is one that the call may have over the archive. The archive stays,
-- whatever was read.
pub record AnswersEach (old new : EngineState) (ids : List ℤ) (outcomes : List (Result Reply Refusal)) : Type 0 where
  pub goes_on : DiskGoesOn old.life new.life
  pub each : length outcomes ≡ length ids
  -- Whatever the archive is: no file has changed, and each answer tells what the files show of its recording.
  pub quiet : IsQuiet old.life new.life
  pub shown : IsTrue new.life.obeys →
      AllZip (λ id outcome. IfSome (registration_in old.desk.register id) (λ g. CountsShown (reads old.life.now) g outcome)) ids outcomes
  pub cause : HasFailedOften (faults_in outcomes) old.life new.life
  pub stays : (a : Archive) → IsEngineOf a old → IsEngineOf a new
  pub exact : (a : Archive) → IsEngineOf a old → IsTrue new.life.obeys →
      AllZip (λ id outcome. CallEnds a (Verify id) (Unit {0}) outcome a) ids outcomes
