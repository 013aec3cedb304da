-- Calls one after another, and what a crash leaves of them.
use Rattle.std.proofs.Common.{◌≡◌, ◌∙◌, ◌++◌, ◌+◌, ◌<◌, inl, inr, sym, ap, subst, refl, ℕ, List, [], ◌∷◌, length, take, get_or, add-one, cond, true≢false, IsTrue, None, Some, arith}
use Rattle.std.specs.Prelude.{IsFalse, Result, Ok, Err}
use Rattle.std.proofs.lemmas.List.Sums.{sum_by-cons}
use Rattle.std.proofs.Math.Path.{fun_ext}
use Rattle.std.proofs.Math.Seq.{take-suc}
use Rattle.engine_core.proofs.Words.{Archive, ArchiveEnds, Content, DeviceFault, DiskGoesOn, DiskImage, EngineState, Event, Files, HasFailed, IsCrashConsistent, IsRun, Life, LogState, MayLeave, MayStandIn, NoMemory, Recovers, RecoversTo, Refusal, Reply, State, archive_of, durable, goes_on_part, moment, started, weaker}
use Rattle.disk_core.specs.DiskImage.{begun}
use Rattle.disk_core.specs.Life.{MayHaveLeft}
use Rattle.disk_core.proofs.CallerLemmas.{durable_left}
use Rattle.control_core.specs.Exact.{LeftByFault}
use Rattle.control_core.specs.Machine.{Outside}
use Rattle.control_core.specs.Runs.{MayStand, StoodAmong}
use Rattle.control_core.proofs.CallLemmas.{refused_unchanged}
use Rattle.control_core.proofs.FaultLemmas.{other_cause}
use Rattle.engine_core.specs.Calls.{AnswersEvent, HasFailedOften, LeavesAlone, Ran, faults_in, is_fault}
use Rattle.engine_core.specs.Opened.{LeavesEither}
use Rattle.engine_core.proofs.calls.EndedLemmas.{goes_on_here, no_doubt, recovers_as}

-- ---- whatever the archive is

goes_further : (old mid new : Life) → DiskGoesOn old mid → DiskGoesOn mid new → DiskGoesOn old new
goes_further old mid new first then = let one = first.faults in let two = then.faults in record { obeyed = λ obeys. first.obeyed (then.obeyed obeys); faults = omega (arith, one, two) }

pub run_goes_on : (old new : EngineState) (events : List Event) (outcomes : List (Result Reply Refusal)) → IsRun old events outcomes new → DiskGoesOn old.life new.life
run_goes_on old new [] [] run = subst (λ (e : EngineState). DiskGoesOn old.life e.life) (sym run) (goes_on_here old.life)
run_goes_on old new (event ∷ events) (outcome ∷ outcomes) (mid, answers, run) = goes_further old.life mid.life new.life answers.ends.goes_on (run_goes_on mid new events outcomes run)
run_goes_on old new [] (outcome ∷ outcomes) run = absurd run
run_goes_on old new (event ∷ events) [] run = absurd run

one_fault : Result Reply Refusal → ℕ
one_fault o = cond (is_fault o) 1 0

-- a fault more, where one is answered
fault_first : (old mid new : Life) (n : ℕ) (outcome : Result Reply Refusal) → DiskGoesOn old mid → (outcome ≡ Err DeviceFault → HasFailed old mid) → HasFailedOften n mid new → HasFailedOften (cond (is_fault outcome) 1 0 + n) old new
fault_first old mid new n (Err DeviceFault) goes cause often = let more = cause refl in omega (arith, more, often)
fault_first old mid new n outcome goes cause often = let more = goes.faults in omega (arith, more, often)

pub run_failed : (old new : EngineState) (events : List Event) (outcomes : List (Result Reply Refusal)) → IsRun old events outcomes new → HasFailedOften (faults_in outcomes) old.life new.life
run_failed old new [] [] run = subst (λ (e : EngineState). HasFailedOften 0 old.life e.life) (sym run) (omega arith)
run_failed old new (event ∷ events) (outcome ∷ outcomes) (mid, answers, run) =
    subst (λ (n : ℕ). HasFailedOften n old.life new.life) (sym (sum_by-cons (λ o. cond (is_fault o) 1 0) outcome outcomes))
    (fault_first old.life mid.life new.life (faults_in outcomes) outcome answers.ends.goes_on (λ is. answers.ends.cause is) (run_failed mid new events outcomes run))
run_failed old new [] (outcome ∷ outcomes) run = absurd run
run_failed old new (event ∷ events) [] run = absurd run

pub run_each : (old new : EngineState) (events : List Event) (outcomes : List (Result Reply Refusal)) → IsRun old events outcomes new → length outcomes ≡ length events
run_each old new [] [] run = refl
run_each old new (event ∷ events) (outcome ∷ outcomes) (mid, answers, run) = let same = run_each mid new events outcomes run in omega (arith, same)
run_each old new [] (outcome ∷ outcomes) run = absurd run
run_each old new (event ∷ events) [] run = absurd run

pub run_none : (e : EngineState) → IsRun e [] [] e
run_none e = refl

pub run_more : (old mid new : EngineState) (events : List Event) (outcomes : List (Result Reply Refusal)) (event : Event) (outcome : Result Reply Refusal) → IsRun old events outcomes mid → AnswersEvent mid new event outcome
    → IsRun old (events ++ event ∷ []) (outcomes ++ outcome ∷ []) new
run_more old mid new [] [] event outcome run answers = (new, subst (λ (e : EngineState). AnswersEvent e new event outcome) run answers, refl)
run_more old mid new (e ∷ events) (o ∷ outcomes) event outcome (next, first, run) answers = (next, first, run_more next mid new events outcomes event outcome run answers)
run_more old mid new [] (o ∷ outcomes) event outcome run answers = absurd run
run_more old mid new (e ∷ events) [] event outcome run answers = absurd run

-- one event more is answered
pub run_next : (old mid new : EngineState) (events : List Event) (i : ℕ) (event : Event) (outcomes : List (Result Reply Refusal)) (outcome : Result Reply Refusal) → i < length events → event ≡ get_or events i event
    → IsRun old (take i events) outcomes mid → AnswersEvent mid new event outcome → IsRun old (take (i + 1) events) (outcomes ++ outcome ∷ []) new
run_next old mid new events i event outcomes outcome within is so_far answers =
    let more : take (i + 1) events ≡ take i events ++ event ∷ [] = rw (add-one, take-suc events i event within) (ap (λ (e : Event). take i events ++ e ∷ []) (sym is)) in
    subst (λ (es : List Event). IsRun old es (outcomes ++ outcome ∷ []) new) (sym more) (run_more old mid new (take i events) outcomes event outcome so_far answers)

-- ---- of a crash-consistent archive

stood_first : (a : Archive) (left : List Archive) (x : State) → MayStand a x → StoodAmong a left x
stood_first a [] x stands = stands
stood_first a (b ∷ left) x stands = inl stands

stood_either : (a b : Archive) (left : List Archive) (x : State) → MayStandIn a b x
    → StoodAmong a (b ∷ left) x
stood_either a b left x (inl before) = inl before
stood_either a b left x (inr after) = inr (stood_first b left x after)

pub run_ran : (old new : EngineState) (c : Content) (events : List Event) (outcomes : List (Result Reply Refusal)) → IsRun old events outcomes new → IsCrashConsistent old.life old.log (archive_of old c) → IsTrue new.life.obeys
    → Ran old new (archive_of old c) events outcomes
run_ran old new c [] [] run was obeys = subst (λ (e : EngineState). Ran old e (archive_of old c) [] []) (sym run) (record {
  left = [];
  leave = tt;
  after = c;
  last = refl;
  consistent = was;
  any_moment = started old.life (RecoversTo (StoodAmong (archive_of old c) [])) was.images;
})
run_ran old new c (event ∷ events) (outcome ∷ outcomes) (mid, answers, run) was obeys =
    let a : Archive = archive_of old c in
    let here : IsTrue mid.life.obeys = (run_goes_on mid new events outcomes run).obeyed obeys in
    let ended = answers.ends.ended c was (λ cut. here) in
    let b : Archive = archive_of mid ended.after in
    let rest = run_ran mid new ended.after events outcomes run ended.consistent obeys in
    record {
      left = b ∷ rest.left;
      leave = (other_cause a event (HasFailed old.life mid.life) (Unit {0}) outcome b (λ failed. tt) (ended.ends.0 (λ reads. here)), rest.leave);
      after = rest.after;
      last = rest.last;
      consistent = rest.consistent;
      any_moment = goes_on_part old.life mid.life new.life (RecoversTo (StoodAmong a (b ∷ rest.left))) (RecoversTo (StoodAmong b rest.left))
          (weaker old.life mid.life (RecoversTo (StoodAmong a (b ∷ rest.left))) (RecoversTo (MayStandIn a b)) ended.any_moment (λ image. recovers_as (MayStandIn a b) (StoodAmong a (b ∷ rest.left)) image (stood_either a b rest.left)))
          rest.any_moment (λ image. recovers_as (StoodAmong b rest.left) (StoodAmong a (b ∷ rest.left)) image (λ x stands. inr stands));
    }
run_ran old new c [] (outcome ∷ outcomes) run was obeys = absurd run
run_ran old new c (event ∷ events) [] run was obeys = absurd run

-- ---- one state

-- while no write has failed a crash leaves the archive's state alone
leaves_alone : (life : Life) (log : LogState) (a : Archive) → IsCrashConsistent life log a
    → IsFalse a.desk.is_broken → LeavesAlone life a.state
leaves_alone life log a was works = λ image left. (
    let to = was.images image left in
    let none = no_doubt a was.archive works in
    elim to.is [
      | inl same ↦ subst (λ (s : State). Recovers image s) same to.recovers
      | inr doubt ↦ (let both : None ≡ Some to.state = sym none ∙ doubt in absurd cc)
    ])

pub one_answered : (old new : EngineState) (c : Content) (event : Event) (reply : Reply) → IsCrashConsistent old.life old.log (archive_of old c) → IsTrue new.life.obeys → AnswersEvent old new event (Ok reply) → IsFalse new.desk.is_broken
    → (after : Content) × ArchiveEnds (archive_of old c) event (Ok reply) (archive_of new after) × LeavesAlone new.life after.state
one_answered old new c event reply was obeys answers works =
    let ended = answers.ends.ended c was (λ cut. obeys) in
    (ended.after, ended.ends.0 (λ reads. obeys), leaves_alone new.life new.log (archive_of new ended.after) ended.consistent works)

-- a refusal that leaves the archive unbroken has changed no state
out_same : (refusal : Refusal) (a b : Archive) (event : Event) (faulted : Type 0) → IsFalse b.desk.is_broken → Outside a faulted (LeftByFault a event) refusal b → b.state ≡ a.state
out_same NoMemory a b event faulted works is = ap (λ (x : Archive). x.state) is
out_same DeviceFault a b event faulted works (failed, inl (reads, is)) = ap (λ (x : Archive). x.state) is
out_same DeviceFault a b event faulted works (failed, inr (writes, (u, makes, is))) = absurd (true≢false (sym (ap (λ (x : Archive). x.desk.is_broken) is) ∙ works))
out_same refusal a b event faulted works is = absurd is

pub one_refused : (old new : EngineState) (c : Content) (event : Event) (refusal : Refusal) → IsCrashConsistent old.life old.log (archive_of old c) → IsTrue new.life.obeys → AnswersEvent old new event (Err refusal) → IsFalse new.desk.is_broken
    → LeavesAlone new.life c.state
one_refused old new c event refusal was obeys answers works =
    let a : Archive = archive_of old c in
    let ended = answers.ends.ended c was (λ cut. obeys) in
    let b : Archive = archive_of new ended.after in
    let same : b.state ≡ a.state = elim (ended.ends.0 (λ reads. obeys)) [
      | inl exact ↦ ap (λ (x : Archive). x.state) (refused_unchanged a event refusal b exact)
      | inr out ↦ out_same refusal a b event (HasFailed old.life new.life) works out
    ] in
    subst (LeavesAlone new.life) same (leaves_alone new.life new.log b ended.consistent works)

-- ---- what a crash leaves can be opened

-- a disk begun from an image leaves that image alone, and so what it recovers to
leaves_one : (left : Life) (image : DiskImage) (P : State → Type 0) → left.now ≡ begun image
    → RecoversTo P image → (s : State) × P s × LeavesEither left s s
leaves_one left image P is to = (
  to.state,
  to.is,
  λ other may.
      let here : MayLeave (begun image) other = subst (λ (files : Files). MayLeave files other) is may in
      let same : other ≡ image = fun_ext (λ file. durable_left (image file) (durable (image file)) (other file) refl (here file)) in
      record { state = to.state; is = inl refl; recovers = subst (λ (i : DiskImage). Recovers i to.state) (sym same) to.recovers },
)

pub crash_meanwhile : (old new : EngineState) (left : Life) (a : Archive) (events : List Event) (outcomes : List (Result Reply Refusal)) (image : DiskImage) → (ran : Ran old new a events outcomes) → MayHaveLeft new.life (moment old.life) image
    → left.now ≡ begun image → (s : State) × StoodAmong a ran.left s × LeavesEither left s s
crash_meanwhile old new left a events outcomes image ran may is = leaves_one left image (StoodAmong a ran.left) is (ran.any_moment.each image may)

pub crash_now : (life left : Life) (log : LogState) (a : Archive) (image : DiskImage) → IsCrashConsistent life log a → MayLeave life.now image → left.now ≡ begun image → (s : State) × MayStand a s × LeavesEither left s s
crash_now life left log a image was may is = leaves_one left image (MayStand a) is (was.images image may)
