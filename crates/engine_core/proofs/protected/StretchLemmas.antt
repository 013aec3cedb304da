-- What stays in place over a call and over calls one after another, whatever fails.
use Rattle.std.proofs.Common.{◌≡◌, ◌∙◌, ◌≤ℤ◌, inl, inr, sym, subst, refl, ℤ, true, List, [], ◌∷◌, Option, Some, None, arith}
use Rattle.std.proofs.lemmas.Int.{ints}
use Rattle.std.specs.Prelude.{IsFalse, IsTrue, Result}
use Rattle.engine_core.proofs.Words.{Archive, CallEnds, Content, DiskImage, Each, EngineState, Event, HasFailed, HoldsRecording, IsAtBoundary, IsConsistent, IsCrashConsistent, IsKept, IsRun, LeavesOnly, MayStandIn, OpenReplay, Recording, Recovers, RecoversTo, Refusal, Reply, State, archive_of, each_found, find, goes_on_part, id_of, is_boundary, open_replay_in, recording_at, replay_number, started, weaker}
use Rattle.control_core.specs.Runs.{MayStand}
use Rattle.control_core.proofs.FaultLemmas.{other_cause}
use Rattle.control_core.proofs.StayLemmas.{goes_on_at}
use Rattle.engine_core.specs.Calls.{AnswersEvent, CallEnded, EndsAs}
use Rattle.engine_core.specs.Protected.{GoesOn, HasFrom, KeepOpen, StandFrom, StaysRead}
use Rattle.engine_core.proofs.calls.EndedLemmas.{no_doubt}
use Rattle.engine_core.proofs.calls.RunLemmas.{run_goes_on}
use Rattle.engine_core.proofs.protected.CallLemmas.{Protects, call_reads, may_stand, protects_itself, protects_later}
use Rattle.engine_core.proofs.protected.CommandLemmas.{KeptIn}
use Rattle.engine_core.proofs.protected.FromLemmas.{boundary_past, stand_from, stand_later}
use Rattle.engine_core.proofs.protected.OpenLemmas.{call_goes}

-- ---- a moment

-- where an image recovers to a state that keeps the frames of a recording, they stand in their places
has_stands : (image : DiskImage) (p id : ℤ) (r : Recording) (s : State) → Recovers image s → HasFrom p id r s → StandFrom image p r
has_stands image p id r s recovers has = by (find id_of id s.recordings) refl has
  where
    by : (o : Option Recording) → find id_of id s.recordings ≡ o → KeptIn p r o → StandFrom image p r
    by None is has = absurd has
    by (Some x) is k =
        stand_from image p r x (each_found id_of IsKept id s.recordings x recovers.well.kept is) k
        (each_found id_of (HoldsRecording image) id s.recordings x recovers.frames is)

stands_now : (image : DiskImage) (p id : ℤ) (r : Recording) (a : Archive) → Protects p id r a → RecoversTo (MayStand a) image → StandFrom image p r
stands_now image p id r a protects to = has_stands image p id r to.state to.recovers (may_stand p id r a to.state protects to.is)

stands_in : (image : DiskImage) (p id : ℤ) (r : Recording) (a b : Archive) → Protects p id r a → Protects p id r b → RecoversTo (MayStandIn a b) image → StandFrom image p r
stands_in image p id r a b first next to = has_stands image p id r to.state to.recovers (elim to.is [
  | inl before ↦ may_stand p id r a to.state first before
  | inr after ↦ may_stand p id r b to.state next after
])

-- ---- where a replay goes on

-- at the start of its recording or past it
from_start : (a : Archive) (n : ℤ) (replay : OpenReplay) (r : Recording) → IsConsistent a → Each (IsAtBoundary a.state) a.desk.callers.replays → open_replay_in a.desk n ≡ Some replay → recording_at a replay.recording ≡ Some r → r.descriptor.start_position ≤ℤ replay.next
from_start a n replay r consistent at_all found there =
    let at = goes_on_at a.state replay (each_found replay_number (IsAtBoundary a.state) n a.desk.callers.replays replay at_all found) in
    let this : at.recording ≡ r = (let same : Some at.recording ≡ Some r = sym at.found ∙ there in cc) in
    let boundary : is_boundary replay.next r ≡ true = subst (λ (x : Recording). is_boundary replay.next x ≡ true) this at.boundary in
    let kept : IsKept r = each_found id_of IsKept replay.recording a.state.recordings r consistent.well.kept there in
    boundary_past replay.next r kept boundary

-- an archive while no write has failed protects what a replay reads
pub works_protects : (e : EngineState) (c : Content) (n : ℤ) (replay : OpenReplay) (r : Recording) → IsCrashConsistent e.life e.log (archive_of e c) → IsTrue e.life.obeys → IsFalse e.desk.is_broken → open_replay_in e.desk n ≡ Some replay
    → recording_at (archive_of e c) replay.recording ≡ Some r → Protects replay.next replay.recording r (archive_of e c)
works_protects e c n replay r was obeys works found there =
    let a : Archive = archive_of e c in
    protects_itself replay.next replay.recording r a there (from_start a n replay r was.archive (was.boundaries obeys) found there) (no_doubt a was.archive works)

-- ---- a call

-- the archive that a call leaves
call_left : (old new : EngineState) (c : Content) (event : Event) (outcome : Result Reply Refusal) → IsTrue new.life.obeys → (ended : CallEnded old new (archive_of old c) (EndsAs old.life new.life event (archive_of old c) outcome))
    → CallEnds (archive_of old c) event (Unit {0}) outcome (archive_of new ended.after)
call_left old new c event outcome obeys ended = other_cause (archive_of old c) event (HasFailed old.life new.life) (Unit {0}) outcome (archive_of new ended.after) (λ failed. tt) (ended.ends.0 (λ reads. obeys))

call_stands : (old new : EngineState) (c : Content) (event : Event) (outcome : Result Reply Refusal) (n : ℤ) (replay : OpenReplay) (r : Recording) → IsCrashConsistent old.life old.log (archive_of old c) → IsTrue new.life.obeys
    → (ended : CallEnded old new (archive_of old c) (EndsAs old.life new.life event (archive_of old c) outcome)) → open_replay_in old.desk n ≡ Some replay → Protects replay.next replay.recording r (archive_of old c)
    → LeavesOnly old.life new.life (λ image. StandFrom image replay.next r)
call_stands old new c event outcome n replay r was obeys ended found protects =
    let a : Archive = archive_of old c in
    let b : Archive = archive_of new ended.after in
    let next = call_reads n replay r a event outcome b was.archive found (call_left old new c event outcome obeys ended) protects in
    weaker old.life new.life (λ image. StandFrom image replay.next r) (RecoversTo (MayStandIn a b)) ended.any_moment (λ image to. stands_in image replay.next replay.recording r a b protects next to)

pub step_stands : (old new : EngineState) (c : Content) (event : Event) (outcome : Result Reply Refusal) (n : ℤ) (replay : OpenReplay) (r : Recording) → IsCrashConsistent old.life old.log (archive_of old c) → IsTrue new.life.obeys → IsFalse old.desk.is_broken
    → AnswersEvent old new event outcome → open_replay_in old.desk n ≡ Some replay → recording_at (archive_of old c) replay.recording ≡ Some r → LeavesOnly old.life new.life (λ image. StandFrom image replay.next r)
step_stands old new c event outcome n replay r was obeys works answers found there =
    call_stands old new c event outcome n replay r was obeys (answers.ends.ended c was (λ cut. obeys)) found
    (works_protects old c n replay r was (answers.ends.goes_on.obeyed obeys) works found there)

-- ---- calls one after another

-- a stretch of calls behind a call
stays_behind : (old mid new : EngineState) (n : ℤ) (replay : OpenReplay) (r : Recording) (goes : GoesOn mid.desk n replay) → LeavesOnly old.life mid.life (λ image. StandFrom image replay.next r) → StaysRead mid new n goes.later r → StaysRead old new n replay r
stays_behind old mid new n replay r goes first stays =
    let next : ℤ = stays.goes.later.next in
    let low : replay.next ≤ℤ next = (let one = goes.on in let two = stays.goes.on in omega (arith, ints, one, two)) in
    record {
      goes = record { later = stays.goes.later; found = stays.goes.found; recording = stays.goes.recording ∙ goes.recording; on = low };
      any_moment = goes_on_part old.life mid.life new.life (λ image. StandFrom image next r) (λ image. StandFrom image next r)
          (weaker old.life mid.life (λ image. StandFrom image next r) (λ image. StandFrom image replay.next r) first (λ image stand. stand_later image replay.next next r low stand))
          stays.any_moment (λ image stand. stand);
    }

run_stays : (old new : EngineState) (c : Content) (events : List Event) (outcomes : List (Result Reply Refusal)) (n : ℤ) (replay : OpenReplay) (r : Recording) → IsRun old events outcomes new → IsCrashConsistent old.life old.log (archive_of old c) → IsTrue new.life.obeys
    → open_replay_in old.desk n ≡ Some replay → Protects replay.next replay.recording r (archive_of old c) → KeepOpen n events outcomes → StaysRead old new n replay r
run_stays old new c [] [] n replay r run was obeys found protects unclosed = subst (λ (e : EngineState). StaysRead old e n replay r) (sym run) (record {
  goes = record { later = replay; found = found; recording = refl; on = omega (arith, ints) };
  any_moment = started old.life (λ image. StandFrom image replay.next r) (λ image may. stands_now image replay.next replay.recording r (archive_of old c) protects (was.images image may));
})
run_stays old new c (event ∷ events) (outcome ∷ outcomes) n replay r (mid, answers, run) was obeys found protects (unclosed, rest) =
    let a : Archive = archive_of old c in
    let here : IsTrue mid.life.obeys = (run_goes_on mid new events outcomes run).obeyed obeys in
    let ended = answers.ends.ended c was (λ cut. here) in
    let b : Archive = archive_of mid ended.after in
    let left = call_left old mid c event outcome here ended in
    let goes : GoesOn mid.desk n replay = call_goes n replay a event outcome b was.archive found unclosed left in
    let next : Protects replay.next replay.recording r b = call_reads n replay r a event outcome b was.archive found left protects in
    let on : Protects goes.later.next goes.later.recording r b =
    subst (λ (id : ℤ). Protects goes.later.next id r b) (sym goes.recording) (protects_later replay.next goes.later.next replay.recording r b goes.on next) in
    stays_behind old mid new n replay r goes (call_stands old mid c event outcome n replay r was here ended found protects)
    (run_stays mid new ended.after events outcomes n goes.later r run ended.consistent obeys goes.found on rest)
run_stays old new c [] (outcome ∷ outcomes) n replay r run was obeys found protects unclosed = absurd run
run_stays old new c (event ∷ events) [] n replay r run was obeys found protects unclosed = absurd run

pub run_reads : (old new : EngineState) (c : Content) (events : List Event) (outcomes : List (Result Reply Refusal)) (n : ℤ) (replay : OpenReplay) (r : Recording) → IsRun old events outcomes new → IsCrashConsistent old.life old.log (archive_of old c) → IsTrue new.life.obeys
    → IsFalse old.desk.is_broken → open_replay_in old.desk n ≡ Some replay → recording_at (archive_of old c) replay.recording ≡ Some r → KeepOpen n events outcomes → StaysRead old new n replay r
run_reads old new c events outcomes n replay r run was obeys works found there unclosed =
    run_stays old new c events outcomes n replay r run was obeys found (works_protects old c n replay r was ((run_goes_on old new events outcomes run).obeyed obeys) works found there) unclosed
