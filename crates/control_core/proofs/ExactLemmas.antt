-- What a call is answered exactly is one of the answers that the desk machine allows.
use Rattle.std.proofs.Common.{◌≡◌, ◌<◌, ◌⊎◌, inl, inr, ◌++◌, ◌&&◌, ℤ, pos, Bool, true, false, cond, List, [], ◌∷◌, Option, Some, None, Result, Ok, Err, refl, sym, ap, subst, ◌∙◌, true≢false, int_le, unsigned_abs, arith}
use Rattle.std.specs.Prelude.{IsSomeAnd, IsTrue, MatchBool, is_none, is_some, not, option_map}
use Rattle.std.proofs.lemmas.Int.{ints}
use Rattle.frame_core.specs.declared.block.Block.{Block}
use Rattle.frame_core.specs.declared.refusal.Refusal.{Refusal}
use Rattle.frame_core.specs.declared.refusal.Refusal.TheVariants.{BadBlock, BadPosition, Broken, HistoryFull, NotCatalogue, StaleSession}
use Rattle.frame_core.specs.ReplayEnd.{bound_of}
use Rattle.archive_model.specs.declared.registration.Registration.{Registration}
use Rattle.archive_model.specs.declared.reply.Reply.{Reply}
use Rattle.archive_model.specs.declared.reply.Reply.TheVariants as replies
use Rattle.archive_model.specs.Accepting.{begins_in}
use Rattle.archive_model.specs.Checks.{Tests, block_checks, checked, checks, first_checks, last_checks, passes}
use Rattle.archive_model.specs.State.{Recording, id_of, registration_of}
use Rattle.archive_model.specs.Replay.{is_boundary, polled}
use Rattle.archive_model.specs.WellFormed.{IsKept}
use Rattle.archive_model.proofs.WellLemmas.{both}
use Rattle.archive_model.proofs.StateLemmas.{each_found, found_registration}
use Rattle.archive_model.specs.Register.{RegisterState, is_end, registration_in}
use Rattle.control_core.specs.declared.asked.Asked.TheVariants as calls
use Rattle.control_core.specs.declared.asked.Told.TheVariants as told
use Rattle.control_core.specs.declared.callers.OpenReplay.{OpenReplay}
use Rattle.control_core.specs.declared.callers.RecorderSession.{RecorderSession}
use Rattle.control_core.specs.declared.callers.Written.{Written}
use Rattle.control_core.specs.Decided.{Decision}
use Rattle.control_core.specs.Decided.{Refused, Answered, Accepted, IfBoundary}
use Rattle.control_core.specs.declared.event.Event.{Event}
use Rattle.control_core.specs.declared.event.Event.TheVariants as events
use Rattle.control_core.specs.declared.turns.Opening.{Opening}
use Rattle.control_core.specs.Opened.{OpeningDecision}
use Rattle.control_core.specs.Opened as opening
use Rattle.control_core.specs.Callers.{replay_number, written_to}
use Rattle.control_core.specs.Desk.{DeskState}
use Rattle.control_core.specs.Changes.{after_close, after_open, after_poll, after_write, checkpointed, positions_each, recorded_of, settled, settled_by, settled_each, settled_position}
use Rattle.control_core.specs.Decisions.{decision_of}
use Rattle.control_core.specs.Turns.{begins_at, close_tests, continues, held_back, held_to, is_done_at, is_limit, open_tests, opened_at, opening_decided, opening_of, poll_decision, poll_tests, open_replay_in, open_replay_of, session_in, settle_all_tests, settle_tests, settling_by, settling_of, sweep_tests, verify_tests, write_tests}
use Rattle.control_core.specs.Machine.{AtPosition, Breaks, Decided, Either, Ended, Faults, GivesFrames, Outcome, Passing, RefusedByBanks, RefusesCall, Step, UnlessBoundary, Unread, recording_of}
use Rattle.control_core.specs.Exact.{Archive, ArchiveEnds, CheckpointEnds, DecisionEnds, Is, Leaves, OpeningEnds, PolledEnds, PollingEnds, SettlingEnds, SweepEnds, WriteEnds, asked_frames, asked_of, asked_opening, frames_end, frames_of_one, from_position, goes_on, plain, plain_poll, recording_at, settled_archive, settled_archives, span_of, told_of, with_desk, written, is_poll}
use Rattle.control_core.specs.Consistent.{AreAtBoundaries, IsAtBoundary, IsConsistent}
use Rattle.control_core.proofs.GroupLemmas.{all_desk}
use Rattle.control_core.proofs.PollLemmas.{le_true, poll_moves}

-- this answer and this archive are this outcome and its desk, however the answer is told
tells : (tell : Result Reply Refusal → Outcome) (answer : Result Reply Refusal) (x : Archive) (o : Result Reply Refusal) (b : Archive) → Is answer x o b → Ended (tell answer) x.desk (tell o) b.desk
tells tell answer x o b h = (ap tell h.0, ap (λ (y : Archive). y.desk) h.1)

told_so : (answer : Result Reply Refusal) (x : Archive) (o : Result Reply Refusal) (b : Archive) → Is answer x o b → Ended (plain answer) x.desk (plain o) b.desk
told_so answer x o b h = tells plain answer x o b h

module _ {X : Type 0} (a : Archive) (tell : Result Reply Refusal → Outcome) (refuses : (r : Refusal) → tell (Err r) ≡ Err r)
    (F : Result X Refusal → Result Reply Refusal → Archive → Type 0) (refused : (r : Refusal) (o : Result Reply Refusal) (b : Archive) → F (Err r) o b → Is (Err r) a o b) where
  -- the checks one after another
  checking : (tests : Tests) (rs : List Refusal) (answer : Result X Refusal) (ends : Outcome → DeskState → Type 0) (o : Result Reply Refusal) (b : Archive)
      → (passes tests rs ≡ true → F answer o b → ends (tell o) b.desk) → F (checked tests rs answer) o b → Passing a.desk tests rs ends (tell o) b.desk
  checking tests [] answer ends o b done h = done refl h
  checking tests (r ∷ rs) answer ends o b done h = by (tests r) refl h (checking tests rs answer ends o b)
    where
      by : (t : Bool) → tests r ≡ t → F (cond t (checked tests rs answer) (Err r)) o b
          → ((passes tests rs ≡ true → F answer o b → ends (tell o) b.desk) → F (checked tests rs answer) o b → Passing a.desk tests rs ends (tell o) b.desk)
          → MatchBool t (Passing a.desk tests rs ends (tell o) b.desk) (RefusesCall a.desk r (tell o) b.desk)
      by true is h rest = rest (λ all. done (rw is all)) h
      by false is h rest = let end = tells tell (Err r) a o b (refused r o b h) in (end.0 ∙ refuses r, end.1)

module _ {X : Type 0} (a : Archive) (F : Result X Refusal → Result Reply Refusal → Archive → Type 0) (refused : (r : Refusal) (o : Result Reply Refusal) (b : Archive) → F (Err r) o b → Is (Err r) a o b) where
  passing : (tests : Tests) (rs : List Refusal) (answer : Result X Refusal) (ends : Outcome → DeskState → Type 0) (o : Result Reply Refusal) (b : Archive)
      → (F answer o b → ends (plain o) b.desk) → F (checked tests rs answer) o b → Passing a.desk tests rs ends (plain o) b.desk
  passing tests rs answer ends o b done h = checking a plain (λ r. refl) F refused tests rs answer ends o b (λ all. done) h

-- ---- requests

exact_decision : (a : Archive) (decision : Decision) (o : Result Reply Refusal) (b : Archive) → DecisionEnds a (asked_frames a decision) o b → Decided a.desk decision (plain o) b.desk
exact_decision a (Refused refusal) o b h = told_so _ a o b h
exact_decision a (Answered reply) o b h = told_so _ a o b h
exact_decision a (Accepted command) o b h = inl (told_so _ _ o b h)
exact_decision a (IfBoundary id position (Ok command)) o b h = by (begins_in (recording_at a id) position) h
  where
    by : (t : Bool) → DecisionEnds a (cond t (Accepted command) (Refused BadPosition)) o b → Decided a.desk (IfBoundary id position (Ok command)) (plain o) b.desk
    by true h = inr (inr (inl (told_so _ _ o b h)))
    by false h = inl (told_so _ a o b h)
exact_decision a (IfBoundary id position (Err refusal)) o b h = by (begins_in (recording_at a id) position) h
  where
    by : (t : Bool) → DecisionEnds a (cond t (Refused refusal) (Refused BadPosition)) o b → Decided a.desk (IfBoundary id position (Err refusal)) (plain o) b.desk
    by true h = inr (inr (told_so _ a o b h))
    by false h = inl (told_so _ a o b h)

-- ---- writing

writes_fit : (a : Archive) (session : ℤ) (block : Block) (o : Result Reply Refusal) (b : Archive)
    → Leaves a (written a session block) (checked (write_tests a.desk session (span_of block) true) checks (Ok (replies.Written (span_of block).last))) o b
    → Step a.desk (asked_of (events.Write session block)) (plain o) b.desk
writes_fit a session block o b h =
    let tests = write_tests a.desk session (span_of block) true in
    let F = Leaves a (written a session block) in
    let answer : Result Reply Refusal = Ok (replies.Written (span_of block).last) in
    let written_so : Outcome → DeskState → Type 0 = Either (Ended (plain answer) (after_write session (span_of block) a.desk)) (Breaks a.desk) in
    let behind : Outcome → DeskState → Type 0 = Either (RefusesCall a.desk BadBlock) (Passing a.desk tests last_checks written_so) in
    passing a F (λ r o b h. h) tests (first_checks ++ block_checks) (checked tests last_checks answer) behind o b
    (λ rest. inr (passing a F (λ r o b h. h) tests last_checks answer written_so o b (λ done. inl (told_so answer (written a session block) o b done)) rest)) h

writes_not : (a : Archive) (session : ℤ) (block : Block) (o : Result Reply Refusal) (b : Archive)
    → Leaves a (written a session block) (checked (write_tests a.desk session (span_of block) false) checks (Ok (replies.Written (span_of block).last))) o b
    → Step a.desk (asked_of (events.Write session block)) (plain o) b.desk
writes_not a session block o b h = by (not a.desk.is_broken) (is_some (session_in a.desk session)) (continues a.desk (session_in a.desk session) (span_of block))
    (Passing a.desk (write_tests a.desk session (span_of block) true) last_checks (Either (Ended (plain (Ok (replies.Written (span_of block).last))) (after_write session (span_of block) a.desk)) (Breaks a.desk))) h
  where
    by : (works found goes_on : Bool) (ends : Outcome → DeskState → Type 0)
        → Leaves a (written a session block) (cond works (cond found (Err BadBlock) (Err StaleSession)) (Err Broken)) o b
        → MatchBool works (MatchBool found (MatchBool goes_on (Either (RefusesCall a.desk BadBlock) ends (plain o) b.desk) (RefusesCall a.desk BadBlock (plain o) b.desk)) (RefusesCall a.desk StaleSession (plain o) b.desk)) (RefusesCall a.desk Broken (plain o) b.desk)
    by true true true ends h = inl (told_so _ a o b h)
    by true true false ends h = told_so _ a o b h
    by true false goes_on ends h = told_so _ a o b h
    by false found goes_on ends h = told_so _ a o b h

exact_write : (a : Archive) (session : ℤ) (block : Block) (o : Result Reply Refusal) (b : Archive) → WriteEnds a session block o b → Step a.desk (asked_of (events.Write session block)) (plain o) b.desk
exact_write a session block o b (true, says, h) = writes_fit a session block o b h
exact_write a session block o b (false, says, h) = writes_not a session block o b h

-- ---- settling

settles_by : (a : Archive) (session : ℤ) (s : RecorderSession) (w : Option Written) (o : Result Reply Refusal) (b : Archive) → settled (session_in a.desk session) a.desk ≡ settled_by s w a.desk
    → SettlingEnds a session (Ok (settling_by a.desk s w)) o b → Ended (Ok (told.Reply (replies.Settled (written_to w (recorded_of (registration_in a.desk.register s.recording)))))) (settled_by s w a.desk) (plain o) b.desk
settles_by a session s None o b same h = told_so _ a o b h
settles_by a session s (Some w) o b same h = let is = told_so _ (settled_archive a session s.recording) o b h in (is.0, is.1 ∙ same)

settles : (a : Archive) (session : ℤ) (found : Option RecorderSession) (o : Result Reply Refusal) (b : Archive) → session_in a.desk session ≡ found
    → SettlingEnds a session (Ok (settling_of a.desk found)) o b → Ended (Ok (told.Reply (replies.Settled (settled_position a.desk found)))) (settled found a.desk) (plain o) b.desk
settles a session None o b is h = told_so _ a o b h
settles a session (Some s) o b is h = settles_by a session s s.written o b (ap (λ (x : Option RecorderSession). settled x a.desk) is) h

exact_settle : (a : Archive) (session : ℤ) (o : Result Reply Refusal) (b : Archive) → ArchiveEnds a (events.Settle session) o b → Step a.desk (asked_of (events.Settle session)) (plain o) b.desk
exact_settle a session o b h =
    let found = session_in a.desk session in
    let settled_so : Outcome → DeskState → Type 0 = Either (Ended (Ok (told.Reply (replies.Settled (settled_position a.desk found)))) (settled found a.desk)) (Breaks a.desk) in
    passing a (SettlingEnds a session) (λ r o b h. h) (settle_tests a.desk session) checks (Ok (settling_of a.desk found)) settled_so o b
    (λ done. inl (settles a session (session_in a.desk session) o b refl done)) h

exact_settle_all : (a : Archive) (ns : List ℤ) (o : Result Reply Refusal) (b : Archive) → ArchiveEnds a (events.SettleAll ns) o b → Step a.desk (asked_of (events.SettleAll ns)) (plain o) b.desk
exact_settle_all a ns o b h =
    let x = settled_archives ns a in
    let answer : Result Reply Refusal = Ok (replies.SettledAll (positions_each ns a.desk)) in
    let settled_so : Outcome → DeskState → Type 0 = Either (Ended (plain answer) (settled_each ns a.desk)) (Breaks a.desk) in
    passing a (Leaves a x) (λ r o b h. h) (settle_all_tests a.desk ns) checks answer settled_so o b
    (λ done. let is = told_so answer x o b done in inl (is.0, is.1 ∙ all_desk a ns)) h

-- ---- opening a replay

opens_behind : (a : Archive) (id position size : ℤ) (o : Result Reply Refusal) (b : Archive)
    → OpeningEnds a (checked (open_tests a.desk id position size true) (block_checks ++ last_checks) (Ok (opening_of a.desk id position size))) o b
    → Passing a.desk (open_tests a.desk id position size true) (block_checks ++ last_checks)
    (Ended (Ok (told.Reply (replies.ReplayOpened a.desk.callers.next_replay))) (after_open id (begins_at position (registration_in a.desk.register id)) (bound_of (begins_at position (registration_in a.desk.register id)) size) a.desk)) (plain o) b.desk
opens_behind a id position size o b h =
    let next = begins_at position (registration_in a.desk.register id) in
    let opened_so : Outcome → DeskState → Type 0 = Ended (Ok (told.Reply (replies.ReplayOpened a.desk.callers.next_replay))) (after_open id next (bound_of next size) a.desk) in
    passing a (OpeningEnds a) (λ r o b h. h) (open_tests a.desk id position size true) (block_checks ++ last_checks) (Ok (opening_of a.desk id position size)) opened_so o b
    (λ done. told_so _ (with_desk (after_open id (begins_at position (registration_in a.desk.register id)) (bound_of (begins_at position (registration_in a.desk.register id)) size) a.desk) a) o b done) h

-- what the frames say at a position
at_position : (a : Archive) (id next : ℤ) (found : Option Registration) (behind : Result Opening Refusal) (ends : Outcome → DeskState → Type 0) (o : Result Reply Refusal) (b : Archive)
    → (OpeningEnds a behind o b → ends (plain o) b.desk) → OpeningEnds a (asked_opening a id (opened_at found behind next)) o b → AtPosition a.desk found next ends (plain o) b.desk
at_position a id next None behind ends o b done h = by (begins_in (recording_at a id) next) h
  where
    by : (t : Bool) → OpeningEnds a (cond t behind (Err BadPosition)) o b → UnlessBoundary a.desk ends (plain o) b.desk
    by true h = inr (inr (done h))
    by false h = inl (told_so _ a o b h)
at_position a id next (Some r) behind ends o b done h = by (is_end next r) (begins_in (recording_at a id) next) h
  where
    by : (t u : Bool) → OpeningEnds a (asked_opening a id (cond t (opening.Decided behind) (opening.IfBoundary next behind))) o b → MatchBool t (ends (plain o) b.desk) (UnlessBoundary a.desk ends (plain o) b.desk)
    by true u h = done h
    by false u h = inside (begins_in (recording_at a id) next) h
      where
        inside : (t : Bool) → OpeningEnds a (cond t behind (Err BadPosition)) o b → UnlessBoundary a.desk ends (plain o) b.desk
        inside true h = inr (inr (done h))
        inside false h = inl (told_so _ a o b h)

exact_open : (a : Archive) (id position size : ℤ) (o : Result Reply Refusal) (b : Archive) → ArchiveEnds a (events.ReplayOpen id position size) o b → Step a.desk (asked_of (events.ReplayOpen id position size)) (plain o) b.desk
exact_open a id position size o b h =
    let tests = open_tests a.desk id position size true in
    let found = registration_in a.desk.register id in
    let behind = checked tests (block_checks ++ last_checks) (Ok (opening_of a.desk id position size)) in
    let F : Result OpeningDecision Refusal → Result Reply Refusal → Archive → Type 0 = λ x. OpeningEnds a (asked_opening a id (opening_decided x)) in
    let next = begins_at position found in
    let opened_so : Outcome → DeskState → Type 0 = Passing a.desk tests (block_checks ++ last_checks) (Ended (Ok (told.Reply (replies.ReplayOpened a.desk.callers.next_replay))) (after_open id next (bound_of next size) a.desk)) in
    passing a F (λ r o b h. h) tests first_checks (Ok (opened_at found behind next)) (AtPosition a.desk found next opened_so) o b
    (at_position a id next found behind opened_so o b (opens_behind a id position size o b)) h

-- ---- the others

exact_close : (a : Archive) (number : ℤ) (o : Result Reply Refusal) (b : Archive) → ArchiveEnds a (events.ReplayClose number) o b → Step a.desk (asked_of (events.ReplayClose number)) (plain o) b.desk
exact_close a number o b h =
    let x = with_desk (after_close number a.desk) a in
    passing a (Leaves a x) (λ r o b h. h) (close_tests a.desk number) checks (Ok replies.Closed) (Ended (plain (Ok replies.Closed)) x.desk) o b (λ done. told_so (Ok replies.Closed) x o b done) h

exact_sweep : (a : Archive) (o : Result Reply Refusal) (b : Archive) → ArchiveEnds a events.Sweep o b → Step a.desk (asked_of events.Sweep) (plain o) b.desk
exact_sweep a o b h =
    let swept_so : Outcome → DeskState → Type 0 = λ outcome new. ((removed : Bool) × Ended (plain (Ok (replies.Swept removed))) a.desk outcome new) ⊎ Faults a.desk outcome new in
    passing a (SweepEnds a) (λ r o b h. h) (sweep_tests a.desk) checks (Ok tt) swept_so o b (λ done. inl (done.0, told_so (Ok (replies.Swept done.0)) a o b done.1)) h

exact_verify : (a : Archive) (id : ℤ) (o : Result Reply Refusal) (b : Archive) → ArchiveEnds a (events.Verify id) o b → Step a.desk (asked_of (events.Verify id)) (plain o) b.desk
exact_verify a id o b h =
    let answer : Result Reply Refusal = Ok (replies.Verified (frames_of_one (recording_at a id))) in
    let verified_so : Outcome → DeskState → Type 0 = λ outcome new. ((frames : ℤ) × Ended (plain (Ok (replies.Verified frames))) a.desk outcome new) ⊎ Unread a.desk outcome new in
    passing a (Leaves a a) (λ r o b h. h) (verify_tests a.desk id) checks answer verified_so o b (λ done. inl (frames_of_one (recording_at a id), told_so answer a o b done)) h

-- the catalogue's banks may refuse it
checkpoint_ends : (a : Archive) (o : Result Reply Refusal) (b : Archive) → CheckpointEnds a (Ok tt) o b
    → Either (Ended (plain (Ok replies.Checkpointed)) (checkpointed a.desk)) (Either (RefusedByBanks a.desk) (Breaks a.desk)) (plain o) b.desk
checkpoint_ends a o b (inl done) = inl (told_so (Ok replies.Checkpointed) (with_desk (checkpointed a.desk) a) o b done)
checkpoint_ends a o b (inr (inl spare)) = inr (inl (inl (told_so (Err NotCatalogue) a o b spare)))
checkpoint_ends a o b (inr (inr last)) = inr (inl (inr (told_so (Err HistoryFull) a o b last)))

exact_checkpoint : (a : Archive) (o : Result Reply Refusal) (b : Archive) → ArchiveEnds a events.Checkpoint o b → Step a.desk (asked_of events.Checkpoint) (plain o) b.desk
exact_checkpoint a o b h =
    let anew_so : Outcome → DeskState → Type 0 = Either (Ended (plain (Ok replies.Checkpointed)) (checkpointed a.desk)) (Either (RefusedByBanks a.desk) (Breaks a.desk)) in
    passing a (CheckpointEnds a) (λ r o b h. h) (sweep_tests a.desk) checks (Ok tt) anew_so o b (λ done. checkpoint_ends a o b done) h

-- ---- polling

is_done : (t : Bool) (next : ℤ) → is_none (cond t None (Some next)) ≡ t
is_done true next = refl
is_done false next = refl

-- what a poll of a replay of a recording gives
gives : (a : Archive) (number most : ℤ) (limit : Option ℤ) (replay : OpenReplay) (r : Recording) (o : Result Reply Refusal) (b : Archive) → open_replay_in a.desk number ≡ Some replay → IsKept r → is_boundary replay.next r ≡ true → 0 < unsigned_abs most
    → PolledEnds a replay most limit (Some r) o b → GivesFrames a.desk limit (Some replay) (Some (registration_of r)) (plain_poll (from_position (open_replay_in a.desk number)) o) b.desk
gives a number most limit replay r o b is kept boundary some h =
    let frames = polled replay.next (held_to limit replay.bound) (unsigned_abs most) r in
    let next = frames_end replay.next frames in
    let moved : Written = record { first = replay.next; last = next } in
    let answer : Result Reply Refusal = Ok (replies.Polled frames (goes_on r replay next)) in
    let end = tells (plain_poll (from_position (open_replay_in a.desk number))) answer (with_desk (after_poll replay.number next a.desk) a) o b h in
    let done = is_done (is_done_at (registration_of r) replay.bound next) next in
    let told_is : plain_poll (from_position (open_replay_in a.desk number)) answer ≡ Ok (told.Polled moved (is_done_at (registration_of r) replay.bound next)) =
    ap (λ (found : Option OpenReplay). plain_poll (from_position found) answer) is ∙ ap (λ (t : Bool). Ok (told.Polled moved t)) done in
    (moved, poll_moves r (held_back limit replay) (unsigned_abs most) kept boundary some, (end.0 ∙ told_is, end.1))

-- the recording of a replay, as the register has it
gives_of : (a : Archive) (number most : ℤ) (limit : Option ℤ) (replay : OpenReplay) (found : Option Recording) (o : Result Reply Refusal) (b : Archive) → IsConsistent a → AreAtBoundaries a → open_replay_in a.desk number ≡ Some replay → recording_at a replay.recording ≡ found → 0 < unsigned_abs most
    → PolledEnds a replay most limit found o b → GivesFrames a.desk limit (Some replay) (option_map registration_of found) (plain_poll (from_position (open_replay_in a.desk number)) o) b.desk
gives_of a number most limit replay None o b consistent at_all is at some h = absurd h
gives_of a number most limit replay (Some r) o b consistent at_all is at some h =
    let kept = each_found id_of IsKept replay.recording a.state.recordings r consistent.well.kept at in
    let there = each_found replay_number (IsAtBoundary a.state) number a.desk.callers.replays replay at_all is in
    let boundary : is_boundary replay.next r ≡ true = subst (λ (x : Option Recording). IsSomeAnd x (λ y. IsTrue (is_boundary replay.next y))) at there in
    gives a number most limit replay r o b is kept boundary some h

polls : (a : Archive) (number most : ℤ) (limit : Option ℤ) (found : Option OpenReplay) (o : Result Reply Refusal) (b : Archive) → IsConsistent a → AreAtBoundaries a → open_replay_in a.desk number ≡ found → is_some found ≡ true → 0 < unsigned_abs most
    → PollingEnds a most limit (open_replay_of found) o b → GivesFrames a.desk limit found (recording_of a.desk found) (plain_poll (from_position (open_replay_in a.desk number)) o) b.desk
polls a number most limit None o b consistent at_all is there some h = absurd (true≢false (sym there))
polls a number most limit (Some replay) o b consistent at_all is there some h =
    let known : registration_in a.desk.register replay.recording ≡ option_map registration_of (recording_at a replay.recording) =
    ap (λ (g : RegisterState). registration_in g replay.recording) consistent.agrees ∙ found_registration replay.recording a.state.recordings in
    subst (λ (x : Option Registration). GivesFrames a.desk limit (Some replay) x (plain_poll (from_position (open_replay_in a.desk number)) o) b.desk) (sym known)
    (gives_of a number most limit replay (recording_at a replay.recording) o b consistent at_all is refl some h)

at_least_one : (most : ℤ) (limited : Bool) → (int_le (pos 1) most && int_le most (pos 4096) && limited) ≡ true → 0 < unsigned_abs most
at_least_one most limited is = let least : (int_le (pos 1) most ≡ true) × (int_le most (pos 4096) ≡ true) = both (both is).0 in let low = le_true (pos 1) most least.0 in omega (arith, ints, low)

exact_poll : (a : Archive) (number most : ℤ) (limit : Option ℤ) (o : Result Reply Refusal) (b : Archive) → IsConsistent a → AreAtBoundaries a → PollingEnds a most limit (poll_decision a.desk number most limit) o b
    → Step a.desk (calls.ReplayPoll number most limit) (plain_poll (from_position (open_replay_in a.desk number)) o) b.desk
exact_poll a number most limit o b consistent at_all h =
    let found = open_replay_in a.desk number in
    let tests = poll_tests a.desk number most limit in
    let gives_so : Outcome → DeskState → Type 0 = Either (Unread a.desk) (GivesFrames a.desk limit found (recording_of a.desk found)) in
    checking a (plain_poll (from_position found)) (λ r. refl) (PollingEnds a most limit) (λ r o b h. h) tests checks (open_replay_of found) gives_so o b
    (λ all done.
    let parts : ((int_le (pos 1) most && int_le most (pos 4096) && is_limit limit) ≡ true) × ((is_some found && true) ≡ true) = both all in
    let there : (is_some found ≡ true) × (true ≡ true) = both parts.1 in
    inr (polls a number most limit found o b consistent at_all refl there.0 (at_least_one most (is_limit limit) parts.0) done)) h

pub exact_is_allowed : (a : Archive) (event : Event) (o : Result Reply Refusal) (b : Archive) → (IsTrue (is_poll event) → IsConsistent a × AreAtBoundaries a) → ArchiveEnds a event o b → Step a.desk (asked_of event) (told_of a.desk event o) b.desk
exact_is_allowed a (events.Ask request) o b consistent h = exact_decision a (decision_of a.desk request) o b h
exact_is_allowed a (events.Write session block) o b consistent h = exact_write a session block o b h
exact_is_allowed a (events.Settle session) o b consistent h = exact_settle a session o b h
exact_is_allowed a (events.SettleAll sessions) o b consistent h = exact_settle_all a sessions o b h
exact_is_allowed a (events.ReplayOpen id position size) o b consistent h = exact_open a id position size o b h
exact_is_allowed a (events.ReplayPoll number most) o b consistent h = let was = consistent refl in exact_poll a number most None o b was.0 was.1 h
exact_is_allowed a (events.ReplayPollTo number most limit) o b consistent h = let was = consistent refl in exact_poll a number most (Some limit) o b was.0 was.1 h
exact_is_allowed a (events.ReplayClose number) o b consistent h = exact_close a number o b h
exact_is_allowed a events.Sweep o b consistent h = exact_sweep a o b h
exact_is_allowed a (events.Verify id) o b consistent h = exact_verify a id o b h
exact_is_allowed a events.Checkpoint o b consistent h = exact_checkpoint a o b h
