-- An archive that is consistent still is after each call.
use Rattle.std.proofs.Common.{◌≡◌, ◌≢◌, ◌+ℤ◌, ◌<◌, ◌⊎◌, inl, inr, ◌&&◌, ◌||◌, not, nat_le, length, arith, ℤ, pos, negsuc, Bool, true, false, cond, List, [], ◌∷◌, ◌++◌, map, ℕ, Option, Some, None, Result, Ok, Err, refl, sym, ap, subst, ◌∙◌, true≢false, int_le, unsigned_abs}
use Rattle.std.specs.Prelude.{IsFalse, IsSomeAnd, IsTrue, is_some, option_map}
use Rattle.std.specs.Ordering.{int_eq}
use Rattle.std.proofs.lemmas.Bool.Decides.{nat_tests}
use Rattle.frame_core.specs.declared.refusal.Refusal.{Refusal}
use Rattle.frame_core.specs.declared.refusal.Refusal.TheVariants.{BadPosition, DeviceFault, NoMemory}
use Rattle.archive_model.specs.declared.command.Command.{Command}
use Rattle.archive_model.specs.declared.command.Command.TheVariants as commands
use Rattle.archive_model.specs.declared.registration.Registration.{Registration}
use Rattle.archive_model.specs.declared.reply.Reply.{Reply}
use Rattle.archive_model.specs.declared.reply.Reply.TheVariants as replies
use Rattle.archive_model.specs.declared.version.BankVersion.{BankVersion}
use Rattle.archive_model.specs.Keyed.{Each, Rise, change, find}
use Rattle.archive_model.specs.Register as register
use Rattle.archive_model.specs.Register.{RegisterState, is_end, registration_in}
use Rattle.archive_model.specs.WellFormed.{IsWell}
use Rattle.archive_model.specs.State.{Recording, State, id_of, register_of, registration_of}
use Rattle.archive_model.specs.Accepting.{Follow, begins_in}
use Rattle.archive_model.specs.Acceptance.{Continue}
use Rattle.archive_model.specs.Checks.{Tests, block_checks, checked, checks, first_checks, is_boundary_by, is_of, last_checks, passes}
use Rattle.archive_model.specs.Commands.{after, appended}
use Rattle.archive_model.specs.Replay.{is_boundary, polled}
use Rattle.archive_model.proofs.AnswerLemmas.{all_hold, passed}
use Rattle.archive_model.proofs.CommandsLemmas.{find_other}
use Rattle.archive_model.proofs.RegisterLemmas.{each_push, found_number as number_found}
use Rattle.archive_model.proofs.StateLemmas.{each_found, found_registration, well_after}
use Rattle.archive_model.proofs.WellLemmas.{both}
use Rattle.control_core.specs.declared.callers.OpenReplay.{OpenReplay}
use Rattle.control_core.specs.declared.callers.RecorderSession.{RecorderSession}
use Rattle.control_core.specs.declared.callers.Written.{Written}
use Rattle.control_core.specs.Decided.{Decision}
use Rattle.control_core.specs.Decided as decisions
use Rattle.control_core.specs.declared.event.Event.{Event}
use Rattle.control_core.specs.declared.event.Event.TheVariants as events
use Rattle.control_core.specs.declared.turns.Opening.{Opening}
use Rattle.control_core.specs.Opened.{OpeningDecision}
use Rattle.control_core.specs.Opened as opening
use Rattle.control_core.specs.declared.turns.Settling.{Settling}
use Rattle.control_core.specs.declared.turns.Settling.TheVariants as settling
use Rattle.control_core.specs.Callers.{moved_to, replay_number, session_number, with_written}
use Rattle.control_core.specs.Desk.{DeskState, has_room}
use Rattle.control_core.specs.Changes.{after_close, after_open, after_poll, checkpointed, positions_each, settled, settled_by}
use Rattle.control_core.specs.Decisions.{decision_of}
use Rattle.control_core.specs.Turns.{begins_at, close_decision, held_to, open_decision, open_tests, opened_at, opening_decided, opening_in, opening_of, poll_decision, poll_tests, open_replay_in, open_replay_of, session_in, settle_all_tests, settle_decision, settle_tests, settling_of, has_room_for_each, has_written, are_once, sweep_tests, write_decision}
use Rattle.control_core.specs.Seats.{AreApart, KeepsSeats}
use Rattle.control_core.specs.Agreement.{Agrees, WroteBlocks}
use Rattle.control_core.specs.Exact.{Archive, ArchiveEnds, CallEnds, CheckpointEnds, DecisionEnds, Leaves, LeftByFault, OpeningEnds, PolledEnds, PollingEnds, SettlingEnds, SweepEnds, asked_frames, asked_opening, book_of, broken, frames_end, opened_archive, recording_at, settled_archive, settled_archives, settled_by_number, settling_in, span_of, with_desk, with_session_blocks, written}
use Rattle.control_core.specs.Consistent.{AreAtBoundaries, HasBlocks, IsAcceptable, IsAtBoundary, IsConsistent, SettlesByAppend, StaysConsistent, StaysOpen, WroteNothing, is_asked}
use Rattle.control_core.proofs.AgreementLemmas.{agrees}
use Rattle.control_core.proofs.GroupLemmas.{HasRoomBehind, one_desk, room_behind, room_here, roomy, same_broken}
use Rattle.control_core.proofs.BoundaryLemmas.{boundary_appended, boundary_polled}
use Rattle.control_core.proofs.CallLemmas.{no_append, opening_allowed, refused_unchanged}
use Rattle.control_core.proofs.CommandLemmas.{consistent_after, no_blocks, still_blocks}
use Rattle.control_core.proofs.DecidedLemmas.{decided_accepted, found_number, held, settled_session, settling_accepted, settling_session}
use Rattle.control_core.proofs.DeskLemmas.{keeps_closed, keeps_moved, keeps_none, keeps_opened, keeps_settled, not_same}
use Rattle.control_core.proofs.FoundLemmas.{each_both, each_weaker}
use Rattle.control_core.proofs.StayLemmas.{at_changed, blocks_stay, each_changed, each_itself, each_without, goes_on_at, is_at, none_before, same_recording}
use Rattle.control_core.proofs.WriteLemmas.{none_beside, other_blocks, this_session, write_allowed, wrote}

-- nothing has changed
pub unchanged : (a : Archive) → IsConsistent a → StaysConsistent a a
unchanged a consistent = record { consistent = consistent; boundaries = λ at_all. at_all }

-- ---- other calls on replays

-- replays that are others, where what is recorded and written is as it was
pub with_replays : (a : Archive) (d : DeskState) → IsConsistent a → d.register ≡ a.desk.register → d.callers.sessions ≡ a.desk.callers.sessions → d.is_broken ≡ a.desk.is_broken → KeepsSeats d.register d.callers
    → (AreAtBoundaries a → Each (IsAtBoundary a.state) d.callers.replays) → StaysConsistent a (with_desk d a)
with_replays a d consistent register sessions works seats boundaries =
    let kept : IsConsistent (with_desk d a) = record {
      agrees = register ∙ consistent.agrees;
      well = consistent.well;
      seats = seats;
      blocks = each_weaker (λ s. HasBlocks a s s.written) (λ s. HasBlocks (with_desk d a) s s.written) d.callers.sessions (λ s has. blocks_stay a (with_desk d a) s s.written refl (λ r found. same_recording a (with_desk d a) s r found) has)
          (subst (λ (ss : List RecorderSession). Each (λ s. HasBlocks a s s.written) ss) (sym sessions) consistent.blocks);
      unwritten = λ n none. consistent.unwritten n (subst (λ (ss : List RecorderSession). find session_number n ss ≡ None) sessions none);
      broken = works ∙ consistent.broken;
    } in
    record { consistent = kept; boundaries = boundaries }

closed : (a : Archive) (number : ℤ) → IsConsistent a → StaysConsistent a (with_desk (after_close number a.desk) a)
closed a number consistent =
    with_replays a (after_close number a.desk) consistent refl refl refl (keeps_closed a.desk.register a.desk.callers number consistent.seats)
    (λ at_all. each_without replay_number (IsAtBoundary a.state) number a.desk.callers.replays at_all)

-- a replay that is moved to where its poll up to a bound ends
moved : (a : Archive) (number most bound : ℤ) (replay : OpenReplay) (r : Recording) → IsConsistent a → open_replay_in a.desk number ≡ Some replay → recording_at a replay.recording ≡ Some r
    → StaysConsistent a (with_desk (after_poll replay.number (frames_end replay.next (polled replay.next bound (unsigned_abs most) r)) a.desk) a)
moved a number most bound replay r consistent is found =
    let next = frames_end replay.next (polled replay.next bound (unsigned_abs most) r) in
    let d = after_poll replay.number next a.desk in
    with_replays a d consistent refl refl refl (keeps_moved a.desk.register a.desk.callers replay.number next consistent.seats) (λ at_all.
    let at = goes_on_at a.state replay (each_found replay_number (IsAtBoundary a.state) number a.desk.callers.replays replay at_all is) in
    let this : at.recording ≡ r = (let same : Some at.recording ≡ Some r = sym at.found ∙ found in cc) in
    let boundary : is_boundary replay.next r ≡ true = subst (λ (x : Recording). is_boundary replay.next x ≡ true) this at.boundary in
    let ends : is_boundary next r ≡ true = boundary_polled r replay.next bound (unsigned_abs most) boundary in
    let number_is : replay.number ≡ number = number_found replay_number number a.desk.callers.replays replay is in
    each_changed replay_number (IsAtBoundary a.state) (IsAtBoundary a.state) replay.number (pos 0) a.desk.callers.next_replay (moved_to next) a.desk.callers.replays consistent.seats.replays.rising
    (λ x there old.
    let one : x ≡ replay = (let same : Some x ≡ Some replay = sym there ∙ subst (λ (n : ℤ). find replay_number n a.desk.callers.replays ≡ Some replay) (sym number_is) is in cc) in
    let where_it_is : find id_of x.recording a.state.recordings ≡ Some r = subst (λ (y : OpenReplay). find id_of y.recording a.state.recordings ≡ Some r) (sym one) found in
    is_at a.state (moved_to next x) r where_it_is ends) (λ x other old. old) at_all)

-- what is opened goes on at a boundary

abbrev pub IsEndOr : Bool → ℤ → Option Registration → Type 0
IsEndOr begins position found = (r : Registration) → found ≡ Some r → (is_end position r ≡ true) ⊎ (begins ≡ true)

asked_front : (a : Archive) (id : ℤ) (tests : Tests) (rs : List Refusal) (decision : OpeningDecision) (o : Opening) → asked_opening a id (opening_decided (checked tests rs (Ok decision))) ≡ Ok o
    → (passes tests rs ≡ true) × (asked_opening a id decision ≡ Ok o)
asked_front a id tests [] decision o e = (refl, e)
asked_front a id tests (r ∷ rs) decision o e = by (tests r) e (asked_front a id tests rs decision o)
  where
    by : (b : Bool) → asked_opening a id (opening_decided (cond b (checked tests rs (Ok decision)) (Err r))) ≡ Ok o → (asked_opening a id (opening_decided (checked tests rs (Ok decision))) ≡ Ok o → (passes tests rs ≡ true) × (asked_opening a id decision ≡ Ok o))
        → ((b && passes tests rs) ≡ true) × (asked_opening a id decision ≡ Ok o)
    by true e rest = rest e
    by false e rest = absurd cc

asked_at : (a : Archive) (id next : ℤ) (found : Option Registration) (behind : Result Opening Refusal) (o : Opening) → asked_opening a id (opened_at found behind next) ≡ Ok o → IsEndOr (begins_in (recording_at a id) next) next found × (behind ≡ Ok o)
asked_at a id next None behind o e = (λ r none. absurd cc, by (begins_in (recording_at a id) next) e)
  where
    by : (b : Bool) → cond b behind (Err BadPosition) ≡ Ok o → behind ≡ Ok o
    by true e = e
    by false e = absurd cc
asked_at a id next (Some r) behind o e = by (is_end next r) refl e
  where
    same : (x : Registration) → Some r ≡ Some x → r ≡ x
    same x is = cc

    inside : (b : Bool) → cond b behind (Err BadPosition) ≡ Ok o → (b ≡ true) × (behind ≡ Ok o)
    inside true e = (refl, e)
    inside false e = absurd cc

    by : (b : Bool) → is_end next r ≡ b → asked_opening a id (cond b (opening.Decided behind) (opening.IfBoundary next behind)) ≡ Ok o → IsEndOr (begins_in (recording_at a id) next) next (Some r) × (behind ≡ Ok o)
    by true is e = (λ x found. inl (subst (λ (y : Registration). is_end next y ≡ true) (same x found) is), e)
    by false is e = let asked = inside (begins_in (recording_at a id) next) e in (λ x found. inr asked.0, asked.1)

-- the position of a recording that is found, which is an end or where a frame begins
at_found : (s : State) (id next bound number : ℤ) (found : Option Recording) → find id_of id s.recordings ≡ found → IsEndOr (begins_in found next) next (option_map registration_of found) → is_some (option_map registration_of found) ≡ true
    → IsAtBoundary s (record { number = number; recording = id; next = next; bound = bound })
at_found s id next bound number None is ends there = absurd (true≢false (sym there))
at_found s id next bound number (Some r) is ends there = is_at s (record { number = number; recording = id; next = next; bound = bound }) r is (by (ends (registration_of r) refl))
  where
    or_true : (b : Bool) → (b || true) ≡ true
    or_true true = refl
    or_true false = refl

    by : (is_end next (registration_of r) ≡ true) ⊎ (begins_in (Some r) next ≡ true) → is_boundary next r ≡ true
    by (inl end) = rw end refl
    by (inr begins) = rw begins (or_true (is_end next (registration_of r)))

decided_in : (a : Archive) (id : ℤ) (decision : OpeningDecision) (o : Opening) → asked_opening a id decision ≡ Ok o → opening_in decision ≡ Some o
decided_in a id (opening.Decided (Ok x)) o e = let same : x ≡ o = cc in ap Some same
decided_in a id (opening.Decided (Err refusal)) o e = absurd cc
decided_in a id (opening.IfBoundary position x) o e = by (begins_in (recording_at a id) position) x e
  where
    by : (b : Bool) (y : Result Opening Refusal) → cond b y (Err BadPosition) ≡ Ok o → opening_in (opening.IfBoundary position y) ≡ Some o
    by true (Ok y) e = let same : y ≡ o = cc in ap Some same
    by true (Err refusal) e = absurd cc
    by false y e = absurd cc

pub opened_at_boundary : (a : Archive) (id position size : ℤ) (o : Opening) → Agrees a.desk a.state → asked_opening a id (open_decision a.desk id position size) ≡ Ok o
    → IsAtBoundary a.state (record { number = a.desk.callers.next_replay; recording = o.recording; next = o.next; bound = o.bound })
opened_at_boundary a id position size o agreed e =
    let d = a.desk in
    let tests = open_tests d id position size true in
    let found = registration_in d.register id in
    let next = begins_at position found in
    let behind = checked tests (block_checks ++ last_checks) (Ok (opening_of d id position size)) in
    let front = asked_front a id tests first_checks (opened_at found behind next) o e in
    let asked = asked_at a id next found behind o front.1 in
    let made = held tests (block_checks ++ last_checks) (opening_of d id position size) o asked.1 in
    let known : found ≡ option_map registration_of (recording_at a id) = ap (λ (g : RegisterState). registration_in g id) agreed ∙ found_registration id a.state.recordings in
    let in_range : Bool = int_le (negsuc 0) position && int_le (negsuc 0) size in
    let inside : Bool = is_of found (is_boundary_by true next) in
    let range : (in_range ≡ true) × ((is_some found && (inside && true)) ≡ true) = both front.0 in
    let there : (is_some found ≡ true) × ((inside && true) ≡ true) = both range.1 in
    let boundary : IsAtBoundary a.state (record { number = d.callers.next_replay; recording = id; next = next; bound = (opening_of d id position size).bound }) =
    at_found a.state id next (opening_of d id position size).bound d.callers.next_replay (recording_at a id) refl
    (subst (IsEndOr (begins_in (recording_at a id) next) next) known asked.0) (subst (λ (x : Option Registration). is_some x ≡ true) known there.0) in
    subst (λ (x : Opening). IsAtBoundary a.state (record { number = d.callers.next_replay; recording = x.recording; next = x.next; bound = x.bound })) made.1 boundary

opened : (a : Archive) (id position size : ℤ) (o : Opening) → IsConsistent a → asked_opening a id (open_decision a.desk id position size) ≡ Ok o → StaysConsistent a (with_desk (after_open o.recording o.next o.bound a.desk) a)
opened a id position size o consistent e =
    let d = a.desk in
    let may = opening_allowed d id position size o (decided_in a id (open_decision d id position size) o e) in
    let new : OpenReplay = record { number = d.callers.next_replay; recording = o.recording; next = o.next; bound = o.bound } in
    with_replays a (after_open o.recording o.next o.bound d) consistent refl refl refl (keeps_opened d.register d.callers new refl may.few may.there consistent.seats)
    (λ at_all. each_push (IsAtBoundary a.state) d.callers.replays new at_all (opened_at_boundary a id position size o consistent.agrees e))

-- ---- settling

-- a session of another number writes another recording
apart_of : (n : ℤ) (ss : List RecorderSession) (s : RecorderSession) → AreApart ss → find session_number n ss ≡ Some s → Each (λ x. int_eq n x.number ≡ false → x.recording ≢ s.recording) ss
apart_of n [] s apart found = tt
apart_of n (x ∷ ss) s apart found = by (int_eq n x.number) refl found (apart_of n ss s apart.1)
  where
    by : (b : Bool) → int_eq n x.number ≡ b → cond b (Some x) (find session_number n ss) ≡ Some s → (find session_number n ss ≡ Some s → Each (λ y. int_eq n y.number ≡ false → y.recording ≢ s.recording) ss)
        → (int_eq n x.number ≡ false → x.recording ≢ s.recording) × Each (λ y. int_eq n y.number ≡ false → y.recording ≢ s.recording) ss
    by true is e rest =
        let same : x ≡ s = cc in (
          λ other. absurd (true≢false (sym is ∙ other)),
          each_weaker (λ y. y.recording ≢ x.recording) (λ y. int_eq n y.number ≡ false → y.recording ≢ s.recording) ss (λ y differs other e'. differs (e' ∙ ap (λ (z : RecorderSession). z.recording) (sym same))) apart.0,
        )
    by false is e rest =
        let differs : s.recording ≢ x.recording = each_found session_number (λ y. y.recording ≢ x.recording) n ss s apart.0 e in
        (λ other same. differs (sym same), rest e)

abbrev pub with_settled : Archive → ℤ → ℤ → DeskState → Archive
with_settled a session id d = record a { state = after a.state (commands.Append id (a.blocks session)); desk = d; blocks = with_session_blocks session [] a.blocks }

settled_desk : (a : Archive) (session : ℤ) (s : RecorderSession) (w : Written) → session_in a.desk session ≡ Some s → s.written ≡ Some w → settled (session_in a.desk session) a.desk ≡ settled_by s (Some w) a.desk
settled_desk a session s w found has = ap (λ (o : Option RecorderSession). settled o a.desk) found ∙ ap (λ (o : Option Written). settled_by s o a.desk) has

-- what becomes of a session: its blocks are gone, or it stays as it was
abbrev pub Goes : Archive → Archive → RecorderSession → Type 0
Goes a b s = WroteNothing b s ⊎ (StaysOpen a b.state s × (b.blocks s.number ≡ a.blocks s.number))

has_blocks_still : (a b : Archive) (s : RecorderSession) → IsConsistent a → Goes a b s → HasBlocks b s s.written
has_blocks_still a b s consistent (inl nothing) = no_blocks b s nothing.0 nothing.1
has_blocks_still a b s consistent (inr (stays, same)) = still_blocks a b s consistent stays same

-- the session's blocks are gone, and the others stay
settled_sessions : (a : Archive) (session id : ℤ) (s : RecorderSession) (w : Written) → IsConsistent a → session_in a.desk session ≡ Some s → s.recording ≡ id
    → Each (Goes a (with_settled a session id (settled_by s (Some w) a.desk))) (change session_number s.number (with_written None) a.desk.callers.sessions)
settled_sessions a session id s w consistent found recording =
    let ss = a.desk.callers.sessions in
    let b = with_settled a session id (settled_by s (Some w) a.desk) in
    let number : s.number ≡ session = found_number session ss s found in
    let Apart : RecorderSession → Type 0 = λ x. int_eq session x.number ≡ false → x.recording ≢ s.recording in
    let Itself : RecorderSession → Type 0 = λ x. session_in a.desk x.number ≡ Some x in
    each_changed session_number (λ x. Itself x × Apart x) (Goes a b) s.number (pos 0) a.desk.callers.next_session (with_written None) ss consistent.seats.sessions.rising
    (λ x there has. inl (refl, this_session session [] a.blocks x.number (found_number s.number ss x there ∙ number)))
    (λ x other has.
    let apart : int_eq session x.number ≡ false = subst (λ (z : ℤ). int_eq z x.number ≡ false) number other in
    let differs : x.recording ≢ id = λ same. has.1 apart (same ∙ sym recording) in
    let rest : recording_at b x.recording ≡ recording_at a x.recording = find_other x.recording id (appended (a.blocks session)) (λ r. refl) (not_same x.recording id differs) a.state.recordings in
    inr (record { was = has.0; stays = λ r at. record { new = r; found = rest ∙ at; is = inl refl } }, other_blocks session [] a.blocks x.number apart))
    (each_both Itself Apart (λ x. Itself x × Apart x) ss (λ x has apart. (has, apart)) (each_itself (pos 0) a.desk.callers.next_session ss consistent.seats.sessions.rising)
    (apart_of session ss s consistent.seats.sessions.apart found))

settles : (a : Archive) (session id : ℤ) → IsConsistent a → SettlesByAppend a session id → (wrote_blocks : WroteBlocks a.desk a.state id (a.blocks session)) → session_in a.desk session ≡ Some wrote_blocks.session → StaysConsistent a (settled_archive a session id)
settles a session id consistent settling wb found =
    let s = wb.session in
    let c = commands.Append id (a.blocks session) in
    let d = settled_by s (Some wb.written) a.desk in
    let ss = a.desk.callers.sessions in
    let number : s.number ≡ session = found_number session ss s found in
    let b = with_settled a session id d in
    let follow : Follow a.state id (a.blocks session) = settling_follow a session id s (subst (λ (o : Option Written). HasBlocks a s o) wb.has (each_found session_number (λ x. HasBlocks a x x.written) session ss s consistent.blocks found)) number wb.recording in
    let kept : IsConsistent b = record {
      agrees = subst (λ (x : DeskState). Agrees x (after a.state c)) (settling.same ∙ settled_desk a session s wb.written found wb.has) (agrees a.desk (book_of a) c consistent.agrees wb consistent.well settling.acceptable.accepted);
      well = well_after (book_of a) c consistent.well settling.acceptable.accepted;
      seats = keeps_settled a.desk.register a.desk.callers s.recording wb.written.last s.number consistent.seats;
      blocks = each_weaker (Goes a b) (λ x. HasBlocks b x x.written) d.callers.sessions (λ x goes. has_blocks_still a b x consistent goes) (settled_sessions a session id s wb.written consistent found wb.recording);
      unwritten = λ n none.
          let before : session_in a.desk n ≡ None = none_before session_number n s.number (with_written None) ss (λ x. refl) none in
          none_beside session [] a.blocks n ss s found before ∙ consistent.unwritten n before;
      broken = consistent.broken;
    } in
    let stays : StaysConsistent a b = record {
      consistent = kept;
      boundaries = λ at_all. each_weaker (IsAtBoundary a.state) (IsAtBoundary (after a.state c)) a.desk.callers.replays
          (λ r at. at_changed a.state r id (appended (a.blocks session)) (λ x. refl)
          (λ x there this boundary. boundary_appended (a.blocks session) x r.next (subst (λ (o : Option Recording). IsSomeAnd o (λ y. Continue y (a.blocks session))) this follow) boundary) at) at_all;
    } in
    subst (λ (x : DeskState). StaysConsistent a (with_settled a session id x)) (sym (settled_desk a session s wb.written found wb.has)) stays
  where
    settling_follow : (a : Archive) (session id : ℤ) (s : RecorderSession) {w : Written} → HasBlocks a s (Some w) → s.number ≡ session → s.recording ≡ id → Follow a.state id (a.blocks session)
    settling_follow a session id s has number recording = subst (λ (z : ℤ). Follow a.state z (a.blocks session)) recording (subst (λ (z : ℤ). Follow a.state s.recording (a.blocks z)) number has.follow)

-- what a settling of a session's blocks makes of the sessions
pub settling_sessions : (a : Archive) (session id : ℤ) (w : Written) → IsConsistent a → settle_decision a.desk session ≡ Ok (settling.Blocks id w) → Each (Goes a (settled_archive a session id)) (settled_archive a session id).desk.callers.sessions
settling_sessions a session id w consistent is =
    let wb = (settling_accepted a session id w consistent is).acceptable.written in
    let found = settled_session a session id w consistent is wb in
    subst (λ (x : DeskState). Each (Goes a (with_settled a session id x)) x.callers.sessions) (sym (settled_desk a session wb.session wb.written found wb.has))
    (settled_sessions a session id wb.session wb.written consistent found wb.recording)

-- ---- settling several sessions

-- what there is to settle of a session is decided on, where the archive works and the history has room for it
pub decided_blocks : (a : Archive) (n id : ℤ) (w : Written) → IsFalse a.desk.is_broken → a.desk.counted < a.desk.limit → settling_in a n ≡ settling.Blocks id w → settle_decision a.desk n ≡ Ok (settling.Blocks id w)
decided_blocks a n id w works room is =
    let s = settling_session a.desk n id w (session_in a.desk n) refl is in
    let d = a.desk in
    let there : is_some (session_in d n) ≡ true = ap is_some s.found in
    let fits : (not (has_written (session_in d n)) || has_room d) ≡ true = by (has_written (session_in d n)) in
    let all : passes (settle_tests d n) checks ≡ true = rw (works, there, fits) refl in
    passed (settle_tests d n) checks (Ok (settling_of d (session_in d n))) all ∙ ap Ok is
  where
    by : (b : Bool) → (not b || has_room a.desk) ≡ true
    by true = grind (arith, nat_tests)
    by false = refl

-- what is settled of one of them keeps the archive consistent
pub one_settled : (a : Archive) (n : ℤ) → IsConsistent a → IsFalse a.desk.is_broken → (has_written (session_in a.desk n) ≡ true → a.desk.counted < a.desk.limit) → StaysConsistent a (settled_by_number a n (settling_in a n))
one_settled a n consistent works room = by (settling_in a n) refl
  where
    by : (s : Settling) → settling_in a n ≡ s → StaysConsistent a (settled_by_number a n s)
    by (settling.Nothing position) is = unchanged a consistent
    by (settling.Blocks id w) is =
        let s = settling_session a.desk n id w (session_in a.desk n) refl is in
        let wrote : has_written (session_in a.desk n) ≡ true = ap has_written s.found ∙ ap is_some s.written in
        let decided = decided_blocks a n id w works (room wrote) is in
        let by_append = settling_accepted a n id w consistent decided in
        settles a n id consistent by_append by_append.acceptable.written (settled_session a n id w consistent decided by_append.acceptable.written)

-- the others are settled behind the first one
pub behind_one : (a : Archive) (n : ℤ) (ns : List ℤ) → IsFalse a.desk.is_broken → HasRoomBehind a.desk (n ∷ ns)
    → IsFalse (settled_by_number a n (settling_in a n)).desk.is_broken × HasRoomBehind (settled_by_number a n (settling_in a n)).desk ns
behind_one a n ns works room =
    let desk = one_desk a n in (
      ap (λ (d : DeskState). d.is_broken) desk ∙ same_broken a.desk n ∙ works,
      subst (λ (d : DeskState). HasRoomBehind d ns) (sym desk) (room_behind a.desk n ns room),
    )

all_settled : (a : Archive) (ns : List ℤ) → IsConsistent a → IsFalse a.desk.is_broken → HasRoomBehind a.desk ns → StaysConsistent a (settled_archives ns a)
all_settled a [] consistent works room = unchanged a consistent
all_settled a (n ∷ ns) consistent works room =
    let one = one_settled a n consistent works (room_here a.desk n ns room) in
    let behind = behind_one a n ns works room in
    let rest = all_settled (settled_by_number a n (settling_in a n)) ns one.consistent behind.0 behind.1 in
    record { consistent = rest.consistent; boundaries = λ at_all. rest.boundaries (one.boundaries at_all) }

-- what passes the checks of several sessions
pub record MayOfAll (d : DeskState) (ns : List ℤ) : Type 0 where
  pub works : IsFalse d.is_broken
  pub few : nat_le (length ns) 64 ≡ true
  pub once : are_once ns ≡ true
  pub room : HasRoomBehind d ns

pub may_of_all : (d : DeskState) (ns : List ℤ) → passes (settle_all_tests d ns) checks ≡ true → MayOfAll d ns
may_of_all d ns all =
    let whole : (not d.is_broken ≡ true) × (((nat_le (length ns) 64 && are_once ns) && (has_room_for_each d ns && true)) ≡ true) = both all in
    let parts : ((nat_le (length ns) 64 && are_once ns) ≡ true) × ((has_room_for_each d ns && true) ≡ true) = both whole.1 in
    let numbers : (nat_le (length ns) 64 ≡ true) × (are_once ns ≡ true) = both parts.0 in
    record { works = works d.is_broken whole.0; few = numbers.0; once = numbers.1; room = roomy d ns (both parts.1).0 }
  where
    works : (b : Bool) → not b ≡ true → b ≡ false
    works true is = absurd (true≢false (sym is))
    works false is = refl

group_settled : (a : Archive) (ns : List ℤ) (y : Reply) → IsConsistent a → checked (settle_all_tests a.desk ns) checks (Ok (replies.SettledAll (positions_each ns a.desk))) ≡ Ok y → StaysConsistent a (settled_archives ns a)
group_settled a ns y consistent is =
    let may = may_of_all a.desk ns (held (settle_all_tests a.desk ns) checks (replies.SettledAll (positions_each ns a.desk)) y is).0 in
    all_settled a ns consistent may.works may.room

-- ---- calls

-- a checkpoint leaves what is recorded and written as it was
checkpoint_consistent : (a : Archive) (decision : Result (Unit {0}) Refusal) (reply : Reply) (b : Archive) → IsConsistent a → CheckpointEnds a decision (Ok reply) b → StaysConsistent a b
checkpoint_consistent a (Err r) reply b consistent h = absurd (let clash = h.0 in cc)
checkpoint_consistent a (Ok done) reply b consistent (inl h) = subst (StaysConsistent a) (sym h.1) (with_replays a (checkpointed a.desk) consistent refl refl refl consistent.seats (λ at_all. at_all))
checkpoint_consistent a (Ok done) reply b consistent (inr (inl h)) = absurd (let clash = h.0 in cc)
checkpoint_consistent a (Ok done) reply b consistent (inr (inr h)) = absurd (let clash = h.0 in cc)

asked : (a : Archive) (decision : Decision) (reply : Reply) (b : Archive) → IsConsistent a → ((c : Command) → decision ≡ decisions.Accepted c → IsAcceptable a c × IsTrue (is_asked c)) → DecisionEnds a decision (Ok reply) b → StaysConsistent a b
asked a (decisions.Refused r) reply b consistent accepts h = absurd (let clash = h.0 in cc)
asked a (decisions.Answered answer) reply b consistent accepts h = subst (StaysConsistent a) (sym h.1) (unchanged a consistent)
asked a (decisions.Accepted c) reply b consistent accepts h = let is = accepts c refl in subst (StaysConsistent a) (sym h.1) (consistent_after a c (no_append c is.1) consistent is.0)
asked a (decisions.IfBoundary id position decided) reply b consistent accepts h = absurd h

left_consistent : (a x : Archive) (decision : Result Reply Refusal) (reply : Reply) (b : Archive) → ((y : Reply) → decision ≡ Ok y → StaysConsistent a x) → Leaves a x decision (Ok reply) b → StaysConsistent a b
left_consistent a x (Ok answer) reply b kept h = subst (StaysConsistent a) (sym h.1) (kept answer refl)
left_consistent a x (Err r) reply b kept h = absurd (let clash = h.0 in cc)

settled_consistent : (a : Archive) (session : ℤ) (decision : Result Settling Refusal) (reply : Reply) (b : Archive) → IsConsistent a → settle_decision a.desk session ≡ decision → SettlingEnds a session decision (Ok reply) b → StaysConsistent a b
settled_consistent a session (Err r) reply b consistent is h = absurd (let clash = h.0 in cc)
settled_consistent a session (Ok (settling.Nothing position)) reply b consistent is h = subst (StaysConsistent a) (sym h.1) (unchanged a consistent)
settled_consistent a session (Ok (settling.Blocks id w)) reply b consistent is h =
    let by_append = settling_accepted a session id w consistent is in
    let found = settled_session a session id w consistent is by_append.acceptable.written in
    subst (StaysConsistent a) (sym h.1) (settles a session id consistent by_append by_append.acceptable.written found)

opened_consistent : (a : Archive) (id position size : ℤ) (decision : Result Opening Refusal) (reply : Reply) (b : Archive) → IsConsistent a → asked_opening a id (open_decision a.desk id position size) ≡ decision → OpeningEnds a decision (Ok reply) b → StaysConsistent a b
opened_consistent a id position size (Err r) reply b consistent is h = absurd (let clash = h.0 in cc)
opened_consistent a id position size (Ok o) reply b consistent is h = subst (StaysConsistent a) (sym h.1) (opened a id position size o consistent is)

polled_consistent : (a : Archive) (number most : ℤ) (limit : Option ℤ) (replay : OpenReplay) (found : Option Recording) (reply : Reply) (b : Archive) → IsConsistent a → open_replay_in a.desk number ≡ Some replay → recording_at a replay.recording ≡ found
    → PolledEnds a replay most limit found (Ok reply) b → StaysConsistent a b
polled_consistent a number most limit replay None reply b consistent is at h = absurd h
polled_consistent a number most limit replay (Some r) reply b consistent is at h = subst (StaysConsistent a) (sym h.1) (moved a number most (held_to limit replay.bound) replay r consistent is at)

-- what is polled is open
pub polled_open : (d : DeskState) (number most : ℤ) (limit : Option ℤ) (replay : OpenReplay) → poll_decision d number most limit ≡ Ok replay → open_replay_in d number ≡ Some replay
polled_open d number most limit replay is = by (open_replay_in d number) (all_hold (poll_tests d number most limit) checks (open_replay_of (open_replay_in d number)) replay is).1
  where
    by : (found : Option OpenReplay) → open_replay_of found ≡ Ok replay → found ≡ Some replay
    by None e = absurd cc
    by (Some x) e = cc

polling_consistent : (a : Archive) (number most : ℤ) (limit : Option ℤ) (decision : Result OpenReplay Refusal) (reply : Reply) (b : Archive) → IsConsistent a → poll_decision a.desk number most limit ≡ decision → PollingEnds a most limit decision (Ok reply) b → StaysConsistent a b
polling_consistent a number most limit (Err r) reply b consistent is h = absurd (let clash = h.0 in cc)
polling_consistent a number most limit (Ok replay) reply b consistent is h =
    polled_consistent a number most limit replay (recording_at a replay.recording) reply b consistent (polled_open a.desk number most limit replay is) refl h

sweep_consistent : (a : Archive) (decision : Result (Unit {0}) Refusal) (reply : Reply) (b : Archive) → IsConsistent a → SweepEnds a decision (Ok reply) b → StaysConsistent a b
sweep_consistent a (Err r) reply b consistent h = absurd (let clash = h.0 in cc)
sweep_consistent a (Ok done) reply b consistent h = subst (StaysConsistent a) (sym h.1.1) (unchanged a consistent)

answered : (a : Archive) (event : Event) (reply : Reply) (b : Archive) → IsConsistent a → ArchiveEnds a event (Ok reply) b → StaysConsistent a b
answered a (events.Ask request) reply b consistent h = asked a (asked_frames a (decision_of a.desk request)) reply b consistent (λ c is. decided_accepted a request c consistent.agrees is) h
answered a (events.Write session block) reply b consistent (fits, says, h) =
    left_consistent a (written a session block) (write_decision a.desk session (span_of block) fits) reply b (λ y is. wrote a session block consistent (write_allowed a session block fits y consistent says is)) h
answered a (events.Settle session) reply b consistent h = settled_consistent a session (settle_decision a.desk session) reply b consistent refl h
answered a (events.SettleAll sessions) reply b consistent h = left_consistent a (settled_archives sessions a) _ reply b (λ y is. group_settled a sessions y consistent is) h
answered a (events.ReplayOpen id position size) reply b consistent h = opened_consistent a id position size (asked_opening a id (open_decision a.desk id position size)) reply b consistent refl h
answered a (events.ReplayPoll number most) reply b consistent h = polling_consistent a number most None (poll_decision a.desk number most None) reply b consistent refl h
answered a (events.ReplayPollTo number most limit) reply b consistent h = polling_consistent a number most (Some limit) (poll_decision a.desk number most (Some limit)) reply b consistent refl h
answered a (events.ReplayClose number) reply b consistent h = left_consistent a _ (close_decision a.desk number) reply b (λ y is. closed a number consistent) h
answered a events.Sweep reply b consistent h = sweep_consistent a (checked (sweep_tests a.desk) checks (Ok tt)) reply b consistent h
answered a (events.Verify id) reply b consistent h = left_consistent a a _ reply b (λ y is. unchanged a consistent) h
answered a events.Checkpoint reply b consistent h = checkpoint_consistent a (checked (sweep_tests a.desk) checks (Ok tt)) reply b consistent h

refused : (a : Archive) (event : Event) (refusal : Refusal) (b : Archive) → IsConsistent a → ArchiveEnds a event (Err refusal) b → StaysConsistent a b
refused a event refusal b consistent h = subst (StaysConsistent a) (sym (refused_unchanged a event refusal b h)) (unchanged a consistent)

-- a write has failed
pub breaks : (a : Archive) (u : State) → IsConsistent a → StaysConsistent a (broken u a)
breaks a u consistent =
    let kept : IsConsistent (broken u a) = record {
      agrees = consistent.agrees;
      well = consistent.well;
      seats = consistent.seats;
      blocks = each_weaker (λ s. HasBlocks a s s.written) (λ s. HasBlocks (broken u a) s s.written) a.desk.callers.sessions
          (λ s has. blocks_stay a (broken u a) s s.written refl (λ r found. same_recording a (broken u a) s r found) has) consistent.blocks;
      unwritten = consistent.unwritten;
      broken = refl;
    } in
    record { consistent = kept; boundaries = λ at_all. at_all }

left_by_fault : (a : Archive) (event : Event) (b : Archive) → IsConsistent a → LeftByFault a event b → StaysConsistent a b
left_by_fault a event b consistent (inl (reads, same)) = subst (StaysConsistent a) (sym same) (unchanged a consistent)
left_by_fault a event b consistent (inr (writes, (u, makes, same))) = subst (StaysConsistent a) (sym same) (breaks a u consistent)

pub consistent_call : (a : Archive) (event : Event) (outcome : Result Reply Refusal) (b : Archive) → IsConsistent a → CallEnds a event (Unit {0}) outcome b → StaysConsistent a b
consistent_call a event (Ok reply) b consistent ends = answered a event reply b consistent ends
consistent_call a event (Err NoMemory) b consistent ends = elim ends [
  | inl exact ↦ refused a event NoMemory b consistent exact
  | inr same ↦ subst (StaysConsistent a) (sym same) (unchanged a consistent)
]
consistent_call a event (Err DeviceFault) b consistent ends = elim ends [
  | inl exact ↦ refused a event DeviceFault b consistent exact
  | inr out ↦ left_by_fault a event b consistent out.1
]
consistent_call a event (Err refusal) b consistent ends = elim ends [
  | inl exact ↦ refused a event refusal b consistent exact
  | inr out ↦ absurd out
]

-- ---- opening

rise_registrations : (low next : ℤ) (rs : List Recording) → Rise id_of low rs next → Rise register.id_of low (map registration_of rs) next
rise_registrations low next [] rising = rising
rise_registrations low next (r ∷ rs) rising = (rising.0, rise_registrations (id_of r +ℤ pos 1) next rs rising.1)

pub consistent_opened : (s : State) (counted limit : ℕ) (version : BankVersion) → IsWell s → IsConsistent (opened_archive s counted limit version)
consistent_opened s counted limit version well = record {
  agrees = refl;
  well = well;
  seats = keeps_none (register_of s) (rise_registrations (pos 0) s.next s.recordings well.rising);
  blocks = tt;
  unwritten = λ n none. refl;
  broken = refl;
}
