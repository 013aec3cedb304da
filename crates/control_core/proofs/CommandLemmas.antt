-- An archive that is consistent still is after an accepted command that is no append.
use Rattle.std.proofs.Common.{◌≡◌, ◌≢◌, ◌⊎◌, ◌≤ℤ◌, ◌&&◌, inl, inr, not, ℤ, pos, Bool, true, false, List, [], ◌∷◌, filter, Some, None, refl, sym, ap, subst, ◌∙◌, true≢false, int_le}
use Rattle.std.specs.Prelude.{IsFalse, is_some}
use Rattle.std.specs.Ordering.{int_eq}
use Rattle.std.proofs.lemmas.Bool.Decides.{Decides-int_eq}
use Rattle.frame_core.specs.declared.block.Block.{Block}
use Rattle.archive_model.specs.declared.command.ExtendFields.{ExtendFields}
use Rattle.archive_model.specs.declared.command.Command.{Command}
use Rattle.archive_model.specs.declared.command.Command.TheVariants as commands
use Rattle.archive_model.specs.Keyed.{Each, find}
use Rattle.archive_model.specs.Register.{is_active, registered, registration_in}
use Rattle.archive_model.specs.State.{Recording, State, id_of}
use Rattle.archive_model.specs.Checks.{is_of}
use Rattle.archive_model.specs.Commands.{after, extended, fresh, purged, stopped, truncated}
use Rattle.archive_model.specs.WellFormed.{IsKept}
use Rattle.archive_model.proofs.CommandsLemmas.{find_changed, find_kept, find_other, find_push}
use Rattle.archive_model.proofs.RegisterLemmas.{each_push, found_number}
use Rattle.archive_model.proofs.StateLemmas.{base_of_purge, each_found, purged_ends, well_after}
use Rattle.control_core.specs.declared.callers.OpenReplay.{OpenReplay}
use Rattle.control_core.specs.declared.callers.RecorderSession.{RecorderSession}
use Rattle.control_core.specs.Callers.{session_number}
use Rattle.control_core.specs.Desk.{DeskState, is_replay_before, is_replay_of, is_replayed}
use Rattle.control_core.specs.Changes.{begun_session, desk_after, is_session_of}
use Rattle.control_core.specs.Decisions.{Allows}
use Rattle.control_core.specs.Turns.{session_in}
use Rattle.control_core.specs.Seats.{IsWriting, KeepsSeats}
use Rattle.control_core.specs.Exact.{Archive, archive_after, blocks_of_open, book_of, recording_at}
use Rattle.control_core.specs.Consistent.{AreAtBoundaries, HasBlocks, IsAcceptable, IsAtBoundary, IsConsistent, IsSameOrLater, RecordingStays, StaysConsistent, StaysOpen, WroteNothing, is_append}
use Rattle.control_core.proofs.AgreementLemmas.{agrees}
use Rattle.control_core.proofs.AllowedLemmas.{extend_few, extend_stopped, purge_unread, start_few, truncate_unread}
use Rattle.control_core.proofs.BoundaryLemmas.{boundary_purged}
use Rattle.control_core.proofs.DeskLemmas.{keeps_begun, keeps_extended, keeps_purged, keeps_removed, keeps_restarted, keeps_stopped, keeps_truncated, not_both, not_same, other_replay, other_session}
use Rattle.control_core.proofs.FoundLemmas.{each_both, each_filter, each_weaker}
use Rattle.control_core.proofs.PollLemmas.{le_true}
use Rattle.control_core.proofs.StayLemmas.{GoOnAlike, GoesOn, at_changed, at_same, blocks_stay, each_itself, is_at, goes_on_at, none_next, none_passes, open_blocks, same_recording}

-- ---- the seats

pub seats_after : (d : DeskState) (c : Command) → IsFalse (is_append c) → Allows d c → KeepsSeats d.register d.callers → KeepsSeats (desk_after d c).register (desk_after d c).callers
seats_after d (commands.Start f) none allows keeps = keeps_begun d.register d.callers (registered d.register.next f) refl refl (start_few d f allows) keeps
seats_after d (commands.Append id blocks) none allows keeps = absurd (true≢false none)
seats_after d (commands.Stop id timestamp) none allows keeps = keeps_stopped d.register d.callers id timestamp keeps
seats_after d (commands.Extend f) none allows keeps = keeps_extended d.register d.callers f.recording f.session_id (extend_stopped d f allows) (extend_few d f allows) keeps
seats_after d (commands.Truncate id position) none allows keeps = keeps_truncated d.register d.callers id position keeps
seats_after d (commands.PurgeSegments id position) none allows keeps = keeps_purged d.register d.callers id position keeps
seats_after d (commands.PurgeRecording id) none allows keeps = keeps_removed d.register d.callers id keeps
seats_after d commands.Restart none allows keeps = keeps_restarted d.register d.callers keeps

-- ---- what sessions wrote

-- the archive after a command, with all blocks
abbrev pub with_all : Archive → Command → Archive
with_all a c = record a { state = after a.state c; desk = desk_after a.desk c }

-- a session whose recording is found as it was
stays_same : (a : Archive) (t : State) (s : RecorderSession) → session_in a.desk s.number ≡ Some s → ((r : Recording) → recording_at a s.recording ≡ Some r → find id_of s.recording t.recordings ≡ Some r) → StaysOpen a t s
stays_same a t s was same = record { was = was; stays = λ r found. record { new = r; found = same r found; is = inl refl } }

abbrev pub Goes : Archive → Command → RecorderSession → Type 0
Goes a c s = StaysOpen a (after a.state c) s ⊎ WroteNothing a s

-- each session is the one of its number
abbrev pub Itself : Archive → RecorderSession → Type 0
Itself a s = session_in a.desk s.number ≡ Some s

themselves : (a : Archive) → IsConsistent a → Each (Itself a) a.desk.callers.sessions
themselves a consistent = each_itself (pos 0) a.desk.callers.next_session a.desk.callers.sessions consistent.seats.sessions.rising

begun_none : (a : Archive) (id : ℤ) → IsConsistent a → WroteNothing a (begun_session a.desk.callers.next_session id)
begun_none a id consistent = (refl, consistent.unwritten a.desk.callers.next_session (none_next (pos 0) a.desk.callers.next_session a.desk.callers.sessions consistent.seats.sessions.rising))

-- sessions of other recordings, which a change leaves as they are
ended_stay : (a : Archive) (c : Command) (id : ℤ) → IsConsistent a → ((n : ℤ) → int_eq n id ≡ false → find id_of n (after a.state c).recordings ≡ recording_at a n)
    → Each (Goes a c) (filter (λ s. not (is_session_of id s)) a.desk.callers.sessions)
ended_stay a c id consistent same =
    each_filter (Itself a) (Goes a c) (λ s. not (is_session_of id s)) a.desk.callers.sessions
    (λ s other was. inl (stays_same a (after a.state c) s was (λ r found. same s.recording (other_session id s other) ∙ found))) (themselves a consistent)

extended_stays : (a : Archive) (f : ExtendFields) → is_of (registration_in a.desk.register f.recording) (λ r. not (is_active r)) ≡ true
    → (s : RecorderSession) → IsWriting a.desk.register s → Itself a s → Goes a (commands.Extend f) s
extended_stays a f off s writes was =
    let differs : s.recording ≢ f.recording = λ is. not_both (registration_in a.desk.register f.recording) (subst (λ (z : ℤ). is_of (registration_in a.desk.register z) is_active ≡ true) is writes) off in
    inl (stays_same a (after a.state (commands.Extend f)) s was
    (λ r found. find_other s.recording f.recording (extended f.session_id) (λ x. refl) (not_same s.recording f.recording differs) a.state.recordings ∙ found))

-- the start of a recording moves, and its blocks go on where they did
purged_stays : (a : Archive) (id position : ℤ) → IsAcceptable a (commands.PurgeSegments id position) → (s : RecorderSession) → Itself a s → Goes a (commands.PurgeSegments id position) s
purged_stays a id position acceptable s was = inl (record { was = was; stays = stays })
  where
    t : State
    t = after a.state (commands.PurgeSegments id position)

    stays : (r : Recording) → recording_at a s.recording ≡ Some r → RecordingStays t s r
    stays r found = elim (find_changed s.recording id (purged position) (λ x. refl) a.state.recordings r found) [
      | inl this ↦ record { new = purged position r; found = this.1; is = inr (position, base_of_purge (book_of a) id position r acceptable.accepted this.0, refl) }
      | inr that ↦ record { new = r; found = that; is = inl refl }
    ]

-- what becomes of the sessions
pub sessions_stay : (a : Archive) (c : Command) → IsFalse (is_append c) → IsConsistent a → IsAcceptable a c → Each (Goes a c) (desk_after a.desk c).callers.sessions
sessions_stay a (commands.Start f) none consistent acceptable =
    let t = after a.state (commands.Start f) in
    each_push (Goes a (commands.Start f)) a.desk.callers.sessions (begun_session a.desk.callers.next_session a.desk.register.next)
    (each_weaker (Itself a) (Goes a (commands.Start f)) a.desk.callers.sessions
    (λ s was. inl (stays_same a t s was (λ r found. find_push s.recording a.state.recordings (fresh a.state.next f ∷ []) r found))) (themselves a consistent))
    (inr (begun_none a a.desk.register.next consistent))
sessions_stay a (commands.Append id blocks) none consistent acceptable = absurd (true≢false none)
sessions_stay a (commands.Stop id timestamp) none consistent acceptable =
    ended_stay a (commands.Stop id timestamp) id consistent (λ n other. find_other n id (stopped timestamp) (λ r. refl) other a.state.recordings)
sessions_stay a (commands.Extend f) none consistent acceptable =
    each_push (Goes a (commands.Extend f)) a.desk.callers.sessions (begun_session a.desk.callers.next_session f.recording)
    (each_both (IsWriting a.desk.register) (Itself a) (Goes a (commands.Extend f)) a.desk.callers.sessions
    (extended_stays a f (extend_stopped a.desk f acceptable.allowed)) consistent.seats.sessions.writing (themselves a consistent))
    (inr (begun_none a f.recording consistent))
sessions_stay a (commands.Truncate id position) none consistent acceptable =
    ended_stay a (commands.Truncate id position) id consistent (λ n other. find_other n id (truncated position) (λ r. refl) other a.state.recordings)
sessions_stay a (commands.PurgeSegments id position) none consistent acceptable =
    each_weaker (Itself a) (Goes a (commands.PurgeSegments id position)) a.desk.callers.sessions (purged_stays a id position acceptable) (themselves a consistent)
sessions_stay a (commands.PurgeRecording id) none consistent acceptable =
    ended_stay a (commands.PurgeRecording id) id consistent (λ n other. find_kept n id other a.state.recordings)
sessions_stay a commands.Restart none consistent acceptable = tt

alike_of : (r new : Recording) → IsKept r → IsSameOrLater r new → GoOnAlike r new
alike_of r new kept (inl same) = subst (GoOnAlike r) (sym same) (record { geometry = refl; publication = refl; recorded = refl })
alike_of r new kept (inr (position, base, is)) = subst (GoOnAlike r) (sym is) (record { geometry = refl; publication = refl; recorded = purged_ends r position kept base })

-- a session that stays open has its blocks still
pub still_blocks : (a b : Archive) (s : RecorderSession) → IsConsistent a → StaysOpen a b.state s → b.blocks s.number ≡ a.blocks s.number → HasBlocks b s s.written
still_blocks a b s consistent stays same =
    blocks_stay a b s s.written same goes_on (each_found session_number (λ x. HasBlocks a x x.written) s.number a.desk.callers.sessions s consistent.blocks stays.was)
  where
    goes_on : (r : Recording) → recording_at a s.recording ≡ Some r → GoesOn a b s r
    goes_on r found =
        let on = stays.stays r found in
        record { new = on.new; found = on.found; alike = alike_of r on.new (each_found id_of IsKept s.recording a.state.recordings r consistent.well.kept found) on.is }

pub no_blocks : (b : Archive) (s : RecorderSession) → s.written ≡ None → b.blocks s.number ≡ [] → HasBlocks b s s.written
no_blocks b s none nothing = subst (HasBlocks b s) (sym none) nothing

pub blocks_after : (a : Archive) (c : Command) → IsFalse (is_append c) → IsConsistent a → IsAcceptable a c → Each (λ s. HasBlocks (with_all a c) s s.written) (desk_after a.desk c).callers.sessions
blocks_after a c none consistent acceptable =
    each_weaker (Goes a c) (λ s. HasBlocks (with_all a c) s s.written) (desk_after a.desk c).callers.sessions
    (λ s goes. elim goes [
      | inl stays ↦ still_blocks a (with_all a c) s consistent stays refl
      | inr nothing ↦ no_blocks (with_all a c) s nothing.0 nothing.1
    ]) (sessions_stay a c none consistent acceptable)

-- only open sessions have blocks
only_open : (a : Archive) (c : Command) → KeepsSeats (desk_after a.desk c).register (desk_after a.desk c).callers
    → Each (λ s. HasBlocks (with_all a c) s s.written) (desk_after a.desk c).callers.sessions → Each (λ s. HasBlocks (archive_after a c) s s.written) (desk_after a.desk c).callers.sessions
only_open a c seats all =
    let d = desk_after a.desk c in
    each_both (λ s. session_in d s.number ≡ Some s) (λ s. HasBlocks (with_all a c) s s.written) (λ s. HasBlocks (archive_after a c) s s.written) d.callers.sessions
    (λ s there has. blocks_stay (with_all a c) (archive_after a c) s s.written (open_blocks d a.blocks s.number (ap is_some there)) (λ r found. same_recording (with_all a c) (archive_after a c) s r found) has)
    (each_itself (pos 0) d.callers.next_session d.callers.sessions seats.sessions.rising) all

none_open : (d : DeskState) (all : ℤ → List Block) (n : ℤ) → session_in d n ≡ None → blocks_of_open d all n ≡ []
none_open d all n none = rw none refl

-- ---- where replays go on

unread : (d : DeskState) (id : ℤ) → not (is_replayed d id) ≡ true → Each (λ r. int_eq r.recording id ≡ false) d.callers.replays
unfolding is_replay_of
unread d id none = none_passes (is_replay_of id) d.callers.replays none

-- a replay of the recording goes on at or behind the position
abbrev pub IsBehind : ℤ → ℤ → OpenReplay → Type 0
IsBehind id position r = r.recording ≡ id → position ≤ℤ r.next

read_behind : (id position : ℤ) (r : OpenReplay) → is_replay_before id position r ≡ false → IsBehind id position r
unfolding is_replay_before
read_behind id position r before same = by (int_le position r.next) refl
  where
    by : (b : Bool) → int_le position r.next ≡ b → position ≤ℤ r.next
    by true is = le_true position r.next is
    by false is =
        let here : int_eq r.recording id ≡ true = (Decides-int_eq r.recording id).1 same in
        let told : (int_eq r.recording id && not (int_le position r.next)) ≡ true = rw (here, is) refl in absurd (true≢false (sym told ∙ before))

abbrev pub StayAt : Archive → Command → Type 0
StayAt a c = Each (IsAtBoundary (after a.state c)) (desk_after a.desk c).callers.replays

pub boundaries_after : (a : Archive) (c : Command) → IsFalse (is_append c) → IsConsistent a → AreAtBoundaries a → IsAcceptable a c → StayAt a c
boundaries_after a (commands.Start f) none consistent at_all acceptable =
    each_weaker (IsAtBoundary a.state) (IsAtBoundary (after a.state (commands.Start f))) a.desk.callers.replays
    (λ r at. let old = goes_on_at a.state r at in is_at (after a.state (commands.Start f)) r old.recording (find_push r.recording a.state.recordings (fresh a.state.next f ∷ []) old.recording old.found) old.boundary) at_all
boundaries_after a (commands.Append id blocks) none consistent at_all acceptable = absurd (true≢false none)
boundaries_after a (commands.Stop id timestamp) none consistent at_all acceptable =
    each_weaker (IsAtBoundary a.state) (IsAtBoundary (after a.state (commands.Stop id timestamp))) a.desk.callers.replays
    (λ r at. at_changed a.state r id (stopped timestamp) (λ x. refl) (λ x found this boundary. boundary) at) at_all
boundaries_after a (commands.Extend f) none consistent at_all acceptable =
    each_weaker (IsAtBoundary a.state) (IsAtBoundary (after a.state (commands.Extend f))) a.desk.callers.replays
    (λ r at. at_changed a.state r f.recording (extended f.session_id) (λ x. refl) (λ x found this boundary. boundary) at) at_all
boundaries_after a (commands.Truncate id position) none consistent at_all acceptable =
    each_both (λ r. int_eq r.recording id ≡ false) (IsAtBoundary a.state) (IsAtBoundary (after a.state (commands.Truncate id position))) a.desk.callers.replays
    (λ r other at. at_same a.state (after a.state (commands.Truncate id position)) r (find_other r.recording id (truncated position) (λ x. refl) other a.state.recordings) at)
    (unread a.desk id (truncate_unread a.desk id position acceptable.allowed)) at_all
boundaries_after a (commands.PurgeSegments id position) none consistent at_all acceptable =
    each_both (λ r. is_replay_before id position r ≡ false) (IsAtBoundary a.state) (IsAtBoundary (after a.state (commands.PurgeSegments id position))) a.desk.callers.replays
    (λ r before at.
    at_changed a.state r id (purged position) (λ x. refl)
    (λ x found this boundary.
    let same : r.recording ≡ id = sym (found_number id_of r.recording a.state.recordings x found) ∙ found_number id_of id a.state.recordings x this in
    boundary_purged x position r.next (each_found id_of IsKept id a.state.recordings x consistent.well.kept this) (base_of_purge (book_of a) id position x acceptable.accepted this)
    (read_behind id position r before same) boundary) at)
    (none_passes (is_replay_before id position) a.desk.callers.replays (purge_unread a.desk id position acceptable.allowed)) at_all
boundaries_after a (commands.PurgeRecording id) none consistent at_all acceptable =
    each_filter (IsAtBoundary a.state) (IsAtBoundary (after a.state (commands.PurgeRecording id))) (λ r. not (is_replay_of id r)) a.desk.callers.replays
    (λ r other at. at_same a.state (after a.state (commands.PurgeRecording id)) r (find_kept r.recording id (other_replay id r other) a.state.recordings) at) at_all
boundaries_after a commands.Restart none consistent at_all acceptable = tt

-- ---- the archive

-- no command but an append mends a desk or breaks it
pub still_broken : (d : DeskState) (c : Command) → IsFalse (is_append c) → (desk_after d c).is_broken ≡ d.is_broken
still_broken d (commands.Start f) none = refl
still_broken d (commands.Append id blocks) none = absurd (true≢false none)
still_broken d (commands.Stop id timestamp) none = refl
still_broken d (commands.Extend f) none = refl
still_broken d (commands.Truncate id position) none = refl
still_broken d (commands.PurgeSegments id position) none = refl
still_broken d (commands.PurgeRecording id) none = refl
still_broken d commands.Restart none = refl

pub consistent_after : (a : Archive) (c : Command) → IsFalse (is_append c) → IsConsistent a → IsAcceptable a c → StaysConsistent a (archive_after a c)
consistent_after a c none consistent acceptable =
    let seats = seats_after a.desk c none acceptable.allowed consistent.seats in
    record {
      consistent = record {
        agrees = agrees a.desk (book_of a) c consistent.agrees acceptable.written consistent.well acceptable.accepted;
        well = well_after (book_of a) c consistent.well acceptable.accepted;
        seats = seats;
        blocks = only_open a c seats (blocks_after a c none consistent acceptable);
        unwritten = λ n gone. none_open (desk_after a.desk c) a.blocks n gone;
        broken = still_broken a.desk c none ∙ consistent.broken;
      };
      boundaries = λ at_all. boundaries_after a c none consistent at_all acceptable;
    }
