-- What is made of a desk keeps its seats and what is orderly.
use Rattle.std.proofs.Common.{◌≡◌, ◌<◌, ◌+ℤ◌, ◌≤ℤ◌, ◌++◌, ℤ, pos, true, false, refl, sym, subst, [], ◌∷◌, length, not, Option, Some, None}
use Rattle.std.specs.Prelude.{IsSomeAnd, is_some}
use Rattle.frame_core.specs.FrameEncoding.{IsAligned}
use Rattle.archive_model.specs.declared.command.StartFields.{StartFields}
use Rattle.archive_model.specs.declared.registration.Change.TheVariants as changes
use Rattle.archive_model.specs.Checks.{is_boundary_by, is_of}
use Rattle.archive_model.specs.Descriptor.{is_in_range}
use Rattle.archive_model.specs.Keyed.{Rise, change, find, without}
use Rattle.archive_model.specs.Register.{RegisterState, active_count, all_stopped, changed, id_of, is_active, is_later_base, registered, registration_in, with_one, with_out}
use Rattle.control_core.specs.declared.callers.OpenReplay.{OpenReplay}
use Rattle.control_core.specs.declared.callers.RecorderSession.{RecorderSession}
use Rattle.control_core.specs.declared.callers.Written.{Written}
use Rattle.control_core.specs.Callers.{CallersState, moved_to, no_callers, replay_number, session_number}
use Rattle.control_core.specs.Changes.{with_block, with_blocks, with_session, without_callers, without_sessions, written_of}
use Rattle.control_core.specs.Desk.{is_replay_before}
use Rattle.control_core.specs.Orderly.{AreLaid, AreOrderly, KeepsDesk, LiesBehind, ReadsFromStart}
use Rattle.control_core.proofs.DeskLemmas as seats
use Rattle.control_core.proofs.OrderlyLemmas as orderly
use Rattle.control_core.proofs.LaidLemmas.{all_stopped_laid}
use Rattle.std.specs.List.{list_any}
use Rattle.archive_model.proofs.RegisterLemmas.{found_number}

pub kept_begun : (g : RegisterState) (c : CallersState) (f : StartFields) → is_in_range f ≡ true → active_count g < 64 → KeepsDesk g c → KeepsDesk (with_one (registered g.next f) g) (with_session g.next c)
kept_begun g c f range few keeps = record { seats = seats.keeps_begun g c (registered g.next f) refl refl few keeps.seats; orderly = orderly.begun g c f keeps.orderly range }

pub kept_extended : (g : RegisterState) (c : CallersState) (id session_id : ℤ) → is_of (registration_in g id) (λ r. not (is_active r)) ≡ true → active_count g < 64 → KeepsDesk g c → KeepsDesk (changed id (changes.Extend session_id) g) (with_session id c)
kept_extended g c id session_id stopped few keeps = record { seats = seats.keeps_extended g c id session_id stopped few keeps.seats; orderly = orderly.extended g c id session_id keeps.orderly }

pub kept_stopped : (g : RegisterState) (c : CallersState) (id timestamp : ℤ) → KeepsDesk g c → KeepsDesk (changed id (changes.Stop timestamp) g) (without_sessions id c)
kept_stopped g c id timestamp keeps = record { seats = seats.keeps_stopped g c id timestamp keeps.seats; orderly = orderly.stopped g c id timestamp keeps.orderly }

pub kept_truncated : (g : RegisterState) (c : CallersState) (id position : ℤ) → is_of (registration_in g id) (is_boundary_by true position) ≡ true → IsAligned position → KeepsDesk g c → KeepsDesk (changed id (changes.Truncate position) g) (without_sessions id c)
kept_truncated g c id position boundary aligned keeps = record { seats = seats.keeps_truncated g c id position keeps.seats; orderly = orderly.truncated g c id position keeps.orderly boundary aligned }

pub kept_purged : (g : RegisterState) (c : CallersState) (id position : ℤ) → is_of (registration_in g id) (is_later_base position) ≡ true → list_any (is_replay_before id position) c.replays ≡ false → KeepsDesk g c
    → KeepsDesk (changed id (changes.PurgeSegments position) g) c
kept_purged g c id position base unread keeps = record { seats = seats.keeps_purged g c id position keeps.seats; orderly = orderly.purged g c id position keeps.orderly base unread }

pub kept_removed : (g : RegisterState) (c : CallersState) (id : ℤ) → KeepsDesk g c → KeepsDesk (with_out id g) (without_callers id c)
kept_removed g c id keeps = record { seats = seats.keeps_removed g c id keeps.seats; orderly = orderly.removed g c id keeps.orderly }

pub kept_restarted : (g : RegisterState) (c : CallersState) → KeepsDesk g c → KeepsDesk (all_stopped g) no_callers
kept_restarted g c keeps = record { seats = seats.keeps_restarted g c keeps.seats; orderly = orderly.nobody (all_stopped g) (all_stopped_laid g keeps.orderly.register) }

pub kept_none : (g : RegisterState) → Rise id_of (pos 0) g.recordings g.next → AreLaid g → KeepsDesk g no_callers
kept_none g rising laid = record { seats = seats.keeps_none g rising; orderly = orderly.nobody g laid }

-- a session that was found writes a block more
wrote_behind : (g : RegisterState) (found : Option RecorderSession) (block : Written) → IsSomeAnd found (λ s. IsSomeAnd (registration_in g s.recording) (LiesBehind (with_block block s.written)))
    → IsSomeAnd found (λ s. IsSomeAnd (registration_in g s.recording) (LiesBehind (with_block block (written_of found))))
wrote_behind g None block lies = absurd lies
wrote_behind g (Some s) block lies = lies

pub kept_written : (g : RegisterState) (c : CallersState) (n : ℤ) (block : Written) → IsSomeAnd (find session_number n c.sessions) (λ s. IsSomeAnd (registration_in g s.recording) (LiesBehind (with_block block s.written))) → KeepsDesk g c
    → KeepsDesk g (with_blocks n (Some (with_block block (written_of (find session_number n c.sessions)))) c)
kept_written g c n block lies keeps =
    let w = with_block block (written_of (find session_number n c.sessions)) in
    record { seats = seats.keeps_written g c n (Some w) keeps.seats; orderly = orderly.wrote g c n w keeps.orderly (wrote_behind g (find session_number n c.sessions) block lies) }

-- what the session of a number wrote is recorded
pub kept_settled : (g : RegisterState) (c : CallersState) (n : ℤ) (s : RecorderSession) (w : Written) → find session_number n c.sessions ≡ Some s → s.written ≡ Some w → KeepsDesk g c → KeepsDesk (changed s.recording (changes.Settle w.last) g) (with_blocks n None c)
kept_settled g c n s w found has keeps =
    let number : s.number ≡ n = found_number session_number n c.sessions s found in
    let there : find session_number s.number c.sessions ≡ Some s = subst (λ (m : ℤ). find session_number m c.sessions ≡ Some s) (sym number) found in
    record {
      seats = seats.keeps_settled g c s.recording w.last n keeps.seats;
      orderly = subst (λ (m : ℤ). AreOrderly (changed s.recording (changes.Settle w.last) g) (with_blocks m None c)) number (orderly.settled_one g c s w keeps.orderly keeps.seats there has);
    }

-- what the first session that writes a recording wrote is recorded
pub kept_appended : (g : RegisterState) (c : CallersState) (id : ℤ) (s : RecorderSession) (w : Written) → find (λ x. x.recording) id c.sessions ≡ Some s → s.written ≡ Some w → KeepsDesk g c → KeepsDesk (changed s.recording (changes.Settle w.last) g) (with_blocks s.number None c)
kept_appended g c id s w found has keeps =
    kept_settled g c s.number s w (orderly.found_by_number session_number (λ x. x.recording) (pos 0) c.next_session id c.sessions s keeps.seats.sessions.rising found) has keeps

pub kept_moved : (g : RegisterState) (c : CallersState) (n position : ℤ) → IsSomeAnd (find replay_number n c.replays) (λ it. it.next ≤ℤ position) → KeepsDesk g c → KeepsDesk g (record c { replays = change replay_number n (moved_to position) c.replays })
kept_moved g c n position further keeps = record { seats = seats.keeps_moved g c n position keeps.seats; orderly = orderly.moved g c n position keeps.orderly further }

pub kept_closed : (g : RegisterState) (c : CallersState) (n : ℤ) → KeepsDesk g c → KeepsDesk g (record c { replays = without replay_number n c.replays })
kept_closed g c n keeps = record { seats = seats.keeps_closed g c n keeps.seats; orderly = orderly.closed g c n keeps.orderly }

pub kept_opened : (g : RegisterState) (c : CallersState) (r : OpenReplay) → replay_number r ≡ c.next_replay → length c.replays < 64 → is_some (registration_in g r.recording) ≡ true → ReadsFromStart g r → KeepsDesk g c
    → KeepsDesk g (record c { replays = c.replays ++ r ∷ []; next_replay = c.next_replay +ℤ pos 1 })
kept_opened g c r is few there reads keeps = record { seats = seats.keeps_opened g c r is few there keeps.seats; orderly = orderly.opened g c r keeps.orderly reads }
