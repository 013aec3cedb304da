-- What becomes of the desk. docs/CONTROL.md, "Control state" and "Requests".
use Rattle.std.specs.Prelude.{◌+ℤ◌, ◌+◌, ◌++◌, not, ℤ, pos, Bool, true, [], ◌∷◌, List, filter, Option, Some, None}
use Rattle.std.specs.Ordering.{int_eq}
use Rattle.archive_model.specs.declared.command.Command.{Command}
use Rattle.archive_model.specs.declared.command.Command.TheVariants.{Start, Append, Stop, Extend, Truncate, PurgeSegments, PurgeRecording, Restart}
use Rattle.archive_model.specs.declared.registration.Registration.{Registration}
use Rattle.archive_model.specs.declared.version.BankVersion.TheVariants.{Two}
use Rattle.archive_model.specs.declared.registration.Change.TheVariants as changes
use Rattle.archive_model.specs.declared.reply.Reply.{Reply}
use Rattle.archive_model.specs.declared.reply.Reply.TheVariants as replies
use Rattle.archive_model.specs.Keyed.{find, change, without}
use Rattle.archive_model.specs.Register.{RegisterState, active_count, all_stopped, changed, registered, registration_in, segments_before, with_one, with_out}
use Rattle.control_core.specs.declared.callers.RecorderSession.{RecorderSession}
use Rattle.control_core.specs.declared.callers.Written.{Written}
use Rattle.control_core.specs.Callers.{CallersState, moved_to, no_callers, replay_number, session_number, with_written, written_to}
use Rattle.control_core.specs.Desk.{DeskState, is_replay_of}

-- ---- sessions and replays

-- the session writes the recording of an id
abbrev pub is_session_of : ℤ → RecorderSession → Bool
is_session_of id s = int_eq s.recording id

-- a session that wrote nothing yet
abbrev pub begun_session : ℤ → ℤ → RecorderSession
begun_session number id = record { number = number; recording = id; written = None }

-- one session more, of the recording of an id
abbrev pub with_session : ℤ → CallersState → CallersState
with_session id c = record c { sessions = c.sessions ++ begun_session c.next_session id ∷ []; next_session = c.next_session +ℤ pos 1 }

-- no session writes the recording of an id
abbrev pub without_sessions : ℤ → CallersState → CallersState
without_sessions id c = record c { sessions = filter (λ s. not (is_session_of id s)) c.sessions }

-- no session writes the recording of an id, and no replay gives it
abbrev pub without_callers : ℤ → CallersState → CallersState
without_callers id c = record (without_sessions id c) { replays = filter (λ r. not (is_replay_of id r)) c.replays }

-- what the session of a number has written
abbrev pub with_blocks : ℤ → Option Written → CallersState → CallersState
with_blocks number written c = record c { sessions = change session_number number (with_written written) c.sessions }

-- one replay more
abbrev pub with_replay : ℤ → ℤ → ℤ → CallersState → CallersState
with_replay id next bound c = record c {
  replays = c.replays ++ record { number = c.next_replay; recording = id; next = next; bound = bound } ∷ [];
  next_replay = c.next_replay +ℤ pos 1;
}

-- ---- accepted commands

-- one entry of the history more
abbrev pub entered : RegisterState → CallersState → DeskState → DeskState
entered register callers d = record d { register = register; callers = callers; counted = d.counted + 1 }

-- what a session wrote is recorded, as one entry; where it wrote nothing, nothing changes
abbrev pub settled_by : RecorderSession → Option Written → DeskState → DeskState
settled_by s None d = d
settled_by s (Some w) d = entered (changed s.recording (changes.Settle w.last) d.register) (with_blocks s.number None d.callers) d

abbrev pub settled : Option RecorderSession → DeskState → DeskState
settled None d = d
settled (Some s) d = settled_by s s.written d

-- what each of these sessions wrote is recorded, one after another, one entry each; where one wrote nothing or is not open,
-- nothing changes
abbrev pub settled_each : List ℤ → DeskState → DeskState
settled_each [] d = d
settled_each (n ∷ ns) d = settled_each ns (settled (find session_number n d.callers.sessions) d)

-- the recorder session that writes a recording
abbrev pub writer_in : DeskState → ℤ → Option RecorderSession
writer_in d id = find (λ s. s.recording) id d.callers.sessions

-- The desk after an accepted command. What is recorded by an append is what the recording's session wrote. A recording
-- that isn't active has no session, and one that is gone no replay. An opening has neither.
abbrev pub desk_after : DeskState → Command → DeskState
desk_after d (Start f) = entered (with_one (registered d.register.next f) d.register) (with_session d.register.next d.callers) d
desk_after d (Append id blocks) = settled (writer_in d id) d
desk_after d (Stop id timestamp) = entered (changed id (changes.Stop timestamp) d.register) (without_sessions id d.callers) d
desk_after d (Extend f) = entered (changed f.recording (changes.Extend f.session_id) d.register) (with_session f.recording d.callers) d
desk_after d (Truncate id position) = entered (changed id (changes.Truncate position) d.register) (without_sessions id d.callers) d
desk_after d (PurgeSegments id position) = entered (changed id (changes.PurgeSegments position) d.register) d.callers d
desk_after d (PurgeRecording id) = entered (with_out id d.register) (without_callers id d.callers) d
desk_after d Restart = record d { register = all_stopped d.register; callers = no_callers }

-- ---- what an accepted command answers

abbrev pub recorded_of : Option Registration → ℤ
recorded_of None = pos 0
recorded_of (Some r) = r.recorded

abbrev pub segments_of : Option Registration → ℤ → ℤ
segments_of None position = pos 0
segments_of (Some r) position = segments_before position r

-- where a session's next block begins: where what it wrote ends, or what is recorded where it wrote nothing
abbrev pub next_position : DeskState → RecorderSession → ℤ
next_position d s = written_to s.written (recorded_of (registration_in d.register s.recording))

-- up to where a session's recording is recorded once what it wrote is
abbrev pub settled_position : DeskState → Option RecorderSession → ℤ
settled_position d None = pos 0
settled_position d (Some s) = next_position d s

-- up to where the recording of a session is recorded then, if the session is open
abbrev pub position_of : DeskState → Option RecorderSession → Option ℤ
position_of d None = None
position_of d (Some s) = Some (next_position d s)

-- up to where the recording of each of these sessions is recorded, once what they wrote is, one after another
abbrev pub positions_each : List ℤ → DeskState → List (Option ℤ)
positions_each [] d = []
positions_each (n ∷ ns) d = let found = find session_number n d.callers.sessions in position_of d found ∷ positions_each ns (settled found d)

-- each of these sessions as it is when its turn comes, if it is open
abbrev pub sessions_each : List ℤ → DeskState → List (Option RecorderSession)
sessions_each [] d = []
sessions_each (n ∷ ns) d = let found = find session_number n d.callers.sessions in found ∷ sessions_each ns (settled found d)

abbrev pub reply_after : DeskState → Command → Reply
reply_after d (Start f) = replies.Started d.register.next d.callers.next_session
reply_after d (Append id blocks) = replies.Settled (settled_position d (writer_in d id))
reply_after d (Stop id timestamp) = replies.Stopped (recorded_of (registration_in d.register id))
reply_after d (Extend f) = replies.Extended d.callers.next_session
reply_after d (Truncate id position) = replies.Truncated position
reply_after d (PurgeSegments id position) = replies.Purged (segments_of (registration_in d.register id) position)
reply_after d (PurgeRecording id) = replies.PurgedRecording
reply_after d Restart = replies.Reopened (pos (active_count d.register))

-- ---- the other calls

-- what was written, with one block more
abbrev pub with_block : Written → Option Written → Written
with_block block None = block
with_block block (Some w) = record w { last = block.last }

-- what a session that was found has written
abbrev pub written_of : Option RecorderSession → Option Written
written_of None = None
written_of (Some s) = s.written

-- the session of a number wrote a block
abbrev pub after_write : ℤ → Written → DeskState → DeskState
after_write number block d = record d { callers = with_blocks number (Some (with_block block (written_of (find session_number number d.callers.sessions)))) d.callers }

abbrev pub after_open : ℤ → ℤ → ℤ → DeskState → DeskState
after_open id next bound d = record d { callers = with_replay id next bound d.callers }

-- a replay goes on from a position
abbrev pub after_poll : ℤ → ℤ → DeskState → DeskState
after_poll number next d = record d { callers = record d.callers { replays = change replay_number number (moved_to next) d.callers.replays } }

abbrev pub after_close : ℤ → DeskState → DeskState
after_close number d = record d { callers = record d.callers { replays = without replay_number number d.callers.replays } }

-- the catalogue was written anew by a checkpoint: an entry counts for each active recording, and its bank is of version 2
abbrev pub checkpointed : DeskState → DeskState
checkpointed d = record d { counted = active_count d.register; version = Two }

-- a write has failed
abbrev pub broken_desk : DeskState → DeskState
broken_desk d = record d { is_broken = true }
