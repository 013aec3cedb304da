-- What the desk's values keep beside what they show. docs/CONTROL.md, "Control state".
use Rattle.std.specs.Prelude.{◌≡◌, ◌≢◌, ◌≤◌, ◌<◌, ℕ, ℤ, pos, List, [], ◌∷◌, length, Some, IsTrue, true}
use Rattle.archive_model.specs.declared.command.Command.{Command}
use Rattle.archive_model.specs.declared.command.Command.TheVariants.{Start, Append, Stop, Extend, Truncate, PurgeSegments, PurgeRecording, Restart}
use Rattle.archive_model.specs.Keyed.{Each, Rise, find}
use Rattle.archive_model.specs.Numbered.{IsIndexOf}
use Rattle.archive_model.specs.Register.{RegisterState, id_of, is_active, registration_in}
use Rattle.archive_model.specs.Checks.{is_of}
use Rattle.control_core.specs.declared.callers.RecorderSession.{RecorderSession}
use Rattle.control_core.specs.declared.callers.FoundReplay.{FoundReplay}
use Rattle.control_core.specs.declared.callers.FoundSession.{FoundSession}
use Rattle.control_core.specs.declared.callers.OpenReplay.{OpenReplay}
use Rattle.control_core.specs.declared.callers.Reader.{Reader}
use Rattle.control_core.specs.declared.callers.Writer.{Writer}
use Rattle.control_core.specs.Callers.{CallersState, replay_number, session_number}
use Rattle.control_core.specs.Desk.{DeskState}

-- the open sessions by rising number, the next number, and how many more there is memory for
pub record SessionsView : Type 0 where
  pub values : List RecorderSession
  pub next : ℤ
  pub room : ℕ

-- the open replays by rising number, the next number, and how many more there is memory for
pub record ReplaysView : Type 0 where
  pub values : List OpenReplay
  pub next : ℤ
  pub room : ℕ

-- the session of a number, where it stands
pub record IsFoundSession (number : ℤ) (ss : List RecorderSession) (f : FoundSession) : Type 0 where
  pub session : find session_number number ss ≡ Some f.session
  pub stands : IsIndexOf session_number number ss f.index

-- the replay of a number, where it stands
pub record IsFoundReplay (number : ℤ) (rs : List OpenReplay) (f : FoundReplay) : Type 0 where
  pub replay : find replay_number number rs ≡ Some f.replay
  pub stands : IsIndexOf replay_number number rs f.index

-- the session of a number, where it stands, and its recording
pub record IsWriter (number : ℤ) (d : DeskState) (w : Writer) : Type 0 where
  pub found : IsFoundSession number d.callers.sessions w.found
  pub known : registration_in d.register w.found.session.recording ≡ Some w.known.now

-- the replay of a number, where it stands, and its recording
pub record IsReader (number : ℤ) (d : DeskState) (r : Reader) : Type 0 where
  pub found : IsFoundReplay number d.callers.replays r.found
  pub known : registration_in d.register r.found.replay.recording ≡ Some r.known.now

-- the recording that a session writes is there and active
abbrev pub IsWriting : RegisterState → RecorderSession → Type 0
IsWriting g s = IsTrue (is_of (registration_in g s.recording) is_active)

-- the recording that a replay gives is there
abbrev pub IsReading : RegisterState → OpenReplay → Type 0
IsReading g r = IsTrue (is_of (registration_in g r.recording) (λ known. true))

-- no two sessions write one recording
abbrev pub AreApart : List RecorderSession → Type 0
AreApart [] = Unit {0}
AreApart (s ∷ ss) = Each (λ other. other.recording ≢ s.recording) ss × AreApart ss

-- The numbers of sessions rise from 0 on and are below the next one. Each session's recording is there and active, and no
-- other session writes it. At most 64 sessions are open.
pub record KeepsSessions (g : RegisterState) (ss : List RecorderSession) (next : ℤ) : Type 0 where
  pub rising : Rise session_number (pos 0) ss next
  pub writing : Each (IsWriting g) ss
  pub apart : AreApart ss
  pub few : length ss ≤ 64

-- The numbers of replays rise from 0 on and are below the next one. Each replay's recording is there. At most 64 replays
-- are open.
pub record KeepsReplays (g : RegisterState) (rs : List OpenReplay) (next : ℤ) : Type 0 where
  pub rising : Rise replay_number (pos 0) rs next
  pub reading : Each (IsReading g) rs
  pub few : length rs ≤ 64

-- Ids of recordings rise from 0 on and are below the next one, and sessions and replays are of recordings that are there.
pub record KeepsSeats (g : RegisterState) (c : CallersState) : Type 0 where
  pub rising : Rise id_of (pos 0) g.recordings g.next
  pub sessions : KeepsSessions g c.sessions c.next_session
  pub replays : KeepsReplays g c.replays c.next_replay

-- the desk's state, and how many more recordings, sessions and replays it can take without memory
pub record DeskView : Type 0 where
  pub state : DeskState
  pub recordings : ℕ
  pub sessions : ℕ
  pub replays : ℕ

-- a command's recording and session take no memory
abbrev pub HasRoomFor : Command → DeskView → Type 0
HasRoomFor (Start f) d = (0 < d.recordings) × (0 < d.sessions)
HasRoomFor (Extend f) d = 0 < d.sessions
HasRoomFor (Append id blocks) d = Unit {0}
HasRoomFor (Stop id timestamp) d = Unit {0}
HasRoomFor (Truncate id position) d = Unit {0}
HasRoomFor (PurgeSegments id position) d = Unit {0}
HasRoomFor (PurgeRecording id) d = Unit {0}
HasRoomFor Restart d = Unit {0}
