-- What an archive keeps of its callers: recorder sessions and open replays. docs/CONTROL.md, "Control state".
use Rattle.std.specs.Prelude.{ℤ, pos, List, [], Option, Some, None}
use Rattle.control_core.specs.declared.callers.RecorderSession.{RecorderSession}
use Rattle.control_core.specs.declared.callers.OpenReplay.{OpenReplay}
use Rattle.control_core.specs.declared.callers.Written.{Written}

-- ids and numbers stop here
abbrev pub last_number : ℤ
last_number = pos 9223372036854775807

-- the number of a recorder session, by which it is found
abbrev pub session_number : RecorderSession → ℤ
session_number s = s.number

-- the number of a replay, by which it is found
abbrev pub replay_number : OpenReplay → ℤ
replay_number r = r.number

-- where a session's next block begins: at the end of what it wrote, or at the recorded position
abbrev pub written_to : Option Written → ℤ → ℤ
written_to None recorded = recorded
written_to (Some written) recorded = written.last

-- what an archive keeps of its callers: recorder sessions and open replays by rising number, and the next numbers
pub record CallersState : Type 0 where
  pub sessions : List RecorderSession
  pub replays : List OpenReplay
  pub next_session : ℤ
  pub next_replay : ℤ

-- no sessions and no replays
abbrev pub no_callers : CallersState
no_callers = record { sessions = []; replays = []; next_session = pos 0; next_replay = pos 0 }

-- what a session has written
abbrev pub with_written : Option Written → RecorderSession → RecorderSession
with_written written s = record s { written = written }

-- a replay that goes on from a position
abbrev pub moved_to : ℤ → OpenReplay → OpenReplay
moved_to next replay = record replay { next = next }
