-- All that an archive knows but its frames. docs/CONTROL.md, "Control state".
use Rattle.std.specs.Prelude.{◌&&◌, ◌||◌, ◌+◌, not, ℕ, ℤ, Bool, false, nat_le, nat_lt, int_le}
use Rattle.std.specs.List.{list_any}
use Rattle.std.specs.Ordering.{int_eq}
use Rattle.archive_model.specs.declared.version.BankVersion.{BankVersion}
use Rattle.archive_model.specs.declared.version.BankVersion.TheVariants.{Two}
use Rattle.archive_model.specs.Register.{RegisterState, no_recordings}
use Rattle.control_core.specs.declared.callers.OpenReplay.{OpenReplay}
use Rattle.control_core.specs.Callers.{CallersState, no_callers, last_number}

-- the recordings without their frames, the callers, how many entries of the history count and may, the version of the
-- catalogue's bank, and whether a write has failed
pub record DeskState : Type 0 where
  pub register : RegisterState
  pub callers : CallersState
  pub counted : ℕ
  pub limit : ℕ
  pub version : BankVersion
  pub is_broken : Bool

-- an archive that is opened: nobody calls yet, and the numbers of sessions and replays begin at 0
abbrev pub opened_desk : RegisterState → ℕ → ℕ → BankVersion → DeskState
opened_desk register counted limit version = record { register = register; callers = no_callers; counted = counted; limit = limit; version = version; is_broken = false }

-- before the first recording, of a catalogue in version 2
abbrev pub new_desk : ℕ → DeskState
new_desk limit = opened_desk no_recordings 0 limit Two

-- the history has room for one more entry
abbrev pub has_room : DeskState → Bool
has_room d = nat_lt d.counted d.limit

-- the history has room for so many more entries, or there are none
abbrev pub has_room_for : ℕ → DeskState → Bool
has_room_for entries d = not (nat_lt 0 entries) || nat_le (d.counted + entries) d.limit

-- there is a number for one more recorder session
abbrev pub has_session_number : DeskState → Bool
has_session_number d = not (int_eq d.callers.next_session last_number)

-- a replay of a recording
unfoldable pub is_replay_of : ℤ → OpenReplay → Bool
is_replay_of id replay = int_eq replay.recording id

-- a replay of a recording that goes on below a position
unfoldable pub is_replay_before : ℤ → ℤ → OpenReplay → Bool
is_replay_before id position replay = int_eq replay.recording id && not (int_le position replay.next)

abbrev pub is_replayed : DeskState → ℤ → Bool
is_replayed d id = list_any (is_replay_of id) d.callers.replays
