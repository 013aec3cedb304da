-- What the desk and the state with its frames have to do with each other. docs/CONTROL.md, "Control state".
use Rattle.std.specs.Prelude.{◌≡◌, ◌+ℤ◌, ℤ, pos, List, Some}
use Rattle.frame_core.specs.declared.block.Block.{Block}
use Rattle.frame_core.specs.Block.{covered}
use Rattle.archive_model.specs.declared.command.Command.{Command}
use Rattle.archive_model.specs.declared.command.Command.TheVariants.{Start, Append, Stop, Extend, Truncate, PurgeSegments, PurgeRecording, Restart}
use Rattle.archive_model.specs.Keyed.{find}
use Rattle.archive_model.specs.State.{State, id_of, register_of}
use Rattle.archive_model.specs.Commands.{frames_of, recorded_in}
use Rattle.control_core.specs.declared.callers.RecorderSession.{RecorderSession}
use Rattle.control_core.specs.declared.callers.Written.{Written}
use Rattle.control_core.specs.Desk.{DeskState}
use Rattle.control_core.specs.Changes.{writer_in}

-- the desk's register is the state's
abbrev pub Agrees : DeskState → State → Type 0
Agrees d s = d.register ≡ register_of s

-- the session of a recording wrote these blocks, from the recorded position on
pub record WroteBlocks (d : DeskState) (s : State) (id : ℤ) (blocks : List Block) : Type 0 where
  pub session : RecorderSession
  pub written : Written
  pub writer : writer_in d id ≡ Some session
  pub recording : session.recording ≡ id
  pub has : session.written ≡ Some written
  pub ends : written.last ≡ recorded_in (find id_of id s.recordings) +ℤ pos (covered (frames_of blocks))

-- what an append records is what the recording's session wrote; of the other commands nothing is asked
abbrev pub HasWritten : DeskState → State → Command → Type 0
HasWritten d s (Append id blocks) = WroteBlocks d s id blocks
HasWritten d s (Start f) = Unit {0}
HasWritten d s (Stop id timestamp) = Unit {0}
HasWritten d s (Extend f) = Unit {0}
HasWritten d s (Truncate id position) = Unit {0}
HasWritten d s (PurgeSegments id position) = Unit {0}
HasWritten d s (PurgeRecording id) = Unit {0}
HasWritten d s Restart = Unit {0}
