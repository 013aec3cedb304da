-- What a recorder session wrote, as it is to be recorded. docs/CONTROL.md, "Recorder sessions".
use Rattle.std.specs.Prelude.{◌≡◌, ℤ, Ok, Some}
use Rattle.archive_model.specs.declared.registration.Registration.{Registration}
use Rattle.archive_model.specs.Register.{registration_in}
use Rattle.control_core.specs.declared.turns.Settling.TheVariants.{Blocks}
use Rattle.control_core.specs.Desk.{DeskState}
use Rattle.control_core.specs.Orderly.{KeepsDesk}
use Rattle.control_core.specs.Seats.{IsFoundSession}
use Rattle.control_core.specs.Turns.{settle_decision}
use Rattle.recording_reads.specs.Recording.{layout_of}
use Rattle.engine_core.specs.declared.settle.Settlement.{Settlement}

-- the desk decides to record these blocks of the session of a number, which stands there, in the segments of its recording
pub record IsSettlement (d : DeskState) (number : ℤ) (s : Settlement) : Type 0 where
  pub keeps : KeepsDesk d.register d.callers
  pub found : IsFoundSession number d.callers.sessions s.found
  pub decided : settle_decision d number ≡ Ok (Blocks s.recording s.written)
  pub known : Registration
  pub is_known : Some known ≡ registration_in d.register s.recording
  pub layout_is : s.layout ≡ layout_of known.descriptor
