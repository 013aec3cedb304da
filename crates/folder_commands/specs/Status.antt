-- How the program ends, and the status that says so: docs/CONTROL.md, "The program".
use Rattle.std.specs.Prelude.{◌≡◌, ℕ, Bool, false, List, Option, Some, None}
use Rattle.std.specs.Option.{option_map_or}
use Rattle.std.specs.declared.io.Error.{Error}
use Rattle.std.specs.declared.io.ErrorKind.TheVariants as io
use Rattle.clap.specs.declared.error.ErrorKind.{ErrorKind}
use Rattle.clap.specs.declared.error.ErrorKind.TheVariants as kinds
use Rattle.frame_core.specs.declared.refusal.Refusal.{Refusal}
use Rattle.frame_core.specs.declared.refusal.Refusal.TheVariants.{Broken, Damaged, DeviceFault, NoMemory}
use Rattle.host_disk.specs.declared.open_fault.OpenFault.TheVariants as folders
use Rattle.archive_commands.specs.declared.commands.Stop.{Stop}
use Rattle.archive_commands.specs.declared.commands.Stop.TheVariants as stops
use Rattle.tool_core.specs.declared.fault.EarlyEnd.TheVariants as faults
use Rattle.folder_commands.specs.declared.status.Ending.{Ending}
use Rattle.folder_commands.specs.declared.status.Ending.TheVariants.{Done, Cut, Refused, Unopened, FoundDamage, LineRefused, NoneBefore, Stuck, Hidden, NoCommand, Failed}
use Rattle.folder_commands.specs.declared.why.Why.{Why}
use Rattle.folder_commands.specs.declared.why.Why.TheVariants.{Output}
use Rattle.folder_commands.specs.Usage.{FailsToReport, IsReportedBy, words_status}

-- the status of a refused command: 1, or 3 for a device fault or damage
abbrev pub status_of_refusal : Refusal → ℕ
status_of_refusal (Damaged recording position) = 3
status_of_refusal Broken = 3
status_of_refusal DeviceFault = 3
status_of_refusal refusal = 1

-- the refusal that is told on standard error
abbrev pub refusal_of : Ending → Option Refusal
refusal_of Done = None
refusal_of (Cut faults.Memory) = Some NoMemory
refusal_of (Cut faults.Read) = Some DeviceFault
refusal_of (Cut faults.Write) = Some DeviceFault
refusal_of (Refused refusal) = Some refusal
refusal_of (Unopened folders.NoMemory) = Some NoMemory
refusal_of (Unopened fault) = Some DeviceFault
refusal_of FoundDamage = None
refusal_of LineRefused = None
refusal_of NoneBefore = None
refusal_of (Stuck stop) = None
refusal_of Hidden = None
refusal_of (NoCommand kinds.OutOfMemory) = Some NoMemory
refusal_of (NoCommand kind) = None
refusal_of (Failed io.OutOfMemory) = Some NoMemory
refusal_of (Failed kind) = Some DeviceFault

-- the status of an ending that tells no refusal: 0 done, 3 damage and a strict server that could record nothing or did not open
-- its archive, 1 a line that a server refused and a time before all positions, and that of words that ask for no command
abbrev pub status_without_refusal : Ending → ℕ
status_without_refusal FoundDamage = 3
status_without_refusal LineRefused = 1
status_without_refusal NoneBefore = 1
status_without_refusal (Stuck stop) = 3
status_without_refusal Hidden = 3
status_without_refusal (NoCommand kind) = words_status kind
status_without_refusal ending = 0

-- the status with which the program ends: that of the refusal which it tells, where it tells one
abbrev pub status_of : Ending → ℕ
status_of ending = option_map_or status_of_refusal (refusal_of ending) (status_without_refusal ending)

-- how a command ends that was refused, or that ended early
abbrev pub ending_of : Stop → Ending
ending_of (stops.Refused refusal) = Refused refusal
ending_of (stops.Cut end) = Cut end

-- A command whose output could not be handed on ends by that, if it had not failed before.
abbrev pub handed_on : Ending → Bool → Ending
handed_on Done false = Cut faults.Write
handed_on FoundDamage false = Cut faults.Write
handed_on NoneBefore false = Cut faults.Write
handed_on ending is_flushed = ending

-- why a command ended, once it is known what the system said of standard output where that failed
abbrev pub why_with_output_fault : Option Error → Why → Why
why_with_output_fault fault (Output None) = Output fault
why_with_output_fault fault why = why

-- an error of that kind was told so, or could not be
abbrev pub IsReported : ErrorKind → List ℕ → Option (List ℕ) → Option (List ℕ) → Option (List ℕ) → Option (List ℕ) → Ending → Type 0
IsReported kind text output shown errors told (NoCommand of) = (of ≡ kind) × IsReportedBy kind text output shown errors told
IsReported kind text output shown errors told (Failed fault) = FailsToReport kind output shown errors told
IsReported kind text output shown errors told ending = ⊥
