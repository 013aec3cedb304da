-- Which refusal a failed listing is: docs/CONTROL.md, "Refusals".
use Rattle.disk_core.specs.declared.fault.ListFault.{ListFault}
use Rattle.disk_core.specs.declared.fault.ListFault.TheVariants as faults
use Rattle.frame_core.specs.declared.refusal.Refusal.{Refusal}
use Rattle.frame_core.specs.declared.refusal.Refusal.TheVariants.{DeviceFault, NoMemory}

-- the refusal that a listing's fault is
abbrev pub refusal_of : ListFault → Refusal
refusal_of faults.Device = DeviceFault
refusal_of faults.NoMemory = NoMemory
