-- How a replay is opened: docs/CONTROL.md, "Replays".
use Rattle.std.specs.Prelude.{◌≡◌, ◌⊎◌, ℤ, true, false, IfSome, Result, Ok, Err}
use Rattle.disk_core.specs.DiskImage.{DiskImage}
use Rattle.frame_core.specs.declared.refusal.Refusal.{Refusal}
use Rattle.frame_core.specs.declared.refusal.Refusal.TheVariants.{BadPosition, Damaged, DeviceFault, NoMemory}
use Rattle.archive_model.specs.declared.registration.Registration.{Registration}
use Rattle.archive_model.specs.Register.{registration_in}
use Rattle.recording_reads.specs.Reading.{RefusesBoundaryIn, TellsBoundaryIn}
use Rattle.control_core.specs.declared.turns.Opening.{Opening}
use Rattle.control_core.specs.Desk.{DeskState}
use Rattle.control_core.specs.Opened.{OpeningDecision}
use Rattle.control_core.specs.Opened as opening

-- what is decided once the frames are asked, or a fault of the disk
abbrev pub IsDecided : Result Opening Refusal → Type 0 → Result Opening Refusal → Type 0
IsDecided decided faulted outcome = (outcome ≡ decided) ⊎ ((outcome ≡ Err DeviceFault) × faulted)

-- what the frames say of the position where a replay is to be opened
abbrev pub ShowsBegin : DiskImage → Registration → ℤ → Result Opening Refusal → Type 0
ShowsBegin image g position (Ok made) = TellsBoundaryIn image g position true
ShowsBegin image g position (Err BadPosition) = TellsBoundaryIn image g position false
ShowsBegin image g position (Err (Damaged recording at)) = RefusesBoundaryIn true image g position (Damaged recording at)
ShowsBegin image g position (Err DeviceFault) = Unit {0}
ShowsBegin image g position (Err NoMemory) = Unit {0}
ShowsBegin image g position (Err refusal) = TellsBoundaryIn image g position true

abbrev pub ShowsOpening : DiskImage → DeskState → ℤ → OpeningDecision → Result Opening Refusal → Type 0
ShowsOpening image d id (opening.IfBoundary position made) outcome = IfSome (registration_in d.register id) (λ g. ShowsBegin image g position outcome)
ShowsOpening image d id (opening.Decided made) outcome = Unit {0}
