-- A recording whose frames stand in what is read, and what a read fails by.
use Rattle.std.specs.Prelude.{◌≡◌, ◌⊎◌, IsTrue}
use Rattle.frame_core.specs.declared.refusal.Refusal.{Refusal}
use Rattle.frame_core.specs.declared.refusal.Refusal.TheVariants.{DeviceFault, NoMemory}
use Rattle.disk_core.specs.DiskImage.{reads}
use Rattle.disk_core.specs.Life.{Life}
use Rattle.archive_model.specs.declared.registration.Registration.{Registration}
use Rattle.archive_model.specs.State.{Recording, registration_of}
use Rattle.archive_model.specs.WellFormed.{IsKept}
use Rattle.engine_core.specs.Recovery.{HoldsRecording}

-- The disk obeys, the frames of a recording stand in what it reads as before a call, and a register has this of it.
pub record RecordingIsRead (old new : Life) (g : Registration) (r : Recording) : Type 0 where
  pub obeys : IsTrue new.obeys
  pub is : g ≡ registration_of r
  pub kept : IsKept r
  pub stands : HoldsRecording (reads old.now) r

-- a fault of the disk, or want of memory
abbrev pub IsOutside : Refusal → Type 0
IsOutside refusal = (refusal ≡ DeviceFault) ⊎ (refusal ≡ NoMemory)
