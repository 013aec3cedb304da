-- What the steps of an export do.
use Rattle.std.specs.Prelude.{◌≡◌, ◌⊎◌, ◌+◌, ◌<◌, ◌≤ℤ◌, ℕ, ℤ, pos, Bool, IsTrue, List, Option, None, Some, unsigned_abs}
use Rattle.std.specs.List.{flat_map}
use Rattle.std.specs.Io.KnownBytes.{Appends}
use Rattle.frame_core.specs.declared.frame.Frame.{Frame}
use Rattle.frame_core.specs.declared.refusal.Refusal.{Refusal}
use Rattle.frame_core.specs.declared.refusal.Refusal.TheVariants.{UnknownRecording, BadPosition, Damaged, DeviceFault, NoMemory}
use Rattle.frame_core.specs.FrameEncoding.{aligned_length}
use Rattle.disk_core.specs.DiskImage.{DiskImage, reads}
use Rattle.disk_core.specs.Life.{HasFailed, Life}
use Rattle.segment_store.specs.DamagedFrame.{IsDamaged}
use Rattle.archive_model.specs.declared.registration.Registration.{Registration}
use Rattle.archive_model.specs.Register.{registration_in}
use Rattle.archive_model.specs.State.{geometry_of}
use Rattle.recording_reads.specs.Recording.{layout_of}
use Rattle.archive_view.specs.declared.view.ArchiveView.{ArchiveView}
use Rattle.archive_view.specs.ReadOnly.{life_of}
use Rattle.archive_view.specs.Viewed.{desk_of, read_of}
use Rattle.archive_export.specs.declared.capture.destination.Destination.{Destination}
use Rattle.archive_export.specs.CaptureFile.{packet_record_of}
use Rattle.archive_export.specs.Destination.{IsDestination}
use Rattle.archive_export.specs.Packet.{FitsDatagram}
use Rattle.archive_export.specs.declared.span.Span.{Span}
use Rattle.archive_export.specs.declared.span.Target.{Target}
use Rattle.archive_export.specs.declared.frames.ExportFault.{ExportFault}
use Rattle.archive_export.specs.declared.frames.ExportFault.TheVariants as faults
use Rattle.archive_export.specs.Exporting.{AreShown, IsLookedOn, IsShown, LiesWithin, Straddle, StopAt, inner, span_begin, span_end}

-- what is exported of a recording that is there
pub record IsTargetOf (g : Registration) (span : Span) (t : Target) : Type 0 where
  pub within : LiesWithin span g
  pub recording : t.recording ≡ g.descriptor.recording
  pub first : t.first ≡ span_begin span g
  pub last : t.last ≡ span_end span g
  pub recorded : t.recorded ≡ g.recorded
  pub destination : IsDestination g.descriptor.channel t.destination

-- why nothing is asked of the files
abbrev pub IsRefusedAtOnce : Option Registration → Span → Refusal → Type 0
IsRefusedAtOnce None span refusal = refusal ≡ UnknownRecording
IsRefusedAtOnce (Some g) span refusal = (refusal ≡ BadPosition) × (LiesWithin span g → ⊥)

-- why the frame at a position is not written
abbrev pub IsUnwrittenBy : Registration → Bool → DiskImage → ℤ → Refusal → Type 0
IsUnwrittenBy g obeys image at (Damaged recording position) =
    (recording ≡ g.descriptor.recording) × (position ≡ at)
    × (IsTrue obeys → IsDamaged image (layout_of g.descriptor) (geometry_of g.descriptor) g.recorded (unsigned_abs at) ⊎ ((frame : Frame) × IsShown g image at frame × (FitsDatagram frame → ⊥)))
IsUnwrittenBy g obeys image at DeviceFault = Unit {0}
IsUnwrittenBy g obeys image at NoMemory = Unit {0}
IsUnwrittenBy g obeys image at _ = ⊥

-- why those from a position on are not
abbrev pub IsStoppedBy : Registration → Bool → DiskImage → ℤ → ℤ → Refusal → Type 0
IsStoppedBy g obeys image from to (Damaged recording position) =
    (recording ≡ g.descriptor.recording) × (IsTrue obeys → StopAt g image from to position)
IsStoppedBy g obeys image from to DeviceFault = Unit {0}
IsStoppedBy g obeys image from to NoMemory = Unit {0}
IsStoppedBy g obeys image from to _ = ⊥

module _ {D : Type 0} (life : D → Life) where
  -- a recording of a view, of which this is exported, and a position of it
  pub record IsAt (view : ArchiveView D) (recording : ℤ) (t : Target) (g : Registration) (at : ℤ) : Type 0 where
    pub found : registration_in (desk_of view).register recording ≡ Some g
    pub recording_is : t.recording ≡ g.descriptor.recording
    pub recorded_is : t.recorded ≡ g.recorded
    pub start : g.descriptor.start_position ≤ℤ at
    pub last : t.last ≤ℤ g.recorded

  -- the frame at a position, which fits a datagram
  pub record HasTaken (old new : ArchiveView D) (g : Registration) (at : ℤ) (frame : Frame) : Type 0 where
    pub look : IsLookedOn life old new
    pub shown : IsTrue (inner life new).obeys → IsShown g (reads (inner life old).now) at frame
    pub low : pos 0 ≤ℤ at
    pub covers : 0 < aligned_length frame
    pub ends : pos (unsigned_abs at + aligned_length frame) ≤ℤ g.recorded

  -- why there is none
  pub record RefusesFrameAt (old new : ArchiveView D) (g : Registration) (at : ℤ) (refusal : Refusal) : Type 0 where
    pub look : IsLookedOn life old new
    pub why : IsUnwrittenBy g (inner life new).obeys (reads (inner life old).now) at refusal
    pub cause : refusal ≡ DeviceFault → HasFailed (life_of life (read_of old)) (life_of life (read_of new))

  -- its record was written, and it ends there
  pub record HasWrittenFrame (old new : ArchiveView D) (g : Registration) (at : ℤ) (destination : Destination) (end : ℤ) (contents written : Option (List ℕ)) : Type 0 where
    pub frame : Frame
    pub taken : HasTaken old new g at frame
    pub end_is : end ≡ pos (unsigned_abs at + aligned_length frame)
    pub told : Appends contents written (packet_record_of destination frame)

  abbrev pub FailsToWrite : ArchiveView D → ArchiveView D → Registration → ℤ → ExportFault → Type 0
  FailsToWrite old new g at (faults.Refused refusal) = RefusesFrameAt old new g at refusal
  FailsToWrite old new g at faults.Write = IsLookedOn life old new

  -- the frames from a position on were written, up to one that is not before another
  pub record HasWrittenAll (old new : ArchiveView D) (g : Registration) (from to : ℤ) (destination : Destination) (end : ℤ) (contents written : Option (List ℕ)) : Type 0 where
    pub look : IsLookedOn life old new
    pub frames : List Frame
    pub shown : IsTrue (inner life new).obeys → AreShown g (reads (inner life old).now) from frames end
    pub forward : from ≤ℤ end
    pub ends : (end ≤ℤ to) ⊎ (IsTrue (inner life new).obeys → Straddle g (reads (inner life old).now) from to)
    pub told : Appends contents written (flat_map (packet_record_of destination) frames)

  -- the first of them were, and then one was not
  pub record RefusesFrames (old new : ArchiveView D) (g : Registration) (from to : ℤ) (refusal : Refusal) : Type 0 where
    pub look : IsLookedOn life old new
    pub why : IsStoppedBy g (inner life new).obeys (reads (inner life old).now) from to refusal
    pub cause : refusal ≡ DeviceFault → HasFailed (life_of life (read_of old)) (life_of life (read_of new))

  abbrev pub FailsToWriteAll : ArchiveView D → ArchiveView D → Registration → ℤ → ℤ → ExportFault → Type 0
  FailsToWriteAll old new g from to (faults.Refused refusal) = RefusesFrames old new g from to refusal
  FailsToWriteAll old new g from to faults.Write = IsLookedOn life old new
