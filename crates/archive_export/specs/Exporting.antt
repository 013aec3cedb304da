-- What is written of a recording's frames as a capture file: docs/CONTROL.md, "Exporting frames".
use Rattle.std.specs.Prelude.{◌≡◌, ◌⊎◌, ◌+◌, ◌≤◌, ◌<ℤ◌, ◌≤ℤ◌, ℕ, ℤ, pos, Bool, IsTrue, List, Option, None, Some, unsigned_abs, unwrap_or}
use Rattle.std.specs.Io.KnownBytes.{Appends}
use Rattle.frame_core.specs.declared.frame.Frame.{Frame}
use Rattle.frame_core.specs.declared.refusal.Refusal.{Refusal}
use Rattle.frame_core.specs.declared.refusal.Refusal.TheVariants.{UnknownRecording, BadPosition, Damaged, DeviceFault, NoMemory}
use Rattle.frame_core.specs.FrameEncoding.{aligned_length}
use Rattle.disk_core.specs.DiskImage.{DiskImage, reads}
use Rattle.disk_core.specs.Life.{HasFailed, Life}
use Rattle.segment_store.specs.Boundary.{IsChain}
use Rattle.segment_store.specs.DamagedFrame.{IsDamaged, ShowsFrame}
use Rattle.archive_model.specs.declared.registration.Registration.{Registration}
use Rattle.archive_model.specs.Register.{registration_in}
use Rattle.archive_model.specs.State.{geometry_of}
use Rattle.recording_reads.specs.Reading.{BreaksIn, IsBoundaryIn}
use Rattle.recording_reads.specs.Recording.{layout_of}
use Rattle.archive_view.specs.declared.view.ArchiveView.{ArchiveView}
use Rattle.archive_view.specs.ReadOnly.{IsOnlyRead, disk_of, life_of}
use Rattle.archive_view.specs.Viewed.{desk_of, read_of}
use Rattle.archive_export.specs.declared.capture.destination.Destination.{Destination}
use Rattle.archive_export.specs.CaptureFile.{capture_of}
use Rattle.archive_export.specs.Destination.{IsDestination}
use Rattle.archive_export.specs.Packet.{FitsDatagram}
use Rattle.archive_export.specs.declared.span.Span.{Span}
use Rattle.archive_export.specs.declared.frames.ExportFault.{ExportFault}
use Rattle.archive_export.specs.declared.frames.ExportFault.TheVariants as faults

-- where the frames begin that are asked for: at the recording's start where no position is named
abbrev pub span_begin : Span → Registration → ℤ
span_begin span g = unwrap_or span.from g.descriptor.start_position

-- where they end: at the recorded position
abbrev pub span_end : Span → Registration → ℤ
span_end span g = unwrap_or span.to g.recorded

-- the span lies in the recording
pub record LiesWithin (span : Span) (g : Registration) : Type 0 where
  pub from_start : g.descriptor.start_position ≤ℤ span_begin span g
  pub forward : span_begin span g ≤ℤ span_end span g
  pub recorded : span_end span g ≤ℤ g.recorded

-- these frames of a recording are shown from a position to another, one after another
abbrev pub AreShown : Registration → DiskImage → ℤ → List Frame → ℤ → Type 0
AreShown g image from frames to =
    IsChain image (layout_of g.descriptor) (geometry_of g.descriptor) g.recorded (unsigned_abs from) frames (unsigned_abs to)

-- a frame of a recording is shown at a position
abbrev pub IsShown : Registration → DiskImage → ℤ → Frame → Type 0
IsShown g image position frame =
    ShowsFrame image (layout_of g.descriptor) (geometry_of g.descriptor) g.recorded (unsigned_abs position) frame

-- a frame begins or ends at a position of a recording
abbrev pub IsBoundaryOf : Registration → DiskImage → ℤ → Type 0
IsBoundaryOf g image position = IsBoundaryIn image g position

-- the frames from a position on have one that begins before another position and ends behind it
pub record Straddle (g : Registration) (image : DiskImage) (from to : ℤ) : Type 0 where
  pub frames : List Frame
  pub at : ℤ
  pub chain : AreShown g image from frames at
  pub frame : Frame
  pub shown : IsShown g image at frame
  pub before : at <ℤ to
  pub behind : to <ℤ pos (unsigned_abs at + aligned_length frame)

-- the frames from a position on come to one before another position, at which none is shown, or one that no datagram holds
pub record StopAt (g : Registration) (image : DiskImage) (from to at : ℤ) : Type 0 where
  pub frames : List Frame
  pub chain : AreShown g image from frames at
  pub before : at <ℤ to
  pub stops : IsDamaged image (layout_of g.descriptor) (geometry_of g.descriptor) g.recorded (unsigned_abs at)
      ⊎ ((frame : Frame) × IsShown g image at frame × (FitsDatagram frame → ⊥))

-- the frames break off at a position: before the first that is asked for, in its term, or behind it
abbrev pub BreakAt : Registration → Span → DiskImage → ℤ → Type 0
BreakAt g span image at =
    ((n : ℕ) × (at ≡ pos n) × BreaksIn image g (span_begin span g) n)
    ⊎ StopAt g image (span_begin span g) (span_end span g) at

-- Why a recording is not exported: it isn't there; the span isn't in it, or does not begin or end where a frame does; its
-- frames break off. What is seen of the disk is promised where it obeys the crash model.
abbrev pub IsNotExportedBy : Option Registration → Span → Bool → DiskImage → Refusal → Type 0
IsNotExportedBy None span obeys image UnknownRecording = Unit {0}
IsNotExportedBy None span obeys image _ = ⊥
IsNotExportedBy (Some g) span obeys image BadPosition =
    (LiesWithin span g → ⊥)
    ⊎ (IsTrue obeys → (IsBoundaryOf g image (span_begin span g) → ⊥) ⊎ Straddle g image (span_begin span g) (span_end span g))
IsNotExportedBy (Some g) span obeys image (Damaged recording at) =
    (recording ≡ g.descriptor.recording) × (IsTrue obeys → BreakAt g span image at)
IsNotExportedBy (Some g) span obeys image DeviceFault = Unit {0}
IsNotExportedBy (Some g) span obeys image NoMemory = Unit {0}
IsNotExportedBy (Some g) span obeys image _ = ⊥

module _ {D : Type 0} (life : D → Life) where
  -- what the disk of a view is to a contract
  abbrev pub inner : ArchiveView D → Life
  inner view = life (disk_of (read_of view))

  -- its disk was only read, and the view stays
  pub record IsLookedOn (old new : ArchiveView D) : Type 0 where
    pub inside : IsOnlyRead (inner old) (inner new)
    pub same : reads (inner new).now ≡ reads (inner old).now
    pub desk : desk_of new ≡ desk_of old
    pub faults : (life_of life (read_of old)).faults ≤ (life_of life (read_of new)).faults

  -- The frames of the span are shown one after another, and what is written is the capture file of these, sent to the
  -- destination of the recording's channel.
  pub record HasExported (old new : ArchiveView D) (recording : ℤ) (span : Span) (contents written : Option (List ℕ)) : Type 0 where
    pub look : IsLookedOn old new
    pub g : Registration
    pub found : registration_in (desk_of old).register recording ≡ Some g
    pub within : LiesWithin span g
    pub destination : Destination
    pub is_destination : IsDestination g.descriptor.channel destination
    pub frames : List Frame
    pub begins : IsTrue (inner new).obeys → IsBoundaryOf g (reads (inner old).now) (span_begin span g)
    pub shown : IsTrue (inner new).obeys → AreShown g (reads (inner old).now) (span_begin span g) frames (span_end span g)
    pub told : Appends contents written (capture_of destination frames)

  -- it is refused: a device fault has its cause
  pub record RefusesExport (old new : ArchiveView D) (recording : ℤ) (span : Span) (refusal : Refusal) : Type 0 where
    pub look : IsLookedOn old new
    pub why : IsNotExportedBy (registration_in (desk_of old).register recording) span (inner new).obeys (reads (inner old).now) refusal
    pub cause : refusal ≡ DeviceFault → HasFailed (life_of life (read_of old)) (life_of life (read_of new))

  -- nothing is said of a writer that failed
  abbrev pub FailsToExport : ArchiveView D → ArchiveView D → ℤ → Span → ExportFault → Type 0
  FailsToExport old new recording span (faults.Refused refusal) = RefusesExport old new recording span refusal
  FailsToExport old new recording span faults.Write = IsLookedOn old new
