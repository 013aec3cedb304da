-- What is answered of the frames of a recording, of an archive that is only looked at.
use Rattle.std.specs.Prelude.{◌≡◌, ◌⊎◌, ◌+◌, ◌<◌, ◌<ℤ◌, ◌≤ℤ◌, ℤ, pos, Bool, Option, None, Some, Result, Ok, Err, unsigned_abs}
use Rattle.frame_core.specs.declared.frame.Frame.{Frame}
use Rattle.frame_core.specs.declared.refusal.Refusal.{Refusal}
use Rattle.frame_core.specs.declared.refusal.Refusal.TheVariants.{BadPosition, UnknownRecording}
use Rattle.frame_core.specs.FrameEncoding.{aligned_length}
use Rattle.disk_core.specs.DiskImage.{DiskImage, reads}
use Rattle.disk_core.specs.Life.{Life}
use Rattle.segment_store.specs.DamagedFrame.{RefusesFrame, ShowsFrame}
use Rattle.archive_model.specs.declared.registration.Registration.{Registration}
use Rattle.archive_model.specs.Register.{registration_in}
use Rattle.archive_model.specs.State.{geometry_of}
use Rattle.recording_reads.specs.Reading.{RefusesBoundaryIn, TellsBoundaryIn}
use Rattle.recording_reads.specs.Recording.{layout_of}
use Rattle.archive_view.specs.declared.read_only.ReadOnly.{ReadOnly}
use Rattle.archive_view.specs.declared.view.ArchiveView.{ArchiveView}
use Rattle.archive_view.specs.ReadOnly.{Looks, Refuses, disk_of}
use Rattle.archive_view.specs.Viewed.{desk_of, read_of}

-- the frame of a recording that an image shows at a position
abbrev pub Shows : Registration → ℤ → Frame → DiskImage → Type 0
Shows g position frame image =
    ShowsFrame image (layout_of g.descriptor) (geometry_of g.descriptor) g.recorded (unsigned_abs position) frame

-- whether a position is a boundary of a recording, as an image shows it
abbrev pub Bounds : Registration → ℤ → Bool → DiskImage → Type 0
Bounds g position told image = TellsBoundaryIn image g position told

-- a position before a recording's start, or not before its recorded position
abbrev pub IsOutside : Registration → ℤ → Type 0
IsOutside g position = (position <ℤ g.descriptor.start_position) ⊎ (g.recorded ≤ℤ position)

module _ {D : Type 0} (life : D → Life) where
  -- a frame that begins in the recording and ends there, whatever the disk does
  pub record GivesFrame (old new : ReadOnly D) (g : Registration) (position : ℤ) (frame : Frame) : Type 0 where
    pub look : Looks life (Shows g position frame) old new
    pub from_start : g.descriptor.start_position ≤ℤ position
    pub low : pos 0 ≤ℤ position
    pub ends : pos (unsigned_abs position + aligned_length frame) ≤ℤ g.recorded
    pub covers : 0 < aligned_length frame

  -- a position outside is told at once; a frame that is not shown, as it is read
  abbrev pub RefusesShown : ReadOnly D → ReadOnly D → Registration → ℤ → Refusal → Type 0
  RefusesShown old new g position BadPosition = IsOutside g position × (new ≡ old)
  RefusesShown old new g position refusal =
      (g.descriptor.start_position ≤ℤ position) × (position <ℤ g.recorded) × Refuses life (λ image. Unit {0}) old new refusal
      × RefusesFrame (life (disk_of new)).obeys (reads (life (disk_of old)).now) (layout_of g.descriptor) (geometry_of g.descriptor) g.recorded position refusal

  -- what is answered of a frame of a recording, which may not be there
  abbrev pub FrameAnswers : ReadOnly D → ReadOnly D → Option Registration → ℤ → Result Frame Refusal → Type 0
  FrameAnswers old new None position (Ok frame) = ⊥
  FrameAnswers old new None position (Err refusal) = (refusal ≡ UnknownRecording) × (new ≡ old)
  FrameAnswers old new (Some g) position (Ok frame) = GivesFrame old new g position frame
  FrameAnswers old new (Some g) position (Err refusal) = RefusesShown old new g position refusal

  -- what is answered of a boundary
  abbrev pub BoundaryAnswers : ReadOnly D → ReadOnly D → Option Registration → ℤ → Result Bool Refusal → Type 0
  BoundaryAnswers old new None position (Ok told) = ⊥
  BoundaryAnswers old new None position (Err refusal) = (refusal ≡ UnknownRecording) × (new ≡ old)
  BoundaryAnswers old new (Some g) position (Ok told) = Looks life (Bounds g position told) old new
  BoundaryAnswers old new (Some g) position (Err refusal) =
      Refuses life (λ image. Unit {0}) old new refusal
      × RefusesBoundaryIn (life (disk_of new)).obeys (reads (life (disk_of old)).now) g position refusal

  -- a recording was asked for a frame, and the view stays
  pub record HasShown (old new : ArchiveView D) (recording position : ℤ) (result : Result Frame Refusal) : Type 0 where
    pub answers : FrameAnswers (read_of old) (read_of new) (registration_in (desk_of old).register recording) position result
    pub desk : desk_of new ≡ desk_of old
    pub same : reads (life (disk_of (read_of new))).now ≡ reads (life (disk_of (read_of old))).now

  -- it was asked for a boundary
  pub record HasBounded (old new : ArchiveView D) (recording position : ℤ) (result : Result Bool Refusal) : Type 0 where
    pub answers : BoundaryAnswers (read_of old) (read_of new) (registration_in (desk_of old).register recording) position result
    pub desk : desk_of new ≡ desk_of old
    pub same : reads (life (disk_of (read_of new))).now ≡ reads (life (disk_of (read_of old))).now
