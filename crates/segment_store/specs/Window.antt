-- A part of a segment file, and the frames that it shows.
use Rattle.std.specs.Prelude.{◌≡◌, ◌+◌, ◌-◌, ◌≤◌, ℕ, ℤ, pos, min, IsTrue, Bool, length, take, drop}
use Rattle.disk_core.specs.DiskImage.{DiskImage, bytes_of}
use Rattle.frame_core.specs.declared.frame.Frame.{Frame}
use Rattle.frame_core.specs.declared.geometry.Geometry.{Geometry}
use Rattle.frame_core.specs.declared.refusal.Refusal.{Refusal}
use Rattle.frame_core.specs.declared.refusal.Refusal.TheVariants.{Damaged, DeviceFault}
use Rattle.frame_core.specs.FrameEncoding.{aligned_length}
use Rattle.segment_store.specs.declared.boundary.Window.{Window}
use Rattle.segment_store.specs.declared.layout.Layout.{Layout}
use Rattle.segment_store.specs.declared.layout.Spot.{Spot}
use Rattle.segment_store.specs.DamagedFrame.{ShowsFrame, IsDamaged}

-- the window has what stands in its file from its offset on, as much as fits
pub record IsWindow (image : DiskImage) (w : Window) : Type 0 where
  pub length_is : w.length ≡ length (bytes_of (image w.file))
  pub count_is : w.count ≡ min 65536 (length (bytes_of (image w.file)) - w.offset)
  pub bytes_are : take w.count w.bytes ≡ take w.count (drop w.offset (bytes_of (image w.file)))

-- the window begins at the offset
pub record StartsAt (spot : Spot) (w : Window) : Type 0 where
  pub file : w.file ≡ spot.file
  pub offset : w.offset ≡ spot.offset

-- the window has the 32 bytes at the offset
pub record Covers (w : Window) (spot : Spot) : Type 0 where
  pub file : w.file ≡ spot.file
  pub behind : w.offset ≤ spot.offset
  pub within : spot.offset - w.offset + 32 ≤ w.count

-- a frame is shown at the position, and ends there
pub record FrameEndsAt (image : DiskImage) (l : Layout) (g : Geometry) (limit : ℤ) (position end : ℕ) : Type 0 where
  pub frame : Frame
  pub shown : ShowsFrame image l g limit position frame
  pub is : end ≡ position + aligned_length frame

-- why no end is told
abbrev pub RefusesEnd : Bool → DiskImage → Layout → Geometry → ℤ → ℕ → Refusal → Type 0
RefusesEnd obeys image l g limit position DeviceFault = Unit {0}
RefusesEnd obeys image l g limit position (Damaged recording at) =
    (recording ≡ l.recording) × (at ≡ pos position) × (IsTrue obeys → IsDamaged image l g limit position)
RefusesEnd obeys image l g limit position _ = ⊥
