-- Where the frames of a recording begin and end: docs/STORAGE.md, "Boundaries".
use Rattle.std.specs.Prelude.{◌≡◌, ◌+◌, ◌<ℤ◌, ◌≤ℤ◌, ℕ, ℤ, pos, Bool, true, false, IsTrue, List, [], ◌∷◌, unsigned_abs}
use Rattle.disk_core.specs.DiskImage.{DiskImage}
use Rattle.frame_core.specs.declared.frame.Frame.{Frame}
use Rattle.frame_core.specs.declared.geometry.Geometry.{Geometry}
use Rattle.frame_core.specs.declared.refusal.Refusal.{Refusal}
use Rattle.frame_core.specs.declared.refusal.Refusal.TheVariants.{Damaged, DeviceFault}
use Rattle.frame_core.specs.FrameEncoding.{aligned_length}
use Rattle.segment_store.specs.declared.layout.Layout.{Layout}
use Rattle.segment_store.specs.DamagedFrame.{ShowsFrame, IsDamaged}

-- these frames are shown from one position to another, one after another, each ending at or before a limit
abbrev pub IsChain : DiskImage → Layout → Geometry → ℤ → ℕ → List Frame → ℕ → Type 0
IsChain image l g limit from [] to = from ≡ to
IsChain image l g limit from (frame ∷ frames) to =
    ShowsFrame image l g limit from frame × IsChain image l g limit (from + aligned_length frame) frames to

-- frames are shown from one position to another, one after another, none past the recorded position
pub record Reaches (image : DiskImage) (l : Layout) (g : Geometry) (recorded : ℤ) (from to : ℕ) : Type 0 where
  pub frames : List Frame
  pub chain : IsChain image l g recorded from frames to

-- the position is this one, or the end of one of the frames that are shown one after another from there
pub record IsReached (image : DiskImage) (l : Layout) (g : Geometry) (recorded : ℤ) (from : ℕ) (position : ℤ) : Type 0 where
  pub end : ℕ
  pub is : position ≡ pos end
  pub reaches : Reaches image l g recorded from end

-- the frames from one position on break off before another up to which there should be some: at this one none is shown
pub record BreaksFrom (image : DiskImage) (l : Layout) (g : Geometry) (recorded : ℤ) (from : ℕ) (position : ℤ) (at : ℕ) : Type 0 where
  pub reaches : Reaches image l g recorded from at
  pub before : pos at <ℤ position
  pub within : position ≤ℤ recorded
  pub damaged : IsDamaged image l g recorded at

-- what is told of a position by the frames from another on
abbrev pub TellsReached : DiskImage → Layout → Geometry → ℤ → ℕ → ℤ → Bool → Type 0
TellsReached image l g recorded from position true = IsReached image l g recorded from position
TellsReached image l g recorded from position false =
    (IsReached image l g recorded from position → ⊥) × ((at : ℕ) → BreaksFrom image l g recorded from position at → ⊥)

-- why nothing is told: the damage is promised where the disk obeys the crash model
abbrev pub RefusesReached : Bool → DiskImage → Layout → Geometry → ℤ → ℕ → ℤ → Refusal → Type 0
RefusesReached obeys image l g recorded from position DeviceFault = Unit {0}
RefusesReached obeys image l g recorded from position (Damaged recording at) =
    (recording ≡ l.recording)
    × (IsTrue obeys → (n : ℕ) × (at ≡ pos n) × BreaksFrom image l g recorded from position n)
RefusesReached obeys image l g recorded from position _ = ⊥

-- ---- from the recording's start

abbrev pub ReachesTo : DiskImage → Layout → Geometry → ℤ → ℕ → Type 0
ReachesTo image l g recorded to = Reaches image l g recorded (unsigned_abs l.start_position) to

-- the position is the start, or the end of a frame that is recorded
abbrev pub IsBoundary : DiskImage → Layout → Geometry → ℤ → ℤ → Type 0
IsBoundary image l g recorded position = IsReached image l g recorded (unsigned_abs l.start_position) position

abbrev pub BreaksAt : DiskImage → Layout → Geometry → ℤ → ℤ → ℕ → Type 0
BreaksAt image l g recorded position at = BreaksFrom image l g recorded (unsigned_abs l.start_position) position at

abbrev pub TellsBoundary : DiskImage → Layout → Geometry → ℤ → ℤ → Bool → Type 0
TellsBoundary image l g recorded position told = TellsReached image l g recorded (unsigned_abs l.start_position) position told

abbrev pub RefusesBoundary : Bool → DiskImage → Layout → Geometry → ℤ → ℤ → Refusal → Type 0
RefusesBoundary obeys image l g recorded position refusal = RefusesReached obeys image l g recorded (unsigned_abs l.start_position) position refusal
