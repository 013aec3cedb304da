-- What a poll of a replay gives: Aeron Archive documentation, "Replay"; docs/CONTROL.md, "Replays".
use Rattle.std.specs.Prelude.{◌≡◌, ◌⊎◌, ◌+◌, ◌<◌, ◌≤◌, ◌<ℤ◌, ◌≤ℤ◌, ℕ, ℤ, pos, Bool, true, IsTrue, List, [], ◌∷◌, length, int_lt, if◌then◌else◌}
use Rattle.disk_core.specs.DiskImage.{DiskImage}
use Rattle.frame_core.specs.declared.frame.Frame.{Frame}
use Rattle.frame_core.specs.declared.geometry.Geometry.{Geometry}
use Rattle.frame_core.specs.declared.refusal.Refusal.{Refusal}
use Rattle.frame_core.specs.declared.refusal.Refusal.TheVariants.{Damaged, DeviceFault, NoMemory}
use Rattle.frame_core.specs.FrameEncoding.{aligned_length, encoded}
use Rattle.segment_store.specs.declared.layout.Layout.{Layout}
use Rattle.segment_store.specs.Boundary.{IsChain}
use Rattle.segment_store.specs.DamagedFrame.{IsDamaged, belongs_at}
use Rattle.replay_core.specs.Pages.{Pages, AgreeOver}

-- kept pages of a recording's generation agree with the disk on the bytes of frames that follow one another from a position
abbrev pub AgreeOn : DiskImage → Layout → ℕ → Pages → ℕ → List Frame → Type 0
AgreeOn image l generation pages from [] = Unit {0}
AgreeOn image l generation pages from (f ∷ fs) =
    AgreeOver image l generation pages from (length (encoded f)) × AgreeOn image l generation pages (from + aligned_length f) fs

-- of frames that follow one another from a position, each begins before a bound
abbrev pub BeginBefore : ℤ → ℕ → List Frame → Type 0
BeginBefore bound from [] = Unit {0}
BeginBefore bound from (f ∷ fs) = (pos from <ℤ bound) × BeginBefore bound (from + aligned_length f) fs

-- frames, from one position to another, that are given where at most so many are asked for
pub record ArePolled (image : DiskImage) (l : Layout) (g : Geometry) (recorded bound : ℤ) (most from : ℕ) (frames : List Frame) (to : ℕ) : Type 0 where
  -- they stand there, one after another, none past the recorded position
  pub stand : IsChain image l g recorded from frames to
  -- each begins before the bound
  pub before : BeginBefore bound from frames
  -- they are no more than are asked for
  pub few : length frames ≤ most
  -- and no fewer than that, or than there are
  pub all : (length frames ≡ most) ⊎ (bound ≤ℤ pos to) ⊎ (recorded ≤ℤ pos to)

-- the frames break off where one is asked for: fewer were given, which stand there where kept pages agree with the disk on
-- them, and none stands at this position, which lies before the bound and the recorded position
pub record BreaksOff (image : DiskImage) (l : Layout) (g : Geometry) (generation : ℕ) (pages : Pages) (recorded bound : ℤ) (most from : ℕ) (at : ℤ) : Type 0 where
  pub frames : List Frame
  pub to : ℕ
  pub stand : AgreeOn image l generation pages from frames → IsChain image l g recorded from frames to
  pub fewer : length frames < most
  pub is : at ≡ pos to
  pub before : pos to <ℤ bound
  pub within : pos to <ℤ recorded
  pub damaged : IsDamaged image l g recorded to

-- why no frames are given: the damage is promised where the disk obeys the crash model
abbrev pub RefusesPoll : Bool → DiskImage → Layout → Geometry → ℕ → Pages → ℤ → ℤ → ℕ → ℕ → Refusal → Type 0
RefusesPoll obeys image l g generation pages recorded bound most from DeviceFault = Unit {0}
RefusesPoll obeys image l g generation pages recorded bound most from NoMemory = Unit {0}
RefusesPoll obeys image l g generation pages recorded bound most from (Damaged recording at) =
    (recording ≡ l.recording) × (IsTrue obeys → BreaksOff image l g generation pages recorded bound most from at)
RefusesPoll obeys image l g generation pages recorded bound most from _ = ⊥

-- where a replay goes on, of which frames were asked for: further, and no further than what is recorded, from before its
-- bound; or where it stood, at its bound or where the recording ends
abbrev pub MovesTo : ℤ → ℤ → ℤ → ℤ → Type 0
MovesTo recorded bound next new =
    ((next <ℤ new) × (new ≤ℤ recorded) × (next <ℤ bound)) ⊎ ((new ≡ next) × ((bound ≤ℤ next) ⊎ (recorded ≤ℤ next)))

-- a frame is asked for, and begins before the bound and the recorded position
pub record IsDue (recorded bound : ℤ) (most : ℕ) (from : ℤ) : Type 0 where
  pub asked : 0 < most
  pub before : from <ℤ bound
  pub within : from <ℤ recorded

-- of frames that follow one another from a position, each is of the recording's stream and of its position, and ends
-- inside its term and at or before the recorded position
abbrev pub Belong : Layout → Geometry → ℤ → ℕ → List Frame → Type 0
Belong l g recorded from [] = Unit {0}
Belong l g recorded from (f ∷ fs) = (belongs_at l g from recorded f ≡ true) × Belong l g recorded (from + aligned_length f) fs

-- of frames that follow one another from a position, those that begin before a bound
abbrev pub before : ℤ → ℕ → List Frame → List Frame
before bound from [] = []
before bound from (f ∷ fs) = if int_lt (pos from) bound then f ∷ before bound (from + aligned_length f) fs else []
