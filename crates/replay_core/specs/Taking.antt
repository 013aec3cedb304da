-- How the frames of a poll are handed on, each as it is read: docs/CONTROL.md, "Replays".
use Rattle.std.specs.Prelude.{◌≡◌, ◌⊎◌, ◌+◌, ◌<◌, ◌≤ℤ◌, ◌+ℤ◌, ℕ, ℤ, pos, Bool, IsTrue, List, [], ◌∷◌, length, unsigned_abs}
use Rattle.disk_core.specs.DiskImage.{DiskImage}
use Rattle.frame_core.specs.declared.frame.Frame.{Frame}
use Rattle.frame_core.specs.declared.geometry.Geometry.{Geometry}
use Rattle.frame_core.specs.declared.refusal.Refusal.{Refusal}
use Rattle.frame_core.specs.declared.refusal.Refusal.TheVariants.{NoMemory}
use Rattle.frame_core.specs.Block.{covered}
use Rattle.frame_core.specs.FrameEncoding.{aligned_length, encoded}
use Rattle.segment_store.specs.declared.layout.Layout.{Layout}
use Rattle.segment_store.specs.DamagedFrame.{RefusesFrame, ShowsFrame}
use Rattle.replay_core.specs.Pages.{Pages, AgreeOver}
use Rattle.replay_core.specs.Poll.{AgreeOn, ArePolled, BeginBefore}

-- a taker took frames that follow one another from a position, one after another
abbrev pub StepsThrough : {T : Type 0} → (T → ℤ → Frame → T → Type 0) → T → ℤ → List Frame → T → Type 0
StepsThrough takes old at [] new = new ≡ old
StepsThrough {T} takes old at (f ∷ fs) new = (mid : T) × takes old at f mid × StepsThrough takes mid (at +ℤ pos (aligned_length f)) fs new

-- a taker took the frame of a position, which covers so many bytes
pub record HandsOne {T : Type 0} (takes : T → ℤ → Frame → T → Type 0) (old new : T) (obeys : Bool) (image : DiskImage) (l : Layout) (g : Geometry) (generation : ℕ) (pages : Pages) (limit position : ℤ) (size : ℕ) : Type 0 where
  pub frame : Frame
  pub taken : takes old position frame new
  -- it stands there, where the disk obeys the crash model and kept pages agree with it on the frame
  pub shown : IsTrue obeys → AgreeOver image l generation pages (unsigned_abs position) (length (encoded frame)) → ShowsFrame image l g limit (unsigned_abs position) frame
  -- whatever the disk answers and pages have: it covers some bytes, and ends at or before the limit
  pub covers : size ≡ aligned_length frame
  pub some : 0 < aligned_length frame
  pub ends : pos (unsigned_abs position + aligned_length frame) ≤ℤ limit

-- why no frame of a position is handed on: as none is read there, or the taker has no memory for it
abbrev pub RefusesHanding : Bool → DiskImage → Layout → Geometry → ℤ → ℤ → Refusal → Type 0
RefusesHanding obeys image l g limit position NoMemory = Unit {0}
RefusesHanding obeys image l g limit position refusal = RefusesFrame obeys image l g limit position refusal

-- a taker took the frames of a poll, from where a replay stood to where it goes on
pub record HandsOn {T : Type 0} (takes : T → ℤ → Frame → T → Type 0) (old new : T) (obeys : Bool) (image : DiskImage) (l : Layout) (g : Geometry) (generation : ℕ) (pages : Pages) (recorded bound : ℤ) (most : ℕ) (next end : ℤ) : Type 0 where
  pub frames : List Frame
  pub taken : StepsThrough takes old next frames new
  -- they are what a poll gives, where the disk obeys the crash model and kept pages agree with it on them
  pub polled : IsTrue obeys → AgreeOn image l generation pages (unsigned_abs next) frames → ArePolled image l g recorded bound most (unsigned_abs next) frames (unsigned_abs end)
  -- whatever the disk answers and pages have: each begins before the bound, and they cover what the replay went on
  pub begin : pos 0 ≤ℤ next → BeginBefore bound (unsigned_abs next) frames
  pub covers : end ≡ next +ℤ pos (covered frames)

-- a taker took some of the frames that follow one another from a position, and no more, or then one for which it had no memory
pub record TookSome {T : Type 0} (takes : T → ℤ → Frame → T → Type 0) (leaves : T → T → Type 0) (old new : T) (at : ℤ) : Type 0 where
  pub frames : List Frame
  pub last : T
  pub taken : StepsThrough takes old at frames last
  pub left : (new ≡ last) ⊎ leaves last new
