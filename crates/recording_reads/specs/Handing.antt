-- How the frames of a poll are handed on, each with where it begins: docs/CONTROL.md, "Replays".
use Rattle.std.specs.Prelude.{◌≡◌, ◌⊎◌, ◌<ℤ◌, ℤ, Bool, IsTrue, List, [], ◌∷◌, unsigned_abs}
use Rattle.disk_core.specs.DiskImage.{DiskImage}
use Rattle.frame_core.specs.declared.frame.Frame.{Frame}
use Rattle.archive_model.specs.Keyed.{Each}
use Rattle.archive_model.specs.declared.registration.Registration.{Registration}
use Rattle.archive_model.specs.declared.reply.PolledFrame.{PolledFrame}
use Rattle.control_core.specs.declared.callers.OpenReplay.{OpenReplay}
use Rattle.control_core.specs.Exact.{frames_end}
use Rattle.recording_reads.specs.Reading.{GivesShown}

-- a taker took frames, one after another, each with where it begins
abbrev pub TakesEach : {T : Type 0} → (T → ℤ → Frame → T → Type 0) → T → List PolledFrame → T → Type 0
TakesEach takes old [] new = new ≡ old
TakesEach {T} takes old (f ∷ fs) new = (mid : T) × takes old f.position f.frame mid × TakesEach takes mid fs new

-- a taker took frames and no more, or then one for which it had no memory
pub record TakesSome {T : Type 0} (takes : T → ℤ → Frame → T → Type 0) (leaves : T → T → Type 0) (old new : T) : Type 0 where
  pub frames : List PolledFrame
  pub last : T
  pub taken : TakesEach takes old frames last
  pub left : (new ≡ last) ⊎ leaves last new

-- frames begin before a position
abbrev pub BeginBy : ℤ → List PolledFrame → Type 0
BeginBy bound frames = Each (λ f. f.position <ℤ bound) frames

-- A taker took the frames that a replay is given, and it goes on where they end: they are shown, where the disk obeys the
-- crash model.
pub record HandsShown {T : Type 0} (takes : T → ℤ → Frame → T → Type 0) (old new : T) (obeys : Bool) (image : DiskImage) (g : Registration) (replay : OpenReplay) (most end : ℤ) : Type 0 where
  pub frames : List PolledFrame
  pub taken : TakesEach takes old frames new
  pub shown : IsTrue obeys → GivesShown image g replay most frames (unsigned_abs end)
  -- whatever the disk answers
  pub begin : BeginBy replay.bound frames
  pub next : end ≡ frames_end replay.next frames
