-- What comes out of some offers and takes, in order, and when the live stream is joined:
-- docs/PROTOCOL.md, "Merging a replay into the live stream".
use Rattle.std.specs.Prelude.{◌≡◌, ◌<◌, ◌+◌, ◌==◌, ℕ, true, if◌then◌else◌, List, [], ◌∷◌, ◌++◌, Option, None, Some, Result, Ok, Err, Contains}
use Rattle.frame_core.specs.declared.frame.Frame.{Frame}
use Rattle.frame_core.specs.declared.geometry.Geometry.{Geometry}
use Rattle.frame_core.specs.declared.refusal.Refusal.{Refusal}
use Rattle.frame_core.specs.FrameEncoding.{aligned_length}
use Rattle.frame_core.specs.Position.{frame_position}
use Rattle.merge_core.specs.Merge.{Merging, offer_position, offered_at, is_among, joins_at, after_replay_frame, after_live_frame, after_take, next_frame}

-- a frame of the replay is offered, a live one is, or the next frame of the output is taken
pub data MergeStep : Type 0 where
  ReplayFrame : (f : Frame) → MergeStep
  LiveFrame : (f : Frame) → MergeStep
  Take : MergeStep

-- after a step
abbrev pub after_step : MergeStep → Merging → Merging
after_step (ReplayFrame f) m = after_replay_frame f m
after_step (LiveFrame f) m = after_live_frame f m
after_step Take m = after_take m

-- after some steps
abbrev pub after_steps : List MergeStep → Merging → Merging
after_steps [] m = m
after_steps (step ∷ steps) m = after_steps steps (after_step step m)

-- what comes out: the frame that is held at the cursor, each time that one is there
abbrev pub taken : Option Frame → List Frame
taken None = []
taken (Some f) = f ∷ []

abbrev pub output : List MergeStep → Merging → List Frame
output [] m = []
output (ReplayFrame f ∷ steps) m = output steps (after_replay_frame f m)
output (LiveFrame f ∷ steps) m = output steps (after_live_frame f m)
output (Take ∷ steps) m = taken (next_frame m) ++ output steps (after_take m)

-- frames that follow one another from a position, each of which covers some bytes
abbrev pub FramesFollow : Geometry → ℕ → List Frame → Type 0
FramesFollow g p [] = Unit {0}
FramesFollow g p (f ∷ fs) = (frame_position g f ≡ Some p) × (0 < aligned_length f) × FramesFollow g (p + aligned_length f) fs

-- each frame that is offered is one of a stream
abbrev pub AreOf : List Frame → List MergeStep → Type 0
AreOf stream [] = Unit {0}
AreOf stream (ReplayFrame f ∷ steps) = Contains stream f × AreOf stream steps
AreOf stream (LiveFrame f ∷ steps) = Contains stream f × AreOf stream steps
AreOf stream (Take ∷ steps) = AreOf stream steps

-- what a stream that begins at `start` has from a position on; nothing where none of its frames begins there
abbrev pub from : ℕ → ℕ → List Frame → List Frame
from position start [] = []
from position start (f ∷ fs) = if position == start then f ∷ fs else from position (start + aligned_length f) fs

-- the one list is a beginning of the other
abbrev pub IsBeginning : List Frame → List Frame → Type 0
IsBeginning xs ys = (rest : List Frame) × (ys ≡ xs ++ rest)

-- the end of a live frame that is offered, where the live stream may be joined there
abbrev pub live_end_at : Frame → Merging → Result ℕ Refusal → List ℕ
live_end_at f m (Err refusal) = []
live_end_at f m (Ok p) = if joins_at (p + aligned_length f) p (offered_at p m) m then (p + aligned_length f) ∷ [] else []

abbrev pub live_end_of : MergeStep → Merging → List ℕ
live_end_of (ReplayFrame f) m = []
live_end_of (LiveFrame f) m = live_end_at f m (offer_position m.geometry f)
live_end_of Take m = []

-- the ends of live frames at which the live stream may be joined, over some steps
abbrev pub live_ends_of : List MergeStep → Merging → List ℕ
live_ends_of [] m = []
live_ends_of (step ∷ steps) m = live_end_of step m ++ live_ends_of steps (after_step step m)

-- at some moment of the steps the cursor is one of those ends, or of some others, of the steps before
pub record IsJoinedFrom (ends : List ℕ) (steps : List MergeStep) (m : Merging) : Type 0 where
  pub before : List MergeStep
  pub rest : List MergeStep
  pub whole : steps ≡ before ++ rest
  pub reached : is_among (after_steps before m).cursor (ends ++ live_ends_of before m) ≡ true

-- at some moment of the steps the cursor is the end of a live frame that was offered before, at which the live stream may be
-- joined
abbrev pub IsJoined : List MergeStep → Merging → Type 0
IsJoined steps m = IsJoinedFrom [] steps m
