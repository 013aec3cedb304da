-- What becomes of a frame, by cases.
use Rattle.std.proofs.Common.{◌≡◌, refl, ◌+◌, ℕ, true, Some, None}
use Rattle.std.specs.Prelude.{Option, if◌then◌else◌}
use Rattle.std.proofs.lemmas.Bool.{cond_both}
use Rattle.frame_core.specs.declared.frame.FrameKind.{FrameKind}
use Rattle.frame_core.specs.declared.frame.FrameKind.TheVariants.{Heartbeat, Message, Pad}
use Rattle.frame_core.specs.declared.frame.Frame.{Frame}
use Rattle.frame_core.specs.FrameEncoding.{aligned_length}
use Rattle.frame_core.specs.Position.{frame_position}
use Rattle.image_core.specs.declared.fate.Fate.{Fate}
use Rattle.image_core.specs.declared.fate.Fate.TheVariants.{Drops, Joins, Tells}
use Rattle.image_core.specs.Received.{Received, fate_of, frame_fate, heartbeat_fate, is_of, is_open, joining_position}

-- a frame joins where it may lie and nothing speaks against it, or is dropped
pub by_joining_position : (P : Fate → Type 0) (r : Received) (f : Frame) (o : Option ℕ) → joining_position r.geometry r.publication f ≡ o
    → ((p : ℕ) → joining_position r.geometry r.publication f ≡ Some p → is_open r p (p + aligned_length f) ≡ true → P (Joins p)) → P Drops → P (frame_fate r f o)
by_joining_position P r f None is joins drops = drops
by_joining_position P r f (Some p) is joins drops = cond_both (is_open r p (p + aligned_length f)) (Joins p) Drops P (joins p is) (λ shut. drops)

by_position : (P : Fate → Type 0) (o : Option ℕ) → ((p : ℕ) → P (Tells p)) → P Drops → P (heartbeat_fate o)
by_position P None tells drops = drops
by_position P (Some p) tells drops = tells p

-- it joins, tells a position or is dropped
pub by_kind : (P : Fate → Type 0) (r : Received) (f : Frame) (kind : FrameKind)
    → ((p : ℕ) → joining_position r.geometry r.publication f ≡ Some p → is_open r p (p + aligned_length f) ≡ true → P (Joins p)) → ((p : ℕ) → P (Tells p)) → P Drops → P (fate_of kind r f)
by_kind P r f Pad joins tells drops = by_joining_position P r f (joining_position r.geometry r.publication f) refl joins drops
by_kind P r f Message joins tells drops = by_joining_position P r f (joining_position r.geometry r.publication f) refl joins drops
by_kind P r f Heartbeat joins tells drops = by_position P (if is_of r.publication f then frame_position r.geometry f else None) tells drops
