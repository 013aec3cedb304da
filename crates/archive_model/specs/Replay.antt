-- Replayed frames: Aeron Archive documentation, "Replay"; docs/CONTROL.md, "Replays".
use Rattle.std.specs.Prelude.{ℕ, ℤ, pos, ◌+ℤ◌, ◌≤ℤ◌, ◌&&◌, ◌||◌, Bool, List, [], ◌∷◌, map, filter, take, int_le, int_lt, Option, Some, None, Result, Ok, Err, if◌then◌else◌}
use Rattle.std.specs.Ordering.{int_eq}
use Rattle.std.specs.List.{list_any}
use Rattle.frame_core.specs.declared.frame.Frame.{Frame}
use Rattle.frame_core.specs.declared.refusal.Refusal.{Refusal}
use Rattle.frame_core.specs.declared.refusal.Refusal.TheVariants.{UnknownRecording, BadPosition}
use Rattle.frame_core.specs.FrameEncoding.{aligned_length}
use Rattle.archive_model.specs.declared.reply.PolledFrame.{PolledFrame}
use Rattle.archive_model.specs.State.{Recording, State, id_of, recorded_position}
use Rattle.archive_model.specs.Keyed.{find}

-- frames, each with where it begins, the first one at a position
abbrev pub placed : ℤ → List Frame → List PolledFrame
placed at [] = []
placed at (f ∷ fs) = record { position = at; frame = f } ∷ placed (at +ℤ pos (aligned_length f)) fs

abbrev pub placed_frames : Recording → List PolledFrame
placed_frames r = placed r.descriptor.start_position r.frames

abbrev pub frames_in : List PolledFrame → List Frame
frames_in placed_ones = map (λ f. f.frame) placed_ones

-- begins at or after a position and before a bound
abbrev pub is_between : ℤ → ℤ → PolledFrame → Bool
is_between from bound f = int_le from f.position && int_lt f.position bound

-- the recorded frames that begin at or after a position and before a bound
abbrev pub replayed : ℤ → ℤ → Recording → List Frame
replayed from bound r = frames_in (filter (is_between from bound) (placed_frames r))

-- the first of them, so many as there are or as are asked for, with where each begins
abbrev pub polled : ℤ → ℤ → ℕ → Recording → List PolledFrame
polled from bound count r = take count (filter (is_between from bound) (placed_frames r))

-- each of these frames ends at or before a limit
abbrev pub EndBy : ℤ → List PolledFrame → Type 0
EndBy limit [] = Unit {0}
EndBy limit (f ∷ fs) = ((f.position +ℤ pos (aligned_length f.frame)) ≤ℤ limit) × EndBy limit fs

-- a recorded frame begins there
abbrev pub begins_frame : ℤ → Recording → Bool
begins_frame position r = list_any (λ f. int_eq position f.position) (placed_frames r)

-- a frame's beginning, the start or the recorded position
abbrev pub is_boundary : ℤ → Recording → Bool
is_boundary position r = int_eq position r.descriptor.start_position || int_eq position (recorded_position r) || begins_frame position r

-- what a replay of a recording that is or is not there answers
abbrev pub replay_of : Option Recording → ℤ → ℤ → Result (List Frame) Refusal
replay_of None from bound = Err UnknownRecording
replay_of (Some r) from bound = if is_boundary from r then Ok (replayed from bound r) else Err BadPosition

abbrev pub replay_in : State → ℤ → ℤ → ℤ → Result (List Frame) Refusal
replay_in s id from bound = replay_of (find id_of id s.recordings) from bound
