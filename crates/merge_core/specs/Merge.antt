-- A replay merged into the live stream: docs/PROTOCOL.md, "Merging a replay into the live stream".
use Rattle.std.specs.Prelude.{◌+◌, ◌==◌, ◌||◌, ℕ, nat_lt, nat_le, Bool, true, false, if◌then◌else◌, List, [], length, Option, None, Some, is_some, Result, Ok, Err}
use Rattle.std.specs.Ordering.{nat_cmp}
use Rattle.std.specs.List.{list_any}
use Rattle.std.specs.Map.{lookup, remove_entry}
use Rattle.std.specs.BTreeMap.{insert_entry, is_at}
use Rattle.std.specs.BTreeSet.{insert_key}
use Rattle.frame_core.specs.declared.frame.FrameKind.{FrameKind}
use Rattle.frame_core.specs.declared.frame.FrameKind.TheVariants.{Pad, Message, Heartbeat}
use Rattle.frame_core.specs.declared.frame.Frame.{Frame}
use Rattle.frame_core.specs.declared.geometry.Geometry.{Geometry}
use Rattle.frame_core.specs.declared.refusal.Refusal.{Refusal}
use Rattle.frame_core.specs.declared.refusal.Refusal.TheVariants.{BadBlock, BadPosition}
use Rattle.frame_core.specs.FrameEncoding.{aligned_length}
use Rattle.frame_core.specs.Position.{frame_position}
use Rattle.merge_core.specs.declared.merge.Offered.{Offered}
use Rattle.merge_core.specs.declared.merge.Offered.TheVariants.{Held, Ignored, Full}

-- where the output stands, the frames that are held, by rising position, the ends of live frames at which the live stream may
-- be joined, by rising position, and whether it has been joined
pub record Merging : Type 0 where
  pub geometry : Geometry
  pub cursor : ℕ
  pub held : List (ℕ × Frame)
  pub live_ends : List ℕ
  pub is_merged : Bool

-- a merge begins at a position
abbrev pub opened_merge : Geometry → ℕ → Merging
opened_merge g position = record { geometry = g; cursor = position; held = []; live_ends = []; is_merged = false }

-- the frame that is held at a position
abbrev pub held_at : ℕ → Merging → Option Frame
held_at p m = lookup (is_at (nat_cmp p)) m.held

-- what becomes of a frame that is offered at a position
abbrev pub offered_at : ℕ → Merging → Offered
offered_at p m =
    if nat_lt p m.cursor || is_some (held_at p m) then Ignored
    else (if nat_le 4096 (length m.held) then Full else Held)

-- why a frame can't be offered, or its position
abbrev pub offer_of : FrameKind → Option ℕ → Result ℕ Refusal
offer_of Heartbeat position = Err BadBlock
offer_of Pad None = Err BadPosition
offer_of Pad (Some p) = Ok p
offer_of Message None = Err BadPosition
offer_of Message (Some p) = Ok p

abbrev pub offer_position : Geometry → Frame → Result ℕ Refusal
offer_position g f = offer_of f.kind (frame_position g f)

-- the answer to the offer of a frame, of the replay or live
abbrev pub answer_at : Merging → Result ℕ Refusal → Result Offered Refusal
answer_at m (Err refusal) = Err refusal
answer_at m (Ok p) = Ok (offered_at p m)

abbrev pub answer_to : Frame → Merging → Result Offered Refusal
answer_to f m = answer_at m (offer_position m.geometry f)

-- a frame that is offered so is held, or nothing changes
abbrev pub with_frame : ℕ → Frame → Offered → Merging → Merging
with_frame p f Held m = record m { held = insert_entry nat_cmp m.held p f }
with_frame p f Ignored m = m
with_frame p f Full m = m

-- whether a number is one of these
abbrev pub is_among : ℕ → List ℕ → Bool
is_among q ks = list_any (is_at (nat_cmp q)) ks

-- whether the frame that is held at a position ends there
abbrev pub ends_at : ℕ → ℕ → Option Frame → Bool
ends_at end p None = false
ends_at end p (Some f) = (p + aligned_length f) == end

-- whether the live stream may be joined at the end of a live frame that was offered so: it was held, or it was ignored and its
-- end is the cursor, or a held frame has its position and end
abbrev pub joins_at : ℕ → ℕ → Offered → Merging → Bool
joins_at end p Held m = true
joins_at end p Ignored m = end == m.cursor || ends_at end p (held_at p m)
joins_at end p Full m = false

-- whether the merge is at such an end, or has been
abbrev pub is_joined : ℕ → Merging → Bool
is_joined end m = m.is_merged || end == m.cursor

-- such an end is kept until the live stream is joined
abbrev pub with_live_end : ℕ → Merging → Merging
with_live_end end m = record m {
  live_ends = if is_joined end m then m.live_ends else insert_key nat_cmp m.live_ends end;
  is_merged = is_joined end m;
}

-- after the offer of a frame of the replay
abbrev pub after_replay_at : Frame → Merging → Result ℕ Refusal → Merging
after_replay_at f m (Err refusal) = m
after_replay_at f m (Ok p) = with_frame p f (offered_at p m) m

abbrev pub after_replay_frame : Frame → Merging → Merging
after_replay_frame f m = after_replay_at f m (offer_position m.geometry f)

-- after the offer of a live frame
abbrev pub after_live_at : Frame → Merging → Result ℕ Refusal → Merging
after_live_at f m (Err refusal) = m
after_live_at f m (Ok p) =
    if joins_at (p + aligned_length f) p (offered_at p m) m then with_live_end (p + aligned_length f) (with_frame p f (offered_at p m) m)
    else with_frame p f (offered_at p m) m

abbrev pub after_live_frame : Frame → Merging → Merging
after_live_frame f m = after_live_at f m (offer_position m.geometry f)

-- the frame that is held at the cursor: the next one of the output
abbrev pub next_frame : Merging → Option Frame
next_frame m = held_at m.cursor m

-- after it is taken: the cursor is at its end
abbrev pub past : Option Frame → Merging → Merging
past None m = m
past (Some f) m = record m {
  cursor = m.cursor + aligned_length f;
  held = remove_entry (is_at (nat_cmp m.cursor)) m.held;
  is_merged = m.is_merged || is_among (m.cursor + aligned_length f) m.live_ends;
}

abbrev pub after_take : Merging → Merging
after_take m = past (next_frame m) m
