-- How many frames a merge holds.
use Rattle.std.proofs.Common.{◌≡◌, ◌<◌, ◌≤◌, ◌+◌, ◌||◌, ℕ, Bool, true, false, if◌then◌else◌, List, [], ◌∷◌, Option, None, Some, refl, arith, rules}
use Rattle.std.specs.Prelude.{Result, Ok, Err, length, cond, nat_le, nat_lt, is_some}
use Rattle.std.specs.Ordering.{nat_cmp, match_ordering, is_eq}
use Rattle.std.specs.Map.{remove_entry}
use Rattle.std.specs.BTreeMap.{insert_entry, is_at}
use Rattle.frame_core.specs.declared.frame.Frame.{Frame}
use Rattle.frame_core.specs.declared.geometry.Geometry.{Geometry}
use Rattle.frame_core.specs.declared.refusal.Refusal.{Refusal}
use Rattle.frame_core.specs.FrameEncoding.{aligned_length}
use Rattle.frame_core.proofs.OrderLemmas.{by_cmp}
use Rattle.merge_core.specs.declared.merge.Offered.{Offered}
use Rattle.merge_core.specs.declared.merge.Offered.TheVariants.{Held, Ignored, Full}
use Rattle.merge_core.specs.Merge.{Merging, opened_merge, offer_position, offered_at, with_frame, with_live_end, joins_at, after_replay_at, after_live_at, held_at, next_frame, past}
use Rattle.merge_core.specs.Runs.{MergeStep, after_step, after_steps}
use Rattle.merge_core.specs.Runs.MergeStep.{ReplayFrame, LiveFrame, Take}

length_inserted : (es : List (ℕ × Frame)) (p : ℕ) (f : Frame) → length (insert_entry nat_cmp es p f) ≤ length es + 1
length_inserted [] p f = omega arith
length_inserted (e ∷ es) p f =
    by_cmp (λ o. length (match_ordering o ((p, f) ∷ e ∷ es) ((e.0, f) ∷ es) (e ∷ insert_entry nat_cmp es p f)) ≤ length (e ∷ es) + 1) p e.0
    (λ h. omega arith) (λ h. omega arith) (λ h. let few = length_inserted es p f in omega (arith, few))

length_removed : (es : List (ℕ × Frame)) (p : ℕ) → length (remove_entry (is_at (nat_cmp p)) es) ≤ length es
length_removed [] p = omega arith
length_removed (e ∷ es) p =
    by_cmp (λ o. length (cond (is_eq o) es (e ∷ remove_entry (is_at (nat_cmp p)) es)) ≤ length (e ∷ es)) p e.0
    (λ h. let few = length_removed es p in omega (arith, few)) (λ h. omega arith) (λ h. let few = length_removed es p in omega (arith, few))

room_when : (ignored full : Bool) → (if ignored then Ignored else (if full then Full else Held)) ≡ Held → full ≡ false
room_when true full held = search (rules, held)
room_when false true held = search (rules, held)
room_when false false held = refl

IsFew : Merging → Type 0
IsFew m = length m.held ≤ 4096

few_frame : (m : Merging) (p : ℕ) (f : Frame) (offered : Offered) → offered_at p m ≡ offered → IsFew m → IsFew (with_frame p f offered m)
unfolding IsFew
few_frame m p f Held is few =
    let full : nat_le 4096 (length m.held) ≡ false = room_when (nat_lt p m.cursor || is_some (held_at p m)) (nat_le 4096 (length m.held)) is in
    let room : length m.held < 4096 = grind (arith, full) in
    omega (arith, room, length_inserted m.held p f)
few_frame m p f Ignored is few = few
few_frame m p f Full is few = few

few_end : (joins : Bool) (end : ℕ) (m : Merging) → IsFew m → IsFew (if joins then with_live_end end m else m)
unfolding IsFew
few_end true end m few = few
few_end false end m few = few

few_replay : (m : Merging) (f : Frame) (found : Result ℕ Refusal) → IsFew m → IsFew (after_replay_at f m found)
few_replay m f (Err refusal) few = few
few_replay m f (Ok p) few = few_frame m p f (offered_at p m) refl few

few_live : (m : Merging) (f : Frame) (found : Result ℕ Refusal) → IsFew m → IsFew (after_live_at f m found)
few_live m f (Err refusal) few = few
few_live m f (Ok p) few =
    few_end (joins_at (p + aligned_length f) p (offered_at p m) m) (p + aligned_length f) (with_frame p f (offered_at p m) m) (few_frame m p f (offered_at p m) refl few)

few_take : (m : Merging) (found : Option Frame) → IsFew m → IsFew (past found m)
unfolding IsFew
few_take m None few = few
few_take m (Some f) few = omega (arith, few, length_removed m.held m.cursor)

few_step : (step : MergeStep) (m : Merging) → IsFew m → IsFew (after_step step m)
few_step (ReplayFrame f) m few = few_replay m f (offer_position m.geometry f) few
few_step (LiveFrame f) m few = few_live m f (offer_position m.geometry f) few
few_step Take m few = few_take m (next_frame m) few

few_after : (steps : List MergeStep) (m : Merging) → IsFew m → IsFew (after_steps steps m)
few_after [] m few = few
few_after (step ∷ steps) m few = few_after steps (after_step step m) (few_step step m few)

-- at most 4,096 frames are held
pub few_frames : (g : Geometry) (position : ℕ) (steps : List MergeStep) → length (after_steps steps (opened_merge g position)).held ≤ 4096
unfolding IsFew
few_frames g position steps = few_after steps (opened_merge g position) (omega arith)
