-- When the live stream is joined.
use Rattle.std.proofs.Common.{◌≡◌, ◌+◌, ◌==◌, ◌||◌, ℕ, Bool, true, false, if◌then◌else◌, List, [], ◌∷◌, ◌++◌, Option, None, Some, refl, sym, ap, ◌∙◌, subst, append-nil, append_assoc}
use Rattle.std.specs.Prelude.{Result, Ok, Err, IsTrue, ◌↔◌}
use Rattle.std.proofs.lemmas.List.Folds.{list_any-append}
use Rattle.std.specs.Ordering.{nat_cmp}
use Rattle.std.specs.BTreeMap.{is_at}
use Rattle.std.specs.BTreeSet.{insert_key}
use Rattle.frame_core.specs.declared.frame.Frame.{Frame}
use Rattle.frame_core.specs.declared.geometry.Geometry.{Geometry}
use Rattle.frame_core.specs.declared.refusal.Refusal.{Refusal}
use Rattle.frame_core.specs.FrameEncoding.{aligned_length}
use Rattle.merge_core.specs.declared.merge.Offered.{Offered}
use Rattle.merge_core.specs.declared.merge.Offered.TheVariants.{Held, Ignored, Full}
use Rattle.merge_core.specs.Merge.{Merging, opened_merge, offer_position, offered_at, is_among, with_frame, with_live_end, joins_at, after_replay_at, after_live_at, next_frame, past}
use Rattle.merge_core.specs.Runs.{MergeStep, after_step, after_steps, live_end_at, live_end_of, live_ends_of, IsJoinedFrom, IsJoined}
use Rattle.merge_core.specs.Runs.MergeStep.{ReplayFrame, LiveFrame, Take}
use Rattle.merge_core.proofs.EndLemmas.{same_at, among_inserted}

-- the live stream is joined if the cursor is one of these ends; until then these are the ends that are kept
record Stands (ends : List ℕ) (m : Merging) : Type 0 where
  joined : m.is_merged ≡ is_among m.cursor ends
  kept : m.is_merged ≡ false → (e : ℕ) → is_among e m.live_ends ≡ is_among e ends

none_more : (ends : List ℕ) (m : Merging) → Stands ends m → Stands (ends ++ []) m
none_more ends m s = subst (λ es. Stands es m) (sym (append-nil ends)) s

frame_stands : (ends : List ℕ) (m : Merging) (p : ℕ) (f : Frame) (offered : Offered) → Stands ends m → Stands ends (with_frame p f offered m)
frame_stands ends m p f Held s = record { joined = s.joined; kept = s.kept }
frame_stands ends m p f Ignored s = s
frame_stands ends m p f Full s = s

frame_unjoined : (m : Merging) (p : ℕ) (f : Frame) (offered : Offered) → m.is_merged ≡ false → (with_frame p f offered m).is_merged ≡ false
frame_unjoined m p f Held unjoined = unjoined
frame_unjoined m p f Ignored unjoined = unjoined
frame_unjoined m p f Full unjoined = unjoined

one_more : (ends : List ℕ) (end q : ℕ) → is_among q (ends ++ end ∷ []) ≡ (is_among q ends || (is_at (nat_cmp q) end || false))
one_more ends end q = list_any-append (is_at (nat_cmp q)) ends (end ∷ [])

or_none : (a b : Bool) → (a || b) ≡ (b || (a || false))
or_none true true = refl
or_none true false = refl
or_none false true = refl
or_none false false = refl

kept_by : (at : Bool) (kept ends : List ℕ) (end : ℕ) → ((e : ℕ) → is_among e kept ≡ is_among e ends) → at ≡ false
    → (e : ℕ) → is_among e (if at then kept else insert_key nat_cmp kept end) ≡ is_among e (ends ++ end ∷ [])
kept_by true kept ends end same unjoined e = absurd (cc)
kept_by false kept ends end same unjoined e =
    among_inserted kept end e ∙ ap (λ b. is_at (nat_cmp e) end || b) (same e) ∙ or_none (is_at (nat_cmp e) end) (is_among e ends) ∙ sym (one_more ends end e)

-- one end more at which the live stream may be joined
end_stands : (ends : List ℕ) (m : Merging) (end : ℕ) → Stands ends m → m.is_merged ≡ false → Stands (ends ++ end ∷ []) (with_live_end end m)
end_stands ends m end s unjoined = record {
  joined = ap (λ b. b || (end == m.cursor)) s.joined ∙ ap (λ b. is_among m.cursor ends || b) (sym (same_at m.cursor end)) ∙ last (is_among m.cursor ends) (is_at (nat_cmp m.cursor) end)
      ∙ sym (one_more ends end m.cursor);
  kept = λ not_joined. kept_by (m.is_merged || (end == m.cursor)) m.live_ends ends end (s.kept unjoined) not_joined;
}
  where
    last : (a b : Bool) → (a || b) ≡ (a || (b || false))
    last true b = refl
    last false true = refl
    last false false = refl

live_stands : (ends : List ℕ) (m : Merging) (f : Frame) (found : Result ℕ Refusal) → Stands ends m → m.is_merged ≡ false
    → Stands (ends ++ live_end_at f m found) (after_live_at f m found)
live_stands ends m f (Err refusal) s unjoined = none_more ends m s
live_stands ends m f (Ok p) s unjoined = by_join (joins_at (p + aligned_length f) p (offered_at p m) m) where
  by_join : (joins : Bool) → Stands (ends ++ (if joins then (p + aligned_length f) ∷ [] else []))
      (if joins then with_live_end (p + aligned_length f) (with_frame p f (offered_at p m) m) else with_frame p f (offered_at p m) m)
  by_join true = end_stands ends (with_frame p f (offered_at p m) m) (p + aligned_length f) (frame_stands ends m p f (offered_at p m) s) (frame_unjoined m p f (offered_at p m) unjoined)
  by_join false = none_more ends (with_frame p f (offered_at p m) m) (frame_stands ends m p f (offered_at p m) s)

replay_stands : (ends : List ℕ) (m : Merging) (f : Frame) (found : Result ℕ Refusal) → Stands ends m → Stands ends (after_replay_at f m found)
replay_stands ends m f (Err refusal) s = s
replay_stands ends m f (Ok p) s = frame_stands ends m p f (offered_at p m) s

take_stands : (ends : List ℕ) (m : Merging) (found : Option Frame) → Stands ends m → m.is_merged ≡ false → Stands ends (past found m)
take_stands ends m None s unjoined = s
take_stands ends m (Some f) s unjoined = record {
  joined = ap (λ b. b || is_among (m.cursor + aligned_length f) m.live_ends) unjoined ∙ s.kept unjoined (m.cursor + aligned_length f);
  kept = λ not_joined. s.kept unjoined;
}

step_stands : (step : MergeStep) (ends : List ℕ) (m : Merging) → Stands ends m → m.is_merged ≡ false → Stands (ends ++ live_end_of step m) (after_step step m)
step_stands (ReplayFrame f) ends m s unjoined = none_more ends (after_step (ReplayFrame f) m) (replay_stands ends m f (offer_position m.geometry f) s)
step_stands (LiveFrame f) ends m s unjoined = live_stands ends m f (offer_position m.geometry f) s unjoined
step_stands Take ends m s unjoined = none_more ends (after_step Take m) (take_stands ends m (next_frame m) s unjoined)

-- what is joined stays so
frame_merged : (m : Merging) (p : ℕ) (f : Frame) (offered : Offered) → m.is_merged ≡ true → (with_frame p f offered m).is_merged ≡ true
frame_merged m p f Held is = is
frame_merged m p f Ignored is = is
frame_merged m p f Full is = is

live_merged : (m : Merging) (f : Frame) (found : Result ℕ Refusal) → m.is_merged ≡ true → (after_live_at f m found).is_merged ≡ true
live_merged m f (Err refusal) is = is
live_merged m f (Ok p) is = by_join (joins_at (p + aligned_length f) p (offered_at p m) m) where
  by_join : (joins : Bool) → (if joins then with_live_end (p + aligned_length f) (with_frame p f (offered_at p m) m) else with_frame p f (offered_at p m) m).is_merged ≡ true
  by_join true = rw (frame_merged m p f (offered_at p m) is) refl
  by_join false = frame_merged m p f (offered_at p m) is

replay_merged : (m : Merging) (f : Frame) (found : Result ℕ Refusal) → m.is_merged ≡ true → (after_replay_at f m found).is_merged ≡ true
replay_merged m f (Err refusal) is = is
replay_merged m f (Ok p) is = frame_merged m p f (offered_at p m) is

take_merged : (m : Merging) (found : Option Frame) → m.is_merged ≡ true → (past found m).is_merged ≡ true
take_merged m None is = is
take_merged m (Some f) is = ap (λ b. b || is_among (m.cursor + aligned_length f) m.live_ends) is

step_merged : (step : MergeStep) (m : Merging) → m.is_merged ≡ true → (after_step step m).is_merged ≡ true
step_merged (ReplayFrame f) m is = replay_merged m f (offer_position m.geometry f) is
step_merged (LiveFrame f) m is = live_merged m f (offer_position m.geometry f) is
step_merged Take m is = take_merged m (next_frame m) is

merged_stays : (steps : List MergeStep) (m : Merging) → m.is_merged ≡ true → (after_steps steps m).is_merged ≡ true
merged_stays [] m is = is
merged_stays (step ∷ steps) m is = merged_stays steps (after_step step m) (step_merged step m is)

by_bool : (b : Bool) {P : Type 0} → (b ≡ true → P) → (b ≡ false → P) → P
by_bool true joined unjoined = joined refl
by_bool false joined unjoined = unjoined refl

-- where the merge says that the live stream is joined, it is
joined_on : (steps : List MergeStep) (ends : List ℕ) (m : Merging) → Stands ends m → (after_steps steps m).is_merged ≡ true → IsJoinedFrom ends steps m
joined_on [] ends m s is = record { before = []; rest = []; whole = refl; reached = ap (is_among m.cursor) (append-nil ends) ∙ sym s.joined ∙ is }
joined_on (step ∷ steps) ends m s is =
    by_bool m.is_merged
    (λ now. record { before = []; rest = step ∷ steps; whole = refl; reached = ap (is_among m.cursor) (append-nil ends) ∙ sym s.joined ∙ now })
    (λ unjoined.
    let j = joined_on steps (ends ++ live_end_of step m) (after_step step m) (step_stands step ends m s unjoined) is in
    record {
      before = step ∷ j.before;
      rest = j.rest;
      whole = ap (λ more. step ∷ more) j.whole;
      reached = ap (is_among (after_steps j.before (after_step step m)).cursor) (sym (append_assoc ends (live_end_of step m) (live_ends_of j.before (after_step step m)))) ∙ j.reached;
    })

-- and where it is, the merge says so
joined_back : (before rest : List MergeStep) (ends : List ℕ) (m : Merging) → Stands ends m → is_among (after_steps before m).cursor (ends ++ live_ends_of before m) ≡ true → (after_steps (before ++ rest) m).is_merged ≡ true
joined_back [] rest ends m s reached = merged_stays rest m (s.joined ∙ ap (is_among m.cursor) (sym (append-nil ends)) ∙ reached)
joined_back (step ∷ before) rest ends m s reached =
    by_bool m.is_merged (merged_stays (step ∷ before ++ rest) m)
    (λ unjoined. joined_back before rest (ends ++ live_end_of step m) (after_step step m) (step_stands step ends m s unjoined)
    (ap (is_among (after_steps before (after_step step m)).cursor) (append_assoc ends (live_end_of step m) (live_ends_of before (after_step step m))) ∙ reached))

-- a merge says that the live stream is joined exactly where it is by the steps so far
pub merged_is_joined : (g : Geometry) (position : ℕ) (steps : List MergeStep)
    → IsTrue (after_steps steps (opened_merge g position)).is_merged ↔ IsJoined steps (opened_merge g position)
merged_is_joined g position steps =
    let start : Stands [] (opened_merge g position) = record { joined = refl; kept = λ unjoined e. refl } in (
      joined_on steps [] (opened_merge g position) start,
      λ j. subst (λ all. (after_steps all (opened_merge g position)).is_merged ≡ true) (sym j.whole) (joined_back j.before j.rest [] (opened_merge g position) start j.reached),
    )
