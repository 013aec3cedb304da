-- What a command leaves of one recording, and of its frames.
use Rattle.std.proofs.Common.{rules, ◌≡◌, ◌+◌, ◌<ℤ◌, ◌≤ℤ◌, ◌+ℤ◌, ℤ, pos, Bool, true, false, cond, List, [], ◌∷◌, ◌++◌, filter, Some, None, refl, ap, sym, subst, ◌∙◌, int_le, arith}
use Rattle.std.specs.Prelude.{IsTrue}
use Rattle.std.proofs.lemmas.Int.{ints}
use Rattle.std.proofs.lemmas.Bool.Decides.{Decides-int_eq}
use Rattle.std.specs.Ordering.{int_eq}
use Rattle.frame_core.specs.declared.frame.Frame.{Frame}
use Rattle.frame_core.specs.FrameEncoding.{aligned_length}
use Rattle.frame_core.specs.Block.{covered}
use Rattle.archive_model.specs.declared.command.Command.{Command}
use Rattle.archive_model.specs.declared.command.Command.TheVariants.{Start, Append, Stop, Extend, Truncate, PurgeSegments, PurgeRecording, Restart}
use Rattle.archive_model.specs.declared.reply.PolledFrame.{PolledFrame}
use Rattle.archive_model.specs.State.{Recording, State, id_of, recorded_position, registration_of}
use Rattle.archive_model.specs.Keyed.{find, change, without, Rise}
use Rattle.archive_model.specs.Register.{is_later_base}
use Rattle.archive_model.specs.Replay.{placed, frames_in}
use Rattle.archive_model.specs.Commands.{after, appended, ends_by, extended, fresh, purged, stopped, truncated}
use Rattle.archive_model.specs.Left.{left_of}
use Rattle.archive_model.specs.WellFormed.{IsKept, IsWell}
use Rattle.archive_model.proofs.CommandsLemmas.{find_kept, find_other, find_push, find_restarted}
use Rattle.archive_model.proofs.HistoriesLemmas.{covered-append}
use Rattle.archive_model.proofs.StateLemmas.{purged_ends}

-- the recording of the id is changed
find_same : (id : ℤ) (f : Recording → Recording) → ((r : Recording) → id_of (f r) ≡ id_of r) → (rs : List Recording) (r : Recording) → find id_of id rs ≡ Some r → find id_of id (change id_of id f rs) ≡ Some (f r)
find_same id f same [] r found = absurd cc
find_same id f same (x ∷ rs) r found = by (int_eq id (id_of x)) refl found (find_same id f same rs r)
  where
    by : (b : Bool) → int_eq id (id_of x) ≡ b → cond b (Some x) (find id_of id rs) ≡ Some r → (find id_of id rs ≡ Some r → find id_of id (change id_of id f rs) ≡ Some (f r))
        → find id_of id (cond b (f x ∷ rs) (x ∷ change id_of id f rs)) ≡ Some (f r)
    by true e is later =
        let one : x ≡ r = cc in
        let first : find id_of id (f x ∷ rs) ≡ Some (f x) = rw (same x, e) refl in first ∙ ap (λ (y : Recording). Some (f y)) one
    by false e is later = rw e (later is)

-- the recording of an id where one is changed, the same or another
find_change : (id other : ℤ) (f : Recording → Recording) → ((r : Recording) → id_of (f r) ≡ id_of r) → (rs : List Recording) (r : Recording) → find id_of id rs ≡ Some r
    → find id_of id (change id_of other f rs) ≡ Some (cond (int_eq id other) (f r) r)
find_change id other f same rs r found = by (int_eq id other) refl
  where
    by : (b : Bool) → int_eq id other ≡ b → find id_of id (change id_of other f rs) ≡ Some (cond b (f r) r)
    by true e = let one : id ≡ other = (Decides-int_eq id other).0 e in subst (λ (n : ℤ). find id_of id (change id_of n f rs) ≡ Some (f r)) one (find_same id f same rs r found)
    by false e = find_other id other f same e rs ∙ found

none_above : (id low next : ℤ) (rs : List Recording) → Rise id_of low rs next → id <ℤ low → find id_of id rs ≡ None
none_above id low next [] rising above = refl
none_above id low next (x ∷ rs) rising above = by (int_eq id (id_of x)) refl (none_above id (id_of x +ℤ pos 1) next rs rising.1 (omega (arith, ints, rising.0)))
  where
    by : (b : Bool) → int_eq id (id_of x) ≡ b → find id_of id rs ≡ None → cond b (Some x) (find id_of id rs) ≡ None
    by true e later = let one : id ≡ id_of x = (Decides-int_eq id (id_of x)).0 e in absurd (omega (arith, ints, rising.0))
    by false e later = later

-- the recording of the id is gone
find_gone : (id low next : ℤ) (rs : List Recording) → Rise id_of low rs next → find id_of id (without id_of id rs) ≡ None
find_gone id low next [] rising = refl
find_gone id low next (x ∷ rs) rising = by (int_eq id (id_of x)) refl (find_gone id (id_of x +ℤ pos 1) next rs rising.1)
  where
    by : (b : Bool) → int_eq id (id_of x) ≡ b → find id_of id (without id_of id rs) ≡ None → find id_of id (cond b rs (x ∷ without id_of id rs)) ≡ None
    by true e later = let one : id ≡ id_of x = (Decides-int_eq id (id_of x)).0 e in none_above id (id_of x +ℤ pos 1) next rs rising.1 (omega (arith, ints))
    by false e later = rw e later

find_without : (id other low next : ℤ) (rs : List Recording) (r : Recording) → Rise id_of low rs next → find id_of id rs ≡ Some r
    → find id_of id (without id_of other rs) ≡ cond (int_eq id other) None (Some r)
find_without id other low next rs r rising found = by (int_eq id other) refl
  where
    by : (b : Bool) → int_eq id other ≡ b → find id_of id (without id_of other rs) ≡ cond b None (Some r)
    by true e = let one : id ≡ other = (Decides-int_eq id other).0 e in subst (λ (n : ℤ). find id_of id (without id_of n rs) ≡ None) one (find_gone id low next rs rising)
    by false e = find_kept id other e rs ∙ found

-- a command changes the recording that it names, and no other
pub command_leaves : (s : State) (c : Command) → IsWell s → (id : ℤ) (r : Recording) → find id_of id s.recordings ≡ Some r → find id_of id (after s c).recordings ≡ left_of id c r
command_leaves s (Start f) well id r found = find_push id s.recordings (fresh s.next f ∷ []) r found
command_leaves s (Append other blocks) well id r found = find_change id other (appended blocks) (λ x. refl) s.recordings r found
command_leaves s (Stop other timestamp) well id r found = find_change id other (stopped timestamp) (λ x. refl) s.recordings r found
command_leaves s (Extend f) well id r found = find_change id f.recording (extended f.session_id) (λ x. refl) s.recordings r found
command_leaves s (Truncate other position) well id r found = find_change id other (truncated position) (λ x. refl) s.recordings r found
command_leaves s (PurgeSegments other position) well id r found = find_change id other (purged position) (λ x. refl) s.recordings r found
command_leaves s (PurgeRecording other) well id r found = find_without id other (pos 0) s.next s.recordings r well.rising found
command_leaves s Restart well id r found = find_restarted id s.recordings r found

le_true : (a b : ℤ) → int_le a b ≡ true → a ≤ℤ b
le_true a b e = search rules

true_le : (a b : ℤ) → a ≤ℤ b → int_le a b ≡ true
true_le a b e = search rules

-- from a position on each frame begins at or after it
all_behind : (p at : ℤ) (fs : List Frame) → p ≤ℤ at → frames_in (filter (λ (f : PolledFrame). int_le p f.position) (placed at fs)) ≡ fs
all_behind p at [] from = refl
all_behind p at (f ∷ fs) from = rw (true_le p at from) (ap (λ gs. f ∷ gs) (all_behind p (at +ℤ pos (aligned_length f)) fs (omega (arith, ints))))

-- the frames that begin at or after a position are the last ones
pub last_frames : (p at : ℤ) (fs : List Frame) → (gone : List Frame) × (fs ≡ gone ++ frames_in (filter (λ (f : PolledFrame). int_le p f.position) (placed at fs)))
last_frames p at [] = ([], refl)
last_frames p at (f ∷ fs) = by (int_le p at) refl (last_frames p (at +ℤ pos (aligned_length f)) fs)
  where
    rest : List PolledFrame
    rest = filter (λ (f : PolledFrame). int_le p f.position) (placed (at +ℤ pos (aligned_length f)) fs)

    by : (b : Bool) → int_le p at ≡ b → (gone : List Frame) × (fs ≡ gone ++ frames_in rest) → (gone : List Frame) × (f ∷ fs ≡ gone ++ frames_in (cond b (record { position = at; frame = f } ∷ rest) rest))
    by true e later = ([], ap (λ gs. f ∷ gs) (sym (all_behind p (at +ℤ pos (aligned_length f)) fs (let here = le_true p at e in omega (arith, ints)))))
    by false e (gone, is) = (f ∷ gone, ap (λ gs. f ∷ gs) is)

-- what a purge of segments leaves of a recording's frames
pub purge_leaves_last : (r : Recording) (position : ℤ) → IsKept r → IsTrue (is_later_base position (registration_of r))
    → (gone : List Frame) × (r.frames ≡ gone ++ (purged position r).frames) × (position ≡ r.descriptor.start_position +ℤ pos (covered gone))
purge_leaves_last r position kept base =
    let last = last_frames position r.descriptor.start_position r.frames in
    let ends : recorded_position (purged position r) ≡ recorded_position r = purged_ends r position kept base in
    let parts = covered-append last.0 (purged position r).frames in
    let all : covered r.frames ≡ covered (last.0 ++ (purged position r).frames) = ap covered last.1 in
    (last.0, last.1, omega (arith, ints, ends, parts, all))

-- behind a position no frame ends by it
none_by : (p at : ℤ) (fs : List Frame) → p <ℤ at → filter (ends_by p) (placed at fs) ≡ []
none_by p at [] behind = refl
none_by p at (f ∷ fs) behind = by (int_le (at +ℤ pos (aligned_length f)) p) refl (none_by p (at +ℤ pos (aligned_length f)) fs (omega (arith, ints)))
  where
    rest : List PolledFrame
    rest = filter (ends_by p) (placed (at +ℤ pos (aligned_length f)) fs)

    by : (b : Bool) → int_le (at +ℤ pos (aligned_length f)) p ≡ b → rest ≡ [] → cond b (record { position = at; frame = f } ∷ rest) rest ≡ []
    by true e later = let by_it = le_true (at +ℤ pos (aligned_length f)) p e in absurd (omega (arith, ints))
    by false e later = later

false_le : (a b : ℤ) → int_le a b ≡ false → b <ℤ a
false_le a b e = search rules

-- the frames that end at or before a position are the first ones
first_frames : (p at : ℤ) (fs : List Frame) → (cut : List Frame) × (fs ≡ frames_in (filter (ends_by p) (placed at fs)) ++ cut)
first_frames p at [] = ([], refl)
first_frames p at (f ∷ fs) = by (int_le (at +ℤ pos (aligned_length f)) p) refl (first_frames p (at +ℤ pos (aligned_length f)) fs)
  where
    rest : List PolledFrame
    rest = filter (ends_by p) (placed (at +ℤ pos (aligned_length f)) fs)

    by : (b : Bool) → int_le (at +ℤ pos (aligned_length f)) p ≡ b → (cut : List Frame) × (fs ≡ frames_in rest ++ cut)
        → (cut : List Frame) × (f ∷ fs ≡ frames_in (cond b (record { position = at; frame = f } ∷ rest) rest) ++ cut)
    by true e (cut, is) = (cut, ap (λ gs. f ∷ gs) is)
    by false e later =
        let none : rest ≡ [] = none_by p (at +ℤ pos (aligned_length f)) fs (false_le (at +ℤ pos (aligned_length f)) p e) in
        (f ∷ fs, ap (λ (gs : List PolledFrame). frames_in gs ++ f ∷ fs) (sym none))

pub truncation_leaves_first : (r : Recording) (position : ℤ) → (cut : List Frame) × (r.frames ≡ (truncated position r).frames ++ cut)
truncation_leaves_first r position = first_frames position r.descriptor.start_position r.frames
