-- What a poll gives of a recording that is kept, from a boundary on.
use Rattle.std.proofs.Common.{◌≡◌, ◌≢◌, ◌<◌, ◌+ℤ◌, ◌≤ℤ◌, ◌<ℤ◌, ◌⊎◌, inl, inr, ◌||◌, ℕ, zero, suc, ℤ, pos, Bool, true, false, cond, List, [], ◌∷◌, filter, take, refl, sym, ◌∙◌, true≢false, int_le, int_lt, rules, arith}
use Rattle.std.specs.Ordering.{int_eq}
use Rattle.std.specs.List.{list_any}
use Rattle.std.proofs.lemmas.Int.{ints}
use Rattle.std.proofs.lemmas.Bool.Decides.{Decides-int_eq}
use Rattle.frame_core.specs.declared.frame.Frame.{Frame}
use Rattle.frame_core.specs.declared.frame.FrameKind.{FrameKind}
use Rattle.frame_core.specs.declared.frame.FrameKind.TheVariants.{Heartbeat, Message, Pad}
use Rattle.frame_core.specs.Block.{AreEncodable, covered}
use Rattle.frame_core.specs.FrameEncoding.{HasLength, aligned_length}
use Rattle.archive_model.specs.declared.reply.PolledFrame.{PolledFrame}
use Rattle.archive_model.specs.Keyed.{Each}
use Rattle.archive_model.specs.State.{Recording, recorded_position, registration_of}
use Rattle.archive_model.specs.Replay.{EndBy, begins_frame, is_between, is_boundary, placed, placed_frames, polled}
use Rattle.archive_model.specs.WellFormed.{IsKept, IsOfStream}
use Rattle.archive_model.proofs.ReplayLemmas.{polled_end}
use Rattle.archive_model.proofs.WellLemmas.{both}
use Rattle.control_core.specs.declared.callers.OpenReplay.{OpenReplay}
use Rattle.control_core.specs.Machine.{MovesReplay}
use Rattle.control_core.specs.Exact.{frames_end}

pub le_true : (a b : ℤ) → int_le a b ≡ true → a ≤ℤ b
le_true a b e = search rules

lt_true : (a b : ℤ) → int_lt a b ≡ true → a <ℤ b
lt_true a b e = search rules

pub lt_false : (a b : ℤ) → int_lt a b ≡ false → b ≤ℤ a
lt_false a b e = search rules

is_lt : (a b : ℤ) → a <ℤ b → int_lt a b ≡ true
is_lt a b e = search rules

is_le : (a b : ℤ) → a ≤ℤ b → int_le a b ≡ true
is_le a b e = search rules

-- a frame of a recording covers some bytes
some_bytes : (kind : FrameKind) (f : Frame) → kind ≢ Heartbeat → HasLength kind f.length f.payload → 0 < aligned_length f
some_bytes Pad f other long = omega (arith, ints, long.0)
some_bytes Message f other long = omega (arith, ints, long)
some_bytes Heartbeat f other long = absurd (other refl)

abbrev pub IsSome : PolledFrame → Type 0
IsSome f = 0 < aligned_length f.frame

some_placed : (stream at : ℤ) (fs : List Frame) → Each (IsOfStream stream) fs → AreEncodable fs → Each IsSome (placed at fs)
some_placed stream at [] of encodable = tt
some_placed stream at (f ∷ fs) of encodable = (some_bytes f.kind f of.0.kind encodable.0.length, some_placed stream (at +ℤ pos (aligned_length f)) fs of.1 encodable.1)

module _ {X : Type 0} (P : X → Type 0) where
  each_left : (test : X → Bool) (xs : List X) → Each P xs → Each (λ x. P x × (test x ≡ true)) (filter test xs)
  each_left test [] all = tt
  each_left test (x ∷ xs) all = by (test x) refl (each_left test xs all.1)
    where
      by : (b : Bool) → test x ≡ b → Each (λ y. P y × (test y ≡ true)) (filter test xs) → Each (λ y. P y × (test y ≡ true)) (cond b (x ∷ filter test xs) (filter test xs))
      by true is rest = ((all.0, is), rest)
      by false is rest = rest

  pub each_first : (n : ℕ) (xs : List X) → Each P xs → Each P (take n xs)
  each_first zero xs all = tt
  each_first (suc n) [] all = tt
  each_first (suc n) (x ∷ xs) all = (all.0, each_first n xs all.1)

-- a frame that covers some bytes, and begins between two positions
abbrev pub IsGiven : ℤ → ℤ → PolledFrame → Type 0
IsGiven from bound f = IsSome f × (is_between from bound f ≡ true)

given : (next bound : ℤ) (n : ℕ) (r : Recording) → IsKept r → Each (IsGiven next bound) (polled next bound n r)
given next bound n r kept =
    each_first (IsGiven next bound) n (filter (is_between next bound) (placed_frames r))
    (each_left IsSome (is_between next bound) (placed_frames r) (some_placed r.descriptor.stream_id r.descriptor.start_position r.frames kept.of_stream kept.encodable))

-- frames that are given end behind the first position, and at or before the limit
pub ends_behind : (next bound limit from : ℤ) (f : PolledFrame) (fs : List PolledFrame) → Each (IsGiven next bound) (f ∷ fs) → EndBy limit (f ∷ fs)
    → (next <ℤ frames_end from (f ∷ fs)) × (frames_end from (f ∷ fs) ≤ℤ limit)
ends_behind next bound limit from f [] all ends =
    let between : (int_le next f.position ≡ true) × (int_lt f.position bound ≡ true) = both all.0.1 in
    let low = le_true next f.position between.0 in
    let some = all.0.0 in
    (omega (arith, ints, low, some), ends.0)
ends_behind next bound limit from f (g ∷ fs) all ends = ends_behind next bound limit (f.position +ℤ pos (aligned_length f.frame)) g fs all.1 ends.1

before_bound : (next bound : ℤ) (f : PolledFrame) → IsGiven next bound f → next <ℤ bound
before_bound next bound f is =
    let between : (int_le next f.position ≡ true) × (int_lt f.position bound ≡ true) = both is.1 in
    let low = le_true next f.position between.0 in
    let high = lt_true f.position bound between.1 in
    omega (arith, ints, low, high)

-- ---- from a boundary before the bound and the recorded position there is a frame

here_between : (next bound at : ℤ) (f : Frame) → next ≡ at → next <ℤ bound → is_between next bound (record { position = at; frame = f }) ≡ true
here_between next bound at f is before =
    let least : int_le next at ≡ true = is_le next at (omega (arith, ints)) in
    let most : int_lt at bound ≡ true = is_lt at bound (omega (arith, ints)) in
    rw (least, most) refl

begins_some : (next bound at : ℤ) (fs : List Frame) → next <ℤ bound → list_any (λ f. int_eq next f.position) (placed at fs) ≡ true → filter (is_between next bound) (placed at fs) ≡ [] → ⊥
begins_some next bound at [] before begins none = true≢false (sym begins)
begins_some next bound at (f ∷ fs) before begins none =
    by (int_eq next at) refl begins (is_between next bound (record { position = at; frame = f })) refl none (begins_some next bound (at +ℤ pos (aligned_length f)) fs before)
  where
    rest : List PolledFrame
    rest = placed (at +ℤ pos (aligned_length f)) fs

    by : (b : Bool) → int_eq next at ≡ b → (b || list_any (λ g. int_eq next g.position) rest) ≡ true → (t : Bool) → is_between next bound (record { position = at; frame = f }) ≡ t
        → cond t (record { position = at; frame = f } ∷ filter (is_between next bound) rest) (filter (is_between next bound) rest) ≡ []
        → (list_any (λ g. int_eq next g.position) rest ≡ true → filter (is_between next bound) rest ≡ [] → ⊥) → ⊥
    by b is any true between none later = absurd cc
    by true is any false between none later = true≢false (sym (here_between next bound at f ((Decides-int_eq next at).0 is) before) ∙ between)
    by false is any false between none later = later any none

start_begins : (next at : ℤ) (fs : List Frame) → next ≡ at → next <ℤ (at +ℤ pos (covered fs)) → list_any (λ f. int_eq next f.position) (placed at fs) ≡ true
start_begins next at [] is below = absurd (omega (arith, ints))
start_begins next at (f ∷ fs) is below = let here : int_eq next at ≡ true = (Decides-int_eq next at).1 is in rw here refl

either : {a b : Bool} → (a || b) ≡ true → (a ≡ true) ⊎ (b ≡ true)
either {a = true} {b = b} h = inl refl
either {a = false} {b = b} h = inr h

there_is_one : (next bound : ℤ) (r : Recording) → is_boundary next r ≡ true → next <ℤ bound → next <ℤ recorded_position r → filter (is_between next bound) (placed_frames r) ≡ [] → ⊥
there_is_one next bound r boundary before below none = by (either boundary)
  where
    begins : begins_frame next r ≡ true → ⊥
    begins is = begins_some next bound r.descriptor.start_position r.frames before is none

    end : (int_eq next r.descriptor.start_position ≡ true) ⊎ (int_eq next (recorded_position r) ≡ true) → ⊥
    end (inl start) = begins (start_begins next r.descriptor.start_position r.frames ((Decides-int_eq next r.descriptor.start_position).0 start) below)
    end (inr recorded) = let same : next ≡ recorded_position r = (Decides-int_eq next (recorded_position r)).0 recorded in absurd (omega (arith, ints, same, below))

    by : ((int_eq next r.descriptor.start_position || int_eq next (recorded_position r)) ≡ true) ⊎ (begins_frame next r ≡ true) → ⊥
    by (inl ends) = end (either ends)
    by (inr is) = begins is

first_none : {X : Type 0} (n : ℕ) (xs : List X) → 0 < n → take n xs ≡ [] → xs ≡ []
first_none zero xs some none = absurd (omega arith)
first_none (suc n) [] some none = refl
first_none (suc n) (x ∷ xs) some none = absurd cc

-- a poll from a boundary moves its replay as the desk machine says
pub poll_moves : (r : Recording) (replay : OpenReplay) (n : ℕ) → IsKept r → is_boundary replay.next r ≡ true → 0 < n
    → MovesReplay (registration_of r) replay (record { first = replay.next; last = frames_end replay.next (polled replay.next replay.bound n r) })
poll_moves r replay n kept boundary some = by (polled replay.next replay.bound n r) refl (given replay.next replay.bound n r kept) (polled_end replay.next replay.bound n r)
  where
    none : polled replay.next replay.bound n r ≡ [] → (replay.bound ≤ℤ replay.next) ⊎ (recorded_position r ≤ℤ replay.next)
    none is = tests (int_lt replay.next replay.bound) (int_lt replay.next (recorded_position r)) refl refl
      where
        tests : (t u : Bool) → int_lt replay.next replay.bound ≡ t → int_lt replay.next (recorded_position r) ≡ u → (replay.bound ≤ℤ replay.next) ⊎ (recorded_position r ≤ℤ replay.next)
        tests true true before below =
            absurd (there_is_one replay.next replay.bound r boundary (lt_true replay.next replay.bound before) (lt_true replay.next (recorded_position r) below)
            (first_none n (filter (is_between replay.next replay.bound) (placed_frames r)) some is))
        tests true false before below = inr (lt_false replay.next (recorded_position r) below)
        tests false u before below = inl (lt_false replay.next replay.bound before)

    by : (fs : List PolledFrame) → polled replay.next replay.bound n r ≡ fs → Each (IsGiven replay.next replay.bound) fs → EndBy (recorded_position r) fs
        → MovesReplay (registration_of r) replay (record { first = replay.next; last = frames_end replay.next fs })
    by [] is all ends = (refl, inr (refl, none is))
    by (f ∷ fs) is all ends =
        let moved = ends_behind replay.next replay.bound (recorded_position r) replay.next f fs all ends in
        (refl, inl (moved.0, moved.1, before_bound replay.next replay.bound f all.0))
