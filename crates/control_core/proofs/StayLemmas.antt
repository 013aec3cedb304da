-- What sessions wrote, and where replays go on, once a command was accepted.
use Rattle.std.proofs.Common.{◌≡◌, ◌+ℤ◌, ◌≤ℤ◌, ◌<ℤ◌, inl, inr, ◌||◌, not, ℤ, pos, Bool, true, false, cond, List, [], ◌∷◌, Option, Some, None, refl, sym, ap, subst, ◌∙◌, true≢false, arith}
use Rattle.std.specs.Prelude.{IsSomeAnd, IsTrue, is_some}
use Rattle.std.specs.Ordering.{int_eq}
use Rattle.std.specs.List.{list_any}
use Rattle.std.proofs.lemmas.Int.{ints}
use Rattle.std.proofs.lemmas.Bool.Decides.{Decides-int_eq}
use Rattle.frame_core.specs.declared.block.Block.{Block}
use Rattle.frame_core.specs.declared.block.Publication.{Publication}
use Rattle.frame_core.specs.declared.geometry.Geometry.{Geometry}
use Rattle.frame_core.specs.Block.{covered}
use Rattle.archive_model.specs.Keyed.{Each, Rise, change, find, without}
use Rattle.archive_model.specs.State.{Recording, State, geometry_of, id_of, publication_of, recorded_position}
use Rattle.archive_model.specs.Commands.{changed, frames_of, recorded_in}
use Rattle.archive_model.specs.Acceptance.{AreBlocksFrom, Continue}
use Rattle.archive_model.specs.Replay.{is_boundary}
use Rattle.archive_model.proofs.CommandsLemmas.{find_changed}
use Rattle.control_core.specs.declared.callers.OpenReplay.{OpenReplay}
use Rattle.control_core.specs.declared.callers.RecorderSession.{RecorderSession}
use Rattle.control_core.specs.declared.callers.Written.{Written}
use Rattle.control_core.specs.Callers.{session_number}
use Rattle.control_core.specs.Desk.{DeskState}
use Rattle.control_core.specs.Turns.{session_in}
use Rattle.control_core.specs.Exact.{Archive, blocks_of_open, recording_at}
use Rattle.control_core.specs.Consistent.{HasBlocks, IsAtBoundary, Wrote}
use Rattle.control_core.proofs.FoundLemmas.{each_both, least_next}

-- ---- lists

-- the next number is none's
pub none_next : (low next : ℤ) (ss : List RecorderSession) → Rise session_number low ss next → find session_number next ss ≡ None
none_next low next [] rising = refl
none_next low next (s ∷ ss) rising = by (int_eq next s.number) refl (none_next (s.number +ℤ pos 1) next ss rising.1) (least_next session_number (s.number +ℤ pos 1) next ss rising.1)
  where
    by : (b : Bool) → int_eq next s.number ≡ b → find session_number next ss ≡ None → (s.number +ℤ pos 1) ≤ℤ next → cond b (Some s) (find session_number next ss) ≡ None
    by true is none above = let same : next ≡ s.number = (Decides-int_eq next s.number).0 is in absurd (omega (arith, ints, same, above))
    by false is none above = none

module _ {X : Type 0} (number : X → ℤ) where
  -- numbers from one on differ from those below
  all_above : (n low next : ℤ) (xs : List X) → n <ℤ low → Rise number low xs next → Each (λ x. int_eq n (number x) ≡ false) xs
  all_above n low next [] below rising = tt
  all_above n low next (x ∷ xs) below rising = (by (int_eq n (number x)) refl, all_above n (number x +ℤ pos 1) next xs (let least = rising.0 in omega (arith, ints, least, below)) rising.1)
    where
      by : (b : Bool) → int_eq n (number x) ≡ b → b ≡ false
      by true is = let same : n ≡ number x = (Decides-int_eq n (number x)).0 is in let least = rising.0 in absurd (omega (arith, ints, same, least, below))
      by false is = refl

  -- of numbers that rise one value is changed
  pub each_changed : (P Q : X → Type 0) (n low next : ℤ) (f : X → X) (xs : List X) → Rise number low xs next → ((x : X) → find number n xs ≡ Some x → P x → Q (f x)) → ((x : X) → int_eq n (number x) ≡ false → P x → Q x) → Each P xs
      → Each Q (change number n f xs)
  each_changed P Q n low next f [] rising this that all = tt
  each_changed P Q n low next f (x ∷ xs) rising this that all = by (int_eq n (number x)) refl (each_changed P Q n (number x +ℤ pos 1) next f xs rising.1)
    where
      others : n ≡ number x → Each Q xs
      others same =
          both xs (all_above n (number x +ℤ pos 1) next xs (omega (arith, ints, same)) rising.1) all.1
        where
          both : (ys : List X) → Each (λ y. int_eq n (number y) ≡ false) ys → Each P ys → Each Q ys
          both [] differ has = tt
          both (y ∷ ys) differ has = (that y differ.0 has.0, both ys differ.1 has.1)

      by : (b : Bool) → int_eq n (number x) ≡ b → (((y : X) → find number n xs ≡ Some y → P y → Q (f y)) → ((y : X) → int_eq n (number y) ≡ false → P y → Q y) → Each P xs → Each Q (change number n f xs))
          → Each Q (cond b (f x ∷ xs) (x ∷ change number n f xs))
      by true is rest = (this x (rw is refl) all.0, others ((Decides-int_eq n (number x)).0 is))
      by false is rest = (that x is all.0, rest (λ y found. this y (rw is found)) that all.1)

  pub each_without : (P : X → Type 0) (n : ℤ) (xs : List X) → Each P xs → Each P (without number n xs)
  each_without P n [] all = tt
  each_without P n (x ∷ xs) all = by (int_eq n (number x)) (each_without P n xs all.1)
    where
      by : (b : Bool) → Each P (without number n xs) → Each P (cond b xs (x ∷ without number n xs))
      by true rest = all.1
      by false rest = (all.0, rest)

  -- what is not found after a change was not there
  pub none_before : (n k : ℤ) (f : X → X) (xs : List X) → ((x : X) → number (f x) ≡ number x) → find number n (change number k f xs) ≡ None → find number n xs ≡ None
  none_before n k f [] kept none = refl
  none_before n k f (x ∷ xs) kept none = by (int_eq k (number x)) (int_eq n (number x)) refl none (none_before n k f xs kept)
    where
      by : (b t : Bool) → int_eq n (number x) ≡ t → find number n (cond b (f x ∷ xs) (x ∷ change number k f xs)) ≡ None → (find number n (change number k f xs) ≡ None → find number n xs ≡ None)
          → cond t (Some x) (find number n xs) ≡ None
      by true true is none rest = let still : int_eq n (number (f x)) ≡ true = ap (int_eq n) (kept x) ∙ is in let found : Some (f x) ≡ None = rw still at none in absurd cc
      by true false is none rest = let still : int_eq n (number (f x)) ≡ false = ap (int_eq n) (kept x) ∙ is in rw still at none
      by false true is none rest = let found : Some x ≡ None = rw is at none in absurd cc
      by false false is none rest = rest (rw is at none)

-- each session is found by its number
pub each_itself : (low next : ℤ) (ss : List RecorderSession) → Rise session_number low ss next → Each (λ s. find session_number s.number ss ≡ Some s) ss
each_itself low next [] rising = tt
each_itself low next (s ∷ ss) rising = (
  here,
  each_both (λ t. int_eq s.number t.number ≡ false) (λ t. find session_number t.number ss ≡ Some t) (λ t. find session_number t.number (s ∷ ss) ≡ Some t) ss more
      (all_above session_number s.number (s.number +ℤ pos 1) next ss (omega (arith, ints)) rising.1)
      (each_itself (s.number +ℤ pos 1) next ss rising.1),
)
  where
    here : find session_number s.number (s ∷ ss) ≡ Some s
    here = let same : int_eq s.number s.number ≡ true = (Decides-int_eq s.number s.number).1 refl in rw same refl

    more : (t : RecorderSession) → int_eq s.number t.number ≡ false → find session_number t.number ss ≡ Some t → find session_number t.number (s ∷ ss) ≡ Some t
    more t other found = by (int_eq t.number s.number) refl
      where
        by : (b : Bool) → int_eq t.number s.number ≡ b → cond b (Some s) (find session_number t.number ss) ≡ Some t
        by true is =
            let same : s.number ≡ t.number = sym ((Decides-int_eq t.number s.number).0 is) in
            absurd (true≢false (sym ((Decides-int_eq s.number t.number).1 same) ∙ other))
        by false is = found

pub none_passes : {X : Type 0} (test : X → Bool) (xs : List X) → not (list_any test xs) ≡ true → Each (λ x. test x ≡ false) xs
none_passes test [] none = tt
none_passes test (x ∷ xs) none = by (test x) none (none_passes test xs)
  where
    by : (b : Bool) → not (b || list_any test xs) ≡ true → (not (list_any test xs) ≡ true → Each (λ y. test y ≡ false) xs) → (b ≡ false) × Each (λ y. test y ≡ false) xs
    by true none rest = absurd (true≢false (sym none))
    by false none rest = (refl, rest none)

-- ---- what sessions wrote

-- recordings that blocks go on at alike
pub record GoOnAlike (r new : Recording) : Type 0 where
  pub geometry : geometry_of new.descriptor ≡ geometry_of r.descriptor
  pub publication : publication_of new.descriptor ≡ publication_of r.descriptor
  pub recorded : recorded_position new ≡ recorded_position r

continue_alike : (r new : Recording) (blocks : List Block) → GoOnAlike r new → Continue r blocks → Continue new blocks
continue_alike r new blocks alike next = (
  next.0,
  subst (λ (g : Geometry). AreBlocksFrom g (publication_of new.descriptor) (recorded_position new) blocks) (sym alike.geometry)
      (subst (λ (p : Publication). AreBlocksFrom (geometry_of r.descriptor) p (recorded_position new) blocks) (sym alike.publication)
      (subst (λ (z : ℤ). AreBlocksFrom (geometry_of r.descriptor) (publication_of r.descriptor) z blocks) (sym alike.recorded) next.1)),
)

-- the recording of a session is found again, and blocks go on at it alike
pub record GoesOn (a b : Archive) (s : RecorderSession) (r : Recording) : Type 0 where
  pub new : Recording
  pub found : recording_at b s.recording ≡ Some new
  pub alike : GoOnAlike r new

pub same_recording : (a b : Archive) (s : RecorderSession) (r : Recording) → recording_at b s.recording ≡ Some r → GoesOn a b s r
same_recording a b s r found = record { new = r; found = found; alike = record { geometry = refl; publication = refl; recorded = refl } }

wrote_on : (a b : Archive) (s : RecorderSession) (w : Written) (found : Option Recording) → recording_at a s.recording ≡ found → b.blocks s.number ≡ a.blocks s.number
    → ((r : Recording) → recording_at a s.recording ≡ Some r → GoesOn a b s r) → IsSomeAnd found (λ r. Continue r (a.blocks s.number)) → Wrote a s w → Wrote b s w
wrote_on a b s w None is same goes_on follow wrote = absurd follow
wrote_on a b s w (Some r) is same goes_on follow wrote =
    let on = goes_on r is in
    let next : Continue on.new (b.blocks s.number) = subst (Continue on.new) (sym same) (continue_alike r on.new (a.blocks s.number) on.alike follow) in
    let last : w.last ≡ recorded_position r +ℤ pos (covered (frames_of (a.blocks s.number))) = subst (λ (o : Option Recording). w.last ≡ recorded_in o +ℤ pos (covered (frames_of (a.blocks s.number)))) is wrote.last in
    let begun : w.first ≡ recorded_position r = subst (λ (o : Option Recording). w.first ≡ recorded_in o) is wrote.first in
    let moved : w.last ≡ recorded_position on.new +ℤ pos (covered (frames_of (b.blocks s.number))) =
    subst (λ (bs : List Block). w.last ≡ recorded_position on.new +ℤ pos (covered (frames_of bs))) (sym same)
    (subst (λ (z : ℤ). w.last ≡ z +ℤ pos (covered (frames_of (a.blocks s.number)))) (sym on.alike.recorded) last) in
    record {
      follow = subst (λ (o : Option Recording). IsSomeAnd o (λ x. Continue x (b.blocks s.number))) (sym on.found) next;
      first = subst (λ (o : Option Recording). w.first ≡ recorded_in o) (sym on.found) (begun ∙ sym on.alike.recorded);
      last = subst (λ (o : Option Recording). w.last ≡ recorded_in o +ℤ pos (covered (frames_of (b.blocks s.number)))) (sym on.found) moved;
    }

-- a session whose blocks stay and whose recording goes on alike still has its blocks
pub blocks_stay : (a b : Archive) (s : RecorderSession) (o : Option Written) → b.blocks s.number ≡ a.blocks s.number → ((r : Recording) → recording_at a s.recording ≡ Some r → GoesOn a b s r) → HasBlocks a s o → HasBlocks b s o
blocks_stay a b s None same goes_on none = same ∙ none
blocks_stay a b s (Some w) same goes_on wrote = wrote_on a b s w (recording_at a s.recording) refl same goes_on wrote.follow wrote

pub open_blocks : (d : DeskState) (all : ℤ → List Block) (n : ℤ) → is_some (session_in d n) ≡ true → blocks_of_open d all n ≡ all n
open_blocks d all n is = rw is refl

-- ---- where replays go on

pub record GoesOnAt (s : State) (replay : OpenReplay) : Type 0 where
  pub recording : Recording
  pub found : find id_of replay.recording s.recordings ≡ Some recording
  pub boundary : is_boundary replay.next recording ≡ true

pub goes_on_at : (s : State) (replay : OpenReplay) → IsAtBoundary s replay → GoesOnAt s replay
goes_on_at s replay at = by (find id_of replay.recording s.recordings) refl at
  where
    by : (o : Option Recording) → find id_of replay.recording s.recordings ≡ o → IsSomeAnd o (λ r. IsTrue (is_boundary replay.next r)) → GoesOnAt s replay
    by None is none = absurd none
    by (Some r) is boundary = record { recording = r; found = is; boundary = boundary }

pub is_at : (s : State) (replay : OpenReplay) (r : Recording) → find id_of replay.recording s.recordings ≡ Some r → is_boundary replay.next r ≡ true → IsAtBoundary s replay
is_at s replay r found boundary = subst (λ (o : Option Recording). IsSomeAnd o (λ x. IsTrue (is_boundary replay.next x))) (sym found) boundary

-- the recording of an id is changed
pub at_changed : (s : State) (replay : OpenReplay) (id : ℤ) (f : Recording → Recording) → ((r : Recording) → id_of (f r) ≡ id_of r)
    → ((r : Recording) → find id_of replay.recording s.recordings ≡ Some r → find id_of id s.recordings ≡ Some r → is_boundary replay.next r ≡ true → is_boundary replay.next (f r) ≡ true) → IsAtBoundary s replay → IsAtBoundary (changed id f s) replay
at_changed s replay id f kept stays at =
    let old = goes_on_at s replay at in
    elim (find_changed replay.recording id f kept s.recordings old.recording old.found) [
      | inl this ↦ is_at (changed id f s) replay (f old.recording) this.1 (stays old.recording old.found this.0 old.boundary)
      | inr that ↦ is_at (changed id f s) replay old.recording that old.boundary
    ]

-- the recording is found as it was
pub at_same : (s t : State) (replay : OpenReplay) → find id_of replay.recording t.recordings ≡ find id_of replay.recording s.recordings → IsAtBoundary s replay → IsAtBoundary t replay
at_same s t replay same at = subst (λ (o : Option Recording). IsSomeAnd o (λ x. IsTrue (is_boundary replay.next x))) (sym same) at
