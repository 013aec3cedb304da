-- Which files a call touches.
use Rattle.std.proofs.Common.{◌≡◌, ◌∙◌, ◌⊎◌, inl, inr, sym, ap, subst, refl, ◌+◌, ◌≤◌, ◌≤ℤ◌, ℕ, ℤ, Bool, true, true≢false, List, length, Option, Some, None, arith}
use Rattle.std.proofs.lemmas.Bool.{or_left, or_right}
use Rattle.std.specs.Prelude.{MatchOption, IfSome, IsSomeAnd, IsErrOf, Result, Ok, Err, is_some, unsigned_abs}
use Rattle.engine_core.proofs.Words.{Block, ChangesFile, ChangesThese, Command, Decides, DeskState, DiskImage, EngineState, FileId, FileState, Files, IsQuiet, Keep, KeepsSegments, Layout, Life, NoMemory, Refusal, RefusesBoundaryIn, Registration, Reply, Request, SettlesAt, SweepsAtMost, Tests, checked, checks, command_in, decision_of, file_of, layout_of, moment, offset_of, registered_keeps, session_in, takes_memory}
use Rattle.disk_core.specs.Standing.{KeepsBelow}
use Rattle.control_core.specs.declared.event.Event.TheVariants as events
use Rattle.control_core.specs.Decided as decisions
use Rattle.engine_core.specs.Touching.{SettlesBlocks, SettlesEach, Touches, WantsMemory, WritesBlock, written_by}
use Rattle.engine_core.proofs.calls.ShownLemmas.{checked_not, comes_behind, is_memory}
use Rattle.engine_core.proofs.calls.SweepCallLemmas.{one_refusal}
use Rattle.engine_core.proofs.calls.Targets.{IsTarget}

-- nothing was changed
pub quiet_these : (P : FileId → Type 0) (most : ℕ) (old new : Life) → IsQuiet old new → ChangesThese P most old new
quiet_these P most old new quiet = record {
  others = λ file none. ap (λ (files : Files). files file) quiet.now;
  calls = (let same : moment new ≡ moment old = ap (λ (past : List Files). length past) quiet.past in omega (arith, same));
}

pub still_quiet : (life : Life) → IsQuiet life life
still_quiet life = record { obeyed = λ obeys. obeys; past = refl; now = refl; faults = omega arith }

-- a call that changes nothing may, whether it leads to something or not
pub quiet_either : {X : Type 0} (o : Option X) (P : FileId → Type 0) (most : ℕ) (old new : Life) → IsQuiet old new → MatchOption o (IsQuiet old new) (λ x. ChangesThese P most old new)
quiet_either None P most old new quiet = quiet
quiet_either (Some x) P most old new quiet = quiet_these P most old new quiet

-- behind a read
pub behind_these : (P : FileId → Type 0) (most : ℕ) (old mid new : Life) → IsQuiet old mid → ChangesThese P most mid new → ChangesThese P most old new
behind_these P most old mid new quiet changes = record {
  others = λ file none. changes.others file none ∙ ap (λ (files : Files). files file) quiet.now;
  calls = (let same : moment mid ≡ moment old = ap (λ (past : List Files). length past) quiet.past in let calls = changes.calls in omega (arith, same, calls));
}

-- a call that leads to something does what that does
pub made_touches : {X : Type 0} (o : Option X) (x : X) (P : FileId → Type 0) (old new : Life) → o ≡ Some x → ChangesThese P 4 old new → MatchOption o (IsQuiet old new) (λ y. ChangesThese P 4 old new)
made_touches o x P old new is changes = subst (λ (found : Option _). MatchOption found (IsQuiet old new) (λ y. ChangesThese P 4 old new)) (sym is) changes

-- what has not changed is kept
keeps_refl : (at : ℕ) (file : FileState) → KeepsBelow at file file
keeps_refl at file = record {
  written = λ offset less within. within;
  least = omega arith;
  was_absent = refl;
  no_shorter = omega arith;
  same = λ offset less. refl;
}

-- no block was written
pub nothing_written : (d : DeskState) (session : ℤ) (block : Block) (life : Life) → WritesBlock d session block life life
nothing_written d session block life = record {
  changes = quiet_these _ 1 life life (still_quiet life);
  keeps = by (written_by d (session_in d session));
  behind = inl (still_quiet life);
}
  where
    p : ℕ
    p = unsigned_abs block.position

    by : (o : Option Registration) → IfSome o (λ g. KeepsBelow (offset_of (layout_of g.descriptor) p) (life.now (file_of (layout_of g.descriptor) p)) (life.now (file_of (layout_of g.descriptor) p)))
    by None = tt
    by (Some g) = keeps_refl (offset_of (layout_of g.descriptor) p) (life.now (file_of (layout_of g.descriptor) p))

-- nothing was settled
pub nothing_settled : (e : EngineState) (session : ℤ) → SettlesBlocks e session e.life
nothing_settled e session = record {
  changes = quiet_these _ 5 e.life e.life (still_quiet e.life);
  segments = λ file a b. refl;
}

-- of several sessions
pub nothing_settled_by : (e : EngineState) (sessions : List ℤ) → SettlesEach e sessions e.life
nothing_settled_by e sessions = record {
  changes = quiet_these _ (length sessions + 4) e.life e.life (still_quiet e.life);
  segments = λ file a b. refl;
}

-- a segment was synced, and then an entry added
pub settled_at : (old mid new : Life) (segment bank : FileId) → ChangesFile segment old mid → moment mid ≤ moment old + 1 → ChangesThese (λ file. file ≡ bank) 4 mid new → KeepsSegments old new → SettlesAt old new segment bank
settled_at old mid new segment bank synced one changes keeps = record {
  changes = record {
    others = λ file none. changes.others file (λ is. none (inr is)) ∙ synced.others file (λ is. none (inl is));
    calls = (let four = changes.calls in omega (arith, one, four));
  };
  segments = keeps.same;
}

-- it could not be synced
pub unsynced_at : (old mid : Life) (segment bank : FileId) → ChangesFile segment old mid → moment mid ≤ moment old + 1 → KeepsSegments old mid → SettlesAt old mid segment bank
unsynced_at old mid segment bank synced one keeps = record {
  changes = record { others = λ file none. synced.others file (λ is. none (inl is)); calls = omega (arith, one) };
  segments = keeps.same;
}

pub nothing_at : (life : Life) (segment bank : FileId) → SettlesAt life life segment bank
nothing_at life segment bank = record { changes = quiet_these _ 5 life life (still_quiet life); segments = λ file a b. refl }

-- a session's block was written, or could not be
pub block_written : (d : DeskState) (session : ℤ) (block : Block) (layout : Layout) (end : ℤ) (at : IsTarget d session block layout end) (old new : Life) → at.registration.recorded ≤ℤ block.position → ChangesFile (file_of layout (unsigned_abs block.position)) old new → moment new ≤ moment old + 1
    → KeepsBelow (offset_of layout (unsigned_abs block.position)) (old.now (file_of layout (unsigned_abs block.position))) (new.now (file_of layout (unsigned_abs block.position))) → WritesBlock d session block old new
block_written d session block layout end at old new behind changes calls keeps =
    let p : ℕ = unsigned_abs block.position in
    let writes : written_by d (session_in d session) ≡ Some at.registration = ap (written_by d) at.found ∙ at.known in
    record {
      changes = record {
        others = λ file none. changes.others file (λ same.
            none (subst (λ (o : Option Registration). IsSomeAnd o (λ g. file ≡ file_of (layout_of g.descriptor) p)) (sym writes) (same ∙ ap (λ (l : Layout). file_of l p) at.layout_is)));
        calls = calls;
      };
      keeps = subst (λ (o : Option Registration). IfSome o (λ g. KeepsBelow (offset_of (layout_of g.descriptor) p) (old.now (file_of (layout_of g.descriptor) p)) (new.now (file_of (layout_of g.descriptor) p)))) (sym writes)
          (subst (λ (l : Layout). KeepsBelow (offset_of l p) (old.now (file_of l p)) (new.now (file_of l p))) at.layout_is keeps);
      behind = inr (subst (λ (o : Option Registration). IsSomeAnd o (λ g. g.recorded ≤ℤ block.position)) (sym writes) behind);
    }

-- a sweep was made
pub swept_touches : (e : EngineState) (new : Life) (keeps : List Keep) → keeps ≡ registered_keeps e.desk.register → IsQuiet e.life new ⊎ ((file : FileId) × SweepsAtMost keeps file e.life new) → moment new ≤ moment e.life + 2 → Touches e events.Sweep new
swept_touches e new keeps is (inl quiet) calls = inl quiet
swept_touches e new keeps is (inr swept) calls = inr (swept.0, subst (λ (ks : List Keep). SweepsAtMost ks swept.0 e.life new) is swept.1, calls)

-- ---- memory

-- no check is refused for memory
pub checked_memory : {X : Type 0} (tests : Tests) (x : X) (outcome : Result X Refusal) → outcome ≡ checked tests checks (Ok x) → IsErrOf outcome NoMemory → ⊥
checked_memory tests x outcome is memory = true≢false (checked_not is_memory tests checks x NoMemory refl (sym is ∙ memory))

module _ (d : DeskState) (request : Request) where
  pub refused_memory : (refusal : Refusal) → Decides (takes_memory request) (decisions.Refused refusal) (decision_of d request) → WantsMemory d (events.Ask request) (Err refusal)
  refused_memory refusal decides memory =
      let same : refusal ≡ NoMemory = one_refusal (Err refusal) refusal NoMemory refl memory in
      let takes : takes_memory request ≡ true = subst (λ (r : Refusal). Decides (takes_memory request) (decisions.Refused r) (decision_of d request)) same decides in or_left (takes_memory request) _ takes

  pub command_memory : (c : Command) (outcome : Result Reply Refusal) → command_in (decision_of d request) ≡ Some c → WantsMemory d (events.Ask request) outcome
  command_memory c outcome is memory = or_right (takes_memory request) _ (ap is_some is)

-- frames that can't be read want none
pub unread_memory : (obeys : Bool) (image : DiskImage) (g : Registration) (position : ℤ) (refusal : Refusal) → RefusesBoundaryIn obeys image g position refusal → refusal ≡ NoMemory → ⊥
unread_memory obeys image g position refusal refuses same = subst (λ (r : Refusal). RefusesBoundaryIn obeys image g position r) same refuses

pub behind_memory : (refusal : Refusal) → comes_behind refusal ≡ true → refusal ≡ NoMemory → ⊥
behind_memory refusal behind same = true≢false (sym behind ∙ ap comes_behind same)
