-- What clients of a shared archive do, and the passes that they give back.
use Rattle.std.proofs.Common.{◌≡◌, ◌∙◌, ◌+◌, ◌++◌, ◌<◌, ℕ, suc, ℤ, Bool, false, true, List, [], ◌∷◌, Result, Ok, Err, ap, arith, eqb, get_or, inr, length, refl, subst, sym, take}
use Rattle.std.specs.Prelude.{◌||◌, IfErr, IfOk, MatchBool}
use Rattle.std.proofs.Math.Seq.{take-suc}
use Rattle.atomic_table.specs.Seated.{TableId}
use Rattle.call_history.specs.Passes.{AllOfTable, has_number}
use Rattle.call_history.specs.Values.{PassView}
use Rattle.archive_lock.specs.declared.history.Made.{Made}
use Rattle.disk_core.specs.Life.{Life}
use Rattle.engine_core.specs.Engine.{EngineState}
use Rattle.server.specs.Answering.{ClientView, ClosesReplay, ClosesEach, FollowsCall, KeepsShort}
use Rattle.server.specs.Clients.{AreBack, IsBack}
use Rattle.server_recorder.specs.Seats.{AreClientPasses, HasNumbersFrom}

-- what is known of a result that is Ok, or that is not
pub ok_part : {T E : Type 0} (P : T → Type 0) (r : Result T E) (value : T) → r ≡ Ok value → IfOk r P → P value
ok_part P r value is h = subst (λ (x : Result _ _). IfOk x P) is h

pub err_part : {T E : Type 0} (P : E → Type 0) (r : Result T E) (error : E) → r ≡ Err error → IfErr r P → P error
err_part P r error is h = subst (λ (x : Result _ _). IfErr x P) is h

-- ---- replays

-- one replay more is closed
closes_more : {D : Type 0} (life : D → Life) (opening : EngineState) (replays : List ℤ) (replay : ℤ) (old mid new : ClientView) → ClosesEach life opening replays old mid → ClosesReplay life opening replay mid new → ClosesEach life opening (replays ++ replay ∷ []) old new
closes_more life opening [] replay old mid new is closes = (new, subst (λ (m : ClientView). ClosesReplay life opening replay m new) is closes, refl)
closes_more life opening (r ∷ rs) replay old mid new (m, first, rest) closes = (m, first, closes_more life opening rs replay m mid new rest closes)

pub closes_next : {D : Type 0} (life : D → Life) (opening : EngineState) (replays : List ℤ) (i : ℕ) (replay : ℤ) (old mid new : ClientView) → i < length replays → replay ≡ get_or replays i replay → ClosesEach life opening (take i replays) old mid → ClosesReplay life opening replay mid new → ClosesEach life opening (take (i + 1) replays) old new
closes_next life opening replays i replay old mid new within is before closes =
    let one : i + 1 ≡ suc i = omega arith in
    let next : take (i + 1) replays ≡ take i replays ++ replay ∷ [] = ap (λ k. take k replays) one ∙ take-suc replays i replay within ∙ ap (λ r. take i replays ++ r ∷ []) (sym is) in
    subst (λ rs. ClosesEach life opening rs old new) (sym next) (closes_more life opening (take i replays) replay old mid new before closes)

-- ---- checkpoints

-- no checkpoint follows a call
kept_so : {D : Type 0} (life : D → Life) (opening : EngineState) (pass : PassView Made) (makes : Bool) → MatchBool makes (KeepsShort life opening pass pass) (pass ≡ pass)
kept_so life opening pass true = inr refl
kept_so life opening pass false = refl

pub not_followed : {D : Type 0} (life : D → Life) (opening : EngineState) (c : ClientView) → FollowsCall life opening c c
not_followed life opening c = (refl, kept_so life opening c.pass c.checkpoints)

-- ---- passes

pub all_before : (table : TableId) (all ps : List (PassView Made)) (p : PassView Made) → all ≡ ps ++ p ∷ [] → AllOfTable table all → AllOfTable table ps × (p.table ≡ table)
all_before table all ps p is of = parted ps (subst (AllOfTable table) is of)
  where
    parted : (qs : List (PassView Made)) → AllOfTable table (qs ++ p ∷ []) → AllOfTable table qs × (p.table ≡ table)
    parted [] h = (tt, h.0)
    parted (q ∷ qs) h = let rest = parted qs h.1 in ((h.0, rest.0), rest.1)

pub back_more : (olds news : List (PassView Made)) (old new : PassView Made) → AreBack olds news → IsBack old new → AreBack (olds ++ old ∷ []) (news ++ new ∷ [])
back_more [] [] old new all one = (one, tt)
back_more [] (n ∷ ns) old new all one = absurd all
back_more (o ∷ os) [] old new all one = absurd all
back_more (o ∷ os) (n ∷ ns) old new all one = (all.0, back_more os ns old new all.1 one)

-- the same of equal ones
pub back_moved : (old old' new new' : PassView Made) → old ≡ old' → new' ≡ new → IsBack old new → IsBack old' new'
back_moved old old' new new' olds news back = subst (λ (z : PassView Made × PassView Made). IsBack z.0 z.1) (λ i. (olds i, sym news i)) back

pub back_length : (olds news : List (PassView Made)) → AreBack olds news → length news ≡ length olds
back_length [] [] back = refl
back_length [] (n ∷ ns) back = absurd back
back_length (o ∷ os) [] back = absurd back
back_length (o ∷ os) (n ∷ ns) back = ap (λ k. suc k) (back_length os ns back.1)

pub back_all : (table : TableId) (olds news : List (PassView Made)) → AreBack olds news → AllOfTable table olds → AllOfTable table news
back_all table [] [] back all = tt
back_all table [] (n ∷ ns) back all = absurd back
back_all table (o ∷ os) [] back all = absurd back
back_all table (o ∷ os) (n ∷ ns) back all = ((back.0).table ∙ all.0, back_all table os ns back.1 all.1)

either : (b c d : Bool) → b || c ≡ true → (c ≡ true → d ≡ true) → b || d ≡ true
either true c d is more = refl
either false c d is more = more is

back_has : (n : ℕ) (olds news : List (PassView Made)) → AreBack olds news → has_number n olds ≡ true → has_number n news ≡ true
back_has n [] news back has = absurd cc
back_has n (o ∷ os) [] back has = absurd back
back_has n (o ∷ os) (m ∷ ms) back has = rw (back.0).number (either (eqb o.number n) (has_number n os) (has_number n ms) has (back_has n os ms back.1))

pub back_from : (k count : ℕ) (olds news : List (PassView Made)) → AreBack olds news → HasNumbersFrom k count olds → HasNumbersFrom k count news
back_from k count olds news back has = λ n from below. back_has n olds news back (has n from below)

pub back_clients : (table : TableId) (count : ℕ) (olds news : List (PassView Made)) → AreBack olds news → AreClientPasses table count olds → AreClientPasses table count news
back_clients table count olds news back are = (back_all table olds news back are.0, back_from 1 count olds news back are.1)
