-- Lines that an answerer answers, told by what is seen of it.
use Rattle.std.proofs.Common.{◌≡◌, refl, subst, sym, ap}
use Rattle.tool_core.specs.Answering.{Checkpointing, Ways, checkpointing_seen, ways_seen}
use Rattle.tool_core.proofs.SimulationLemmas.{EachFollows, Follows}

abbrev pub AnyIs : {A : Type 0} → A → Type 0
AnyIs a = Unit {0}

-- it is what is seen of it
abbrev pub IsView : {A B : Type 0} → (A → B) → A → B → Type 0
IsView view a x = x ≡ view a

module _ {A B : Type 0} (view : A → B) (ways : Ways B) (checkpoints : Checkpointing B) where
  seen : (P : B → B → Type 0) → Follows (λ (a : A). AnyIs a) (IsView view) (λ old new. P (view old) (view new)) P
  seen P old new made good = (tt, λ x is. (view new, refl, subst (λ (y : B). P y (view new)) (sym is) made))

  pub each_seen : EachFollows (λ (a : A). AnyIs a) (IsView view) (ways_seen view ways) ways (checkpointing_seen view checkpoints) checkpoints
  each_seen = record {
    terms = λ session answer. seen (λ x y. ways.terms session x answer y);
    call = λ event outcome. seen (λ x y. ways.call event x outcome y);
    reopen = λ outcome. seen (λ x y. ways.reopen x outcome y);
    compact = λ outcome. seen (λ x y. ways.compact x outcome y);
    before = seen checkpoints.before;
    offers = λ a x is. ap checkpoints.offers is;
  }
