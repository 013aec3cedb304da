-- Each step keeps the rule of the handoff.
use Rattle.std.proofs.Common.{◌≡◌, ◌≢◌, ℕ, zero, suc, true, false, true≢false, List, [], ◌∷◌, ◌++◌, length, set, sym, refl, ap, ◌∙◌, subst, ⊎_elim, append_assoc}
use mathlib.Core.Option.{some, some-ne-none}
use lib.ListN.{get_elem?}
use Rattle.crossbeam_queue.specs.Fifo.{Pushes, Pops, Forks, Merges, Learns}
use Rattle.crossbeam_queue.proofs.Lists.{at_set, at_snoc}
use Rattle.agents_core.specs.declared.handoff.Passed.{Passed}
use Rattle.agents_core.specs.Handoff.{FitsEnds, IsInOrder, passed, putting, taking}

module _ {T : Type 0} where
  at_end : (l : List (Passed T)) (a b : Passed T) (j : ℕ) → get_elem? l j ≢ some b → get_elem? (l ++ a ∷ []) j ≡ some b → j ≡ length l
  at_end [] a b zero n e = refl
  at_end [] a b (suc j) n e = absurd (some-ne-none b (sym e))
  at_end (x ∷ xs) a b zero n e = absurd (n e)
  at_end (x ∷ xs) a b (suc j) n e = ap suc (at_end xs a b j n e)

  -- a fact of each view
  abbrev OfEach : (ℕ → Passed T → Type 0) → List (Passed T) → Type 0
  OfEach F views = (by : ℕ) (v : Passed T) → get_elem? views by ≡ some v → F by v

  of_set : (F : ℕ → Passed T → Type 0) (views : List (Passed T)) (by : ℕ) (w : Passed T) → F by w → ((j : ℕ) (u : Passed T) → j ≢ by → get_elem? views j ≡ some u → F j u) → OfEach F (set views by w)
  of_set F views by w mine others j u e = ⊎_elim (λ (x : (j ≡ by) × (w ≡ u)). subst (λ (y : ℕ × Passed T). F y.0 y.1) (λ i. (sym x.0 i, x.1 i)) mine)
      (λ (x : (j ≢ by) × (get_elem? views j ≡ some u)). others j u x.0 x.1) (at_set views by j w u e)

  pub begins : IsInOrder {T = T} [] (passed true true [] [] ∷ [])
  begins = record {
    putter = 0;
    taker = 0;
    put = [];
    taken = [];
    order = refl;
    each = of_set (FitsEnds 0 0 [] []) (passed true true [] [] ∷ []) 0 (passed true true [] []) (record { puts = λ _. (refl, refl); takes = λ _. (refl, refl) })
        (λ j u other e. absurd (other (at_end [] _ u j (λ x. some-ne-none u (sym x)) e)));
  }

  pub puts : (n by : ℕ) (v : Passed T) (x : T) → v.puts ≡ true → Pushes IsInOrder n by v x (λ w. w ≡ passed v.puts v.takes (v.put ++ x ∷ []) v.taken)
  puts n by v x may items views _ h at = let w : Passed T = passed v.puts v.takes (v.put ++ x ∷ []) v.taken in let mine = h.each by v at in let put = h.put ++ x ∷ [] in (
    w,
    record {
      putter = h.putter;
      taker = h.taker;
      put = put;
      taken = h.taken;
      order = ap (λ l. l ++ x ∷ []) h.order ∙ append_assoc h.taken items (x ∷ []);
      each = of_set (FitsEnds h.putter h.taker put h.taken) views by w (record { puts = λ _. ((mine.puts may).0, ap (λ l. l ++ x ∷ []) (mine.puts may).1); takes = mine.takes })
          (λ j u other e. record { puts = λ p. absurd (other (((h.each j u e).puts p).0 ∙ sym (mine.puts may).0)); takes = (h.each j u e).takes });
    },
    refl,
  )

  pub takes : (by : ℕ) (v : Passed T) → v.takes ≡ true → Pops IsInOrder by v (λ x w. w ≡ passed v.puts v.takes v.put (v.taken ++ x ∷ []))
  takes by v may x items views h at = let w : Passed T = passed v.puts v.takes v.put (v.taken ++ x ∷ []) in let mine = h.each by v at in let taken = h.taken ++ x ∷ [] in (
    w,
    record {
      putter = h.putter;
      taker = h.taker;
      put = h.put;
      taken = taken;
      order = h.order ∙ sym (append_assoc h.taken (x ∷ []) items);
      each = of_set (FitsEnds h.putter h.taker h.put taken) views by w (record { puts = mine.puts; takes = λ _. ((mine.takes may).0, ap (λ l. l ++ x ∷ []) (mine.takes may).1) })
          (λ j u other e. record { puts = (h.each j u e).puts; takes = λ p. absurd (other (((h.each j u e).takes p).0 ∙ sym (mine.takes may).0)) });
    },
    refl,
  )

  pub splits : (by : ℕ) (v : Passed T) → v.puts ≡ true → v.takes ≡ true → Forks IsInOrder by v (putting v) (taking v)
  splits by v a b items views h at = let l : Passed T = putting v in let r : Passed T = taking v in let mine = h.each by v at in let vs : List (Passed T) = set views by l in
      let Old : ℕ → Passed T → Type 0 = λ j u. (u.puts ≡ true → (j ≡ h.putter) × (u.put ≡ h.put)) × (u.takes ≢ true) in
      let old : OfEach Old vs = of_set Old views by l ((λ _. mine.puts a), λ p. true≢false (sym p)) (λ j u other e. ((h.each j u e).puts, λ p. other (((h.each j u e).takes p).0 ∙ sym (mine.takes b).0))) in record {
        putter = h.putter;
        taker = length vs;
        put = h.put;
        taken = h.taken;
        order = h.order;
        each = λ j u e. ⊎_elim (λ x. record { puts = (old j u x).0; takes = λ p. absurd ((old j u x).1 p) })
            (λ (is : r ≡ u). record {
              puts = λ p. absurd (true≢false (sym (ap (λ (y : Passed T). y.puts) is ∙ p)));
              takes = λ p. (at_end vs r u j (λ x. (old j u x).1 p) e, ap (λ (y : Passed T). y.taken) (sym is) ∙ (mine.takes b).1);
            }) (at_snoc vs r u j e);
      }

  pub joins : (by : ℕ) (v : Passed T) (other : ℕ) (u : Passed T) → v.puts ≡ true → u.takes ≡ true → Merges IsInOrder by v other u (passed true true v.put u.taken) (passed false false [] [])
  joins by v other u a b items views h at two at' = let both : Passed T = passed true true v.put u.taken in let mine = h.each by v at in let vs : List (Passed T) = set views by both in
      let was : get_elem? views other ≡ some u = ⊎_elim (λ x. absurd (two x.0)) (λ x. x.1) (at_set views by other both u at') in let theirs = (h.each other u was).takes b in
      let Now : ℕ → Passed T → Type 0 = λ j y. j ≢ other → FitsEnds h.putter by h.put h.taken j y in
      let now : OfEach Now vs = of_set Now views by both (λ _. record { puts = λ _. mine.puts a; takes = λ _. (refl, theirs.1) }) (λ j y _ e apart. record { puts = (h.each j y e).puts; takes = λ p. absurd (apart (((h.each j y e).takes p).0 ∙ sym theirs.0)) }) in record {
        putter = h.putter;
        taker = by;
        put = h.put;
        taken = h.taken;
        order = h.order;
        each = of_set (FitsEnds h.putter by h.put h.taken) vs other (passed false false [] []) (record { puts = λ p. absurd (true≢false (sym p)); takes = λ p. absurd (true≢false (sym p)) })
            (λ j y apart e. now j y e apart);
      }

  pub totals : (by : ℕ) (v : Passed T) → v.puts ≡ true → v.takes ≡ true → Learns IsInOrder by v (λ items. v.put ≡ v.taken ++ items)
  totals by v a b items views h at = let mine = h.each by v at in (mine.puts a).1 ∙ h.order ∙ ap (λ l. l ++ items) (sym (mine.takes b).1)

  -- what waits is what was put last
  pub waits_last : (by : ℕ) (v : Passed T) → v.puts ≡ true → Learns IsInOrder by v (λ items. (taken : List T) × (v.put ≡ taken ++ items))
  waits_last by v may items views h at = (h.taken, ((h.each by v at).puts may).1 ∙ h.order)
