-- Which pages a cache has once its order changed, and once one was put there.
use Rattle.std.proofs.Common.{◌≡◌, inl, inr, sym, subst, ℕ, Bool, true, List, [], ◌∷◌, Contains, Result, Ok, Err, OnOk, OnErr, Some, arith}
use Rattle.std.proofs.lemmas.Bool.Decides.{nat_tests}
use Rattle.std.proofs.lemmas.Int.{ints}
use Rattle.std.specs.Prelude.{Vec, slice_get}
use Rattle.std.specs.declared.alloc.Global.{Global}
use Rattle.lru.specs.LruCache.{LruCache, lru_cache, promoted, put_entries}
use Rattle.lru.proofs.CallerLemmas.{Contains-promoted, Contains-put_entries}
use Rattle.lru.proofs.Splits.{Contains-head}
use Rattle.replay_core.specs.Gathering.{KeepsOne}
use Rattle.replay_core.specs.Pages.{Pages}
use Rattle.replay_core.specs.declared.cache.PageKey.{PageKey}
use Rattle.replay_core.specs.contracts.cache.PageKeyPartialEq.TheImpl as key_eq

abbrev pub same_key : PageKey → PageKey → Bool
same_key = (key_eq.eq-value).it

-- keys that are told the same are the same
pub key_same : (x y : PageKey) → same_key x y ≡ true → x ≡ y
key_same x y same = grind (arith, ints, nat_tests, same)

module _ (old new : LruCache PageKey (Vec ℕ Global)) where
  -- a page that is kept once another was made the first was kept before
  pub promoted_kept : (test : PageKey → Bool) (key : PageKey) (page : Vec ℕ Global) → new ≡ lru_cache (promoted test old.entries) old.cap → Contains new.entries (key, page) → Contains old.entries (key, page)
  promoted_kept test key page is there = Contains-promoted test old.entries (key, page) (subst (λ (c : LruCache PageKey (Vec ℕ Global)). Contains c.entries (key, page)) is there)

  -- once one was put there, it was kept before, or is that one
  pub pushed_kept : {T E : Type 0} → (this : PageKey) (put : Vec ℕ Global) (bytes : List ℕ) (result : Result T E) → put.items ≡ bytes → OnOk result (new ≡ lru_cache (put_entries same_key old this put) old.cap) → OnErr result (new ≡ old)
      → KeepsOne old.entries new.entries this bytes
  pushed_kept this put bytes (Err e) are entries err key page there = inl (subst (λ (c : LruCache PageKey (Vec ℕ Global)). Contains c.entries (key, page)) err there)
  pushed_kept this put bytes (Ok x) are entries err key page there =
      elim (Contains-put_entries same_key old this put (key, page) (subst (λ (c : LruCache PageKey (Vec ℕ Global)). Contains c.entries (key, page)) entries there)) [
        | inl was ↦ inl was
        | inr is ↦ inr (
          elim is.1 [ inl same ↦ same | inr other ↦ sym (key_same this key other.2) ],
          subst (λ (p : Vec ℕ Global). p.items ≡ bytes) (sym is.0) are,
        )
      ]

-- the first page is kept
pub first_kept : (pages : Pages) (key : PageKey) (page : Vec ℕ Global) → Some (key, page) ≡ slice_get pages 0 → Contains pages (key, page)
first_kept [] key page is = absurd (cc)
first_kept (e ∷ es) key page is =
    let same : e ≡ (key, page) = cc in
    subst (λ (x : PageKey × Vec ℕ Global). Contains (x ∷ es) (key, page)) (sym same) (Contains-head (key, page) es)
