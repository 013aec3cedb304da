-- What a source did: datagrams one after another, and what it gives then.
use Rattle.std.proofs.Common.{◌≡◌, ◌≢◌, ℕ, Bool, true, false, List, [], ◌∷◌, ◌++◌, Option, Some, refl, subst, inl, inr}
use Rattle.std.specs.Bool.{MatchBool}
use Rattle.frame_core.specs.Datagram.{IsBadAt}
use Rattle.frame_core.specs.declared.refusal.Refusal.{Refusal}
use Rattle.frame_core.specs.declared.refusal.Refusal.TheVariants.{BadFrame, NoMemory}
use Rattle.image_core.specs.declared.inserted.Inserted.{Inserted}
use Rattle.image_core.specs.Insert.{Inserts, IsForeign, IsInsertRefusal}
use Rattle.image_core.specs.Received.{Received}
use Rattle.agents_core.specs.ImageSource.{GivesNoBlock, HasNoBlock, SendsRequest, SourceState, TakesDatagram, TakesDatagrams}

-- a refusal that isn't want of memory tells where the datagram is bad
refused_at : (refusal : Refusal) (bytes : List ℕ) → IsInsertRefusal bytes refusal → refusal ≢ NoMemory → (IsForeign bytes → ⊥) × (offset : ℕ) × IsBadAt bytes offset
refused_at NoMemory bytes is other = absurd (other refl)
refused_at (BadFrame offset) bytes is other = (is.0, offset, is.1)
refused_at _ bytes is other = absurd is

-- a datagram that is refused for want of memory isn't foreign
not_foreign : (refusal : Refusal) (bytes : List ℕ) → IsInsertRefusal bytes refusal → refusal ≡ NoMemory → IsForeign bytes → ⊥
not_foreign refusal bytes is memory = let P : Refusal → Type 0 = λ r. IsInsertRefusal bytes r in subst P memory is

module _ {E : Type 0} (receives : E → Option (List ℕ) → E → Type 0) (sends : E → List ℕ → E → Type 0) where
  -- a datagram that came was inserted, and what is missing was asked for
  pub inserted_one : (old : SourceState E) (bytes : List ℕ) (mid : E) (i : Inserted) (after : Received) (new : SourceState E) → HasNoBlock old.image → receives old.end (Some bytes) mid → Inserts old.image bytes i after → new.image ≡ after → SendsRequest receives sends after mid new.end → TakesDatagram receives sends old bytes new
  inserted_one old bytes mid i after new none came inserts image sent =
      record {
        none = none;
        received = mid;
        came = came;
        handled = inl (i, rw image inserts, rw image sent);
      }

  -- a datagram that came was refused: the source goes on as it was, or memory was refused and it ends
  pub refused_one : (old : SourceState E) (bytes : List ℕ) (mid : E) (refusal : Refusal) (goes_on : Bool) → HasNoBlock old.image → receives old.end (Some bytes) mid → IsInsertRefusal bytes refusal → MatchBool goes_on (refusal ≢ NoMemory) (refusal ≡ NoMemory) → MatchBool goes_on ((given : List ℕ) × TakesDatagram receives sends old given (record { image = old.image; end = mid })) (GivesNoBlock receives sends old (record { image = old.image; end = mid }))
  refused_one old bytes mid refusal true none came is other =
      let bad = refused_at refusal bytes is other in (
        bytes,
        record {
          none = none;
          received = mid;
          came = came;
          handled = inr (bad.0, bad.1, bad.2, refl);
        },
      )
  refused_one old bytes mid refusal false none came is memory = inr (inr (none, refl, bytes, came, not_foreign refusal bytes is memory))

  -- a datagram more
  pub one_more : (old : SourceState E) (datagrams : List (List ℕ)) (mid : SourceState E) (bytes : List ℕ) (new : SourceState E) → TakesDatagrams receives sends old datagrams mid → TakesDatagram receives sends mid bytes new → TakesDatagrams receives sends old (datagrams ++ bytes ∷ []) new
  one_more old [] mid bytes new taken one = (new, subst (λ (s : SourceState E). TakesDatagram receives sends s bytes new) taken one, refl)
  one_more old (first ∷ more) mid bytes new taken one = (taken.0, taken.1, one_more taken.0 more mid bytes new taken.2 one)
