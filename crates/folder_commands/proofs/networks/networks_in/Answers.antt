-- One text more names the network at its place.
use Rattle.std.proofs.Common.{◌≡◌, ◌∙◌, ◌<◌, ◌+◌, ℕ, zero, suc, List, [], ◌∷◌, Option, None, ap, refl, sym, subst, arith, length, slice_get, slice_index_or, slice_set}
use Rattle.server_receiver.specs.declared.networks.Network.{Network}
use Rattle.folder_commands.specs.Networks.{IsNetworkAt}
use Rattle.folder_commands.proofs.networks.networks_in.Goals as goal

-- what holds of each place before one, and of what is put there, holds of each up to it
up_to : (ns : List (Option Network)) (index i : ℕ) (x : Option Network) (P : ℕ → Option Network → Type 0) → index < length ns → P index x
    → ((j : ℕ) → j < index → P j (slice_index_or ns j None)) → i < index + 1 → P i (slice_index_or (slice_set ns index x) i None)
up_to [] index i x P below here before within = absurd (omega (arith, below))
up_to (n ∷ ns) zero zero x P below here before within = here
up_to (n ∷ ns) zero (suc i) x P below here before within = absurd (omega (arith, within))
up_to (n ∷ ns) (suc k) zero x P below here before within = before zero (omega arith)
up_to (n ∷ ns) (suc k) (suc i) x P below here before within =
    up_to ns k i x (λ j. P (suc j)) (omega (arith, below)) here (λ j earlier. before (suc j) (omega (arith, earlier))) (omega (arith, within))

-- as many places stay
stays : (ns : List (Option Network)) (index : ℕ) (x : Option Network) → length (slice_set ns index x) ≡ length ns
stays [] index x = refl
stays (n ∷ ns) zero x = refl
stays (n ∷ ns) (suc k) x = ap suc (stays ns k x)

pub loop-index-preserved : goal.loop-index-preserved
loop-index-preserved c =
    let ns = c.loop-index.networks.networks in
    let index = c.loop-index.index in
    let below : index < 16 = c.loop-index-test.true in
    let within : index < length ns = subst (λ (n : ℕ). index < n) (sym c.loop-index.invariant.0) below in (
      stays ns index c.in-Some.network ∙ c.loop-index.invariant.0,
      λ i earlier. up_to ns index i c.in-Some.network (λ j. IsNetworkAt (slice_get c.args.texts.now j)) within c.in-Some.ensures c.loop-index.invariant.1 earlier,
    )
