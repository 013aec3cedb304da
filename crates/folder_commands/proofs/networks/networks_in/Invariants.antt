-- Each text so far names the network at its place.
use Rattle.std.proofs.Common.{◌≡◌, ◌<◌, ℕ, None, length, slice_get, slice_index_or}
use Rattle.folder_commands.specs.Networks.{IsNetworkAt}
use Rattle.folder_commands.proofs.networks.networks_in.Given as goal

abbrev pub invariant-loop-index : goal.invariant-loop-index
invariant-loop-index l =
    (length l.networks.networks ≡ 16) × ((i : ℕ) → i < l.index → IsNetworkAt (slice_get l.texts i) (slice_index_or l.networks.networks i None))
