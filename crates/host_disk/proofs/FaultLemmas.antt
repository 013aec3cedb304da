-- Calls that have failed.
use Rattle.std.proofs.Common.{◌≡◌, ℕ, ◌+◌, List, [], ◌∷◌, if◌then◌else◌, refl, ap}
use Rattle.host_disk.specs.Events.{Event, touched}
use Rattle.host_disk.specs.Faults.{is_failure, failures}
use Rattle.host_disk.specs.Unsynced.{calls_of}

-- that a file is to be written or cut is no call, and so none that failed
pub failures-calls : (events : List Event) → failures (calls_of events) ≡ failures events
failures-calls [] = refl
failures-calls (touched file ∷ earlier) = failures-calls earlier
failures-calls (event ∷ earlier) = ap (λ (n : ℕ). if is_failure event then n + 1 else n) (failures-calls earlier)
