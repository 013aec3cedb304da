-- What the record of a closed disk tells of it.
use Rattle.std.proofs.Common.{◌≡◌, ℕ, List, [], ◌∷◌, refl, ap}
use Rattle.host_disk.specs.Events.{Event, touched}
use Rattle.host_disk.specs.Replay.{Replayed, after_event, life_at, replay}
use Rattle.host_disk.specs.Unsynced.{calls_of}

replay-calls : (events : List Event) → replay (calls_of events) ≡ replay events
replay-calls [] = refl
replay-calls (touched file ∷ earlier) = replay-calls earlier
replay-calls (event ∷ earlier) = ap (after_event event) (replay-calls earlier)

-- that a file is to be written or cut is no call, and so makes nothing of the files
pub life_at-calls : (events : List Event) (faults : ℕ) → life_at (calls_of events) faults ≡ life_at events faults
life_at-calls events faults =
    ap (λ (m : Replayed). record { obeys = m.obeys; past = m.past; now = m.now; faults = faults }) (replay-calls events)
