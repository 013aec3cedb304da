-- Settlings that clients ask for: docs/ARCHITECTURE.md, "Serving".
use Rattle.std.specs.Prelude.{◌&&◌, ◌||◌, ℕ, not, Bool, false, List, replicate, slice_index_or}
use Rattle.std.specs.List.{list_any}
use Rattle.server_state.specs.declared.asking.Asks.{Asks}

-- some session was asked for
abbrev pub is_any_asked : List Bool → Bool
is_any_asked asked = list_any (λ (one : Bool). one) asked

-- all that were asked for are taken
abbrev pub all_taken : Asks → Asks
all_taken a = record a { asked = replicate 64 false; taken = a.asked }

-- the session was asked for, whether it was taken or not, and the recording thread goes on
abbrev pub is_pending : ℕ → Asks → Bool
is_pending n a = not a.is_closed && (slice_index_or a.asked n false || slice_index_or a.taken n false)
