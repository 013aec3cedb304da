-- What is known of images when their senders are admitted something, or another publication wants their places: docs/PROTOCOL.md,
-- "Places".
use Rattle.std.specs.Prelude.{ℕ, ℤ, nat_lt, true, if◌then◌else◌, List, Option, None, Some}
use Rattle.std.specs.List.{position}
use Rattle.stream_pairs.specs.declared.pairs.SessionSlot.{SessionSlot}
use Rattle.stream_pairs.specs.Pairs.{PairsState, feeds, slot_of}
use Rattle.server_state.specs.declared.pairing.ImageKey.{ImageKey}
use Rattle.server_state.specs.declared.origins.Origin.{Origin}
use Rattle.server_state.specs.Resuming.{changed_origin, origin_of}

-- up to where a session is settled, if it is open
abbrev pub open_position : Option SessionSlot → Option ℤ
open_position None = None
open_position (Some slot) = if slot.is_open then Some slot.point.position else None

abbrev pub seat_position : Option ℕ → PairsState → Option ℤ
seat_position None s = None
seat_position (Some n) s = open_position (slot_of n s)

-- up to where the session is settled that the image at a place feeds
abbrev pub settled_of : ℕ → PairsState → Option ℤ
settled_of i s = seat_position (position (feeds i) s.slots) s

-- the level of so many recordings: the third from 99 hundredths of 1,024 on, the second from 95, the first from 90
abbrev pub recordings_level : ℕ → ℕ
recordings_level count = if nat_lt count 922 then 0 else if nat_lt count 973 then 1 else if nat_lt count 1014 then 2 else 3

-- an image has its first block
abbrev pub after_filling : ImageKey → List (Option Origin) → List (Option Origin)
after_filling key origins = changed_origin key (origin_of key origins) (λ origin. record origin { has_block = true }) origins
