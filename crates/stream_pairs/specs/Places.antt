-- Which image gives its place to another publication: docs/PROTOCOL.md, "Places".
use Rattle.std.specs.Prelude.{◌&&◌, ◌||◌, ◌==◌, ℕ, nat_le, nat_lt, not, Bool, true, false, if◌then◌else◌, List, Option, Some, None}
use Rattle.std.specs.List.{list_any, position}
use Rattle.frame_core.specs.declared.block.Publication.{Publication}
use Rattle.stream_pairs.specs.declared.pairs.SessionSlot.{SessionSlot}
use Rattle.stream_pairs.specs.declared.places.PlaceUse.{PlaceUse}
use Rattle.stream_pairs.specs.declared.places.Rank.{Rank}
use Rattle.stream_pairs.specs.declared.places.Rank.TheVariants.{Other, Silent, Kept, Recorded}
use Rattle.stream_pairs.specs.Pairs.{PairsState, has_publication}

-- an open session is of a publication
abbrev pub is_open_of : Publication → Option SessionSlot → Bool
is_open_of publication None = false
is_open_of publication (Some slot) = slot.is_open && has_publication publication slot.point

abbrev pub has_open_session : Publication → PairsState → Bool
has_open_session publication s = list_any (is_open_of publication) s.slots

-- What an image without a session counts: it stays if it was lost or leaves, or if its publication is wanted and something of it came.
abbrev pub unfed_rank : PlaceUse → Rank
unfed_rank u = if u.ends then Kept else if not u.is_wanted then Other else if u.has_begun then Kept else Silent

abbrev pub rank_of : PlaceUse → Rank
rank_of u = if u.feeds then Recorded else unfed_rank u

-- An image yields its place: at once if its publication is not wanted; once it is 1,000 milliseconds old if it is wanted and nothing of it came.
abbrev pub yields_by : Rank → PlaceUse → Bool
yields_by Other u = true
yields_by Silent u = nat_le 1000 u.age
yields_by Kept u = false
yields_by Recorded u = false

abbrev pub yields : PlaceUse → Bool
yields u = yields_by (rank_of u) u

-- how early a rank yields
abbrev pub height : Rank → ℕ
height Other = 0
height Silent = 1
height Kept = 2
height Recorded = 3

-- of two that yield the one of the lower rank goes first, and of one rank the one that was heard longer ago
abbrev pub is_before : PlaceUse → PlaceUse → Bool
is_before u other =
    nat_lt (height (rank_of u)) (height (rank_of other))
    || (height (rank_of u) == height (rank_of other) && nat_lt u.heard other.heard)

-- the image at a place yields before another one
abbrev pub yields_before : PlaceUse → Option PlaceUse → Bool
yields_before other None = false
yields_before other (Some u) = yields u && is_before u other

-- some image yields before it
abbrev pub is_any_before : List (Option PlaceUse) → PlaceUse → Bool
is_any_before uses u = list_any (yields_before u) uses

-- the image at a place yields, and none does before it
abbrev pub is_first_of : List (Option PlaceUse) → Option PlaceUse → Bool
is_first_of uses None = false
is_first_of uses (Some u) = yields u && not (is_any_before uses u)

-- the place that is given to a wanted publication, the least of several
abbrev pub first_yielding : List (Option PlaceUse) → Option ℕ
first_yielding uses = position (is_first_of uses) uses
