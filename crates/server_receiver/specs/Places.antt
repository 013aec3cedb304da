-- Places of images, and publications that got none: docs/PROTOCOL.md, "Places".
use Rattle.std.specs.Prelude.{◌&&◌, ◌+◌, ◌-◌, ◌%◌, ◌^◌, ℕ, min, nat_le, false, true, Bool, if◌then◌else◌, slice_set, Option, None, Some}
use Rattle.std.specs.Ordering.{int_eq}
use Rattle.frame_core.specs.declared.block.Publication.{Publication}
use Rattle.server_receiver.specs.declared.ages.Ages.{Ages}
use Rattle.server_receiver.specs.declared.no_places.NoPlaces.{NoPlaces}

-- an image joined at a place, which has no block
abbrev pub joined_at : ℕ → ℕ → Ages → Ages
joined_at place now a = record a { joined = slice_set a.joined place now; has_block = slice_set a.has_block place false }

-- it has one
abbrev pub ages_with_block : ℕ → Ages → Ages
ages_with_block place a = record a { has_block = slice_set a.has_block place true }

-- this publication is noted
abbrev pub is_noted_as : Publication → Option Publication → Bool
is_noted_as publication None = false
is_noted_as publication (Some noted) =
    int_eq noted.session_id publication.session_id && int_eq noted.stream_id publication.stream_id

-- one more is noted, in place of the one that was noted longest ago, of 64
abbrev pub with_publication : Publication → NoPlaces → NoPlaces
with_publication publication n = record n {
  noted = slice_set n.noted (n.next % 64) (Some publication);
  next = (n.next % 64 + 1) % 64;
  more = min (n.more + 1) (2 ^ 64 - 1);
}

-- it is reported once in 60,000 milliseconds, with how many more got no place since
abbrev pub is_telling_time : ℕ → Option ℕ → Bool
is_telling_time now None = true
is_telling_time now (Some last) = nat_le 60000 (now - last)

abbrev pub more_to_tell : ℕ → NoPlaces → Option ℕ
more_to_tell now n = if is_telling_time now n.told_at then Some (n.more - 1) else None

abbrev pub after_telling : ℕ → NoPlaces → NoPlaces
after_telling now n = if is_telling_time now n.told_at then record n { told_at = Some now; more = 0 } else n
