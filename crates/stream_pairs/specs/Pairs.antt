-- Which image feeds which recorder session: docs/ARCHITECTURE.md, "Images and recorder sessions".
use Rattle.std.specs.Prelude.{◌&&◌, ◌||◌, ◌==◌, ◌++◌, ◌+◌, ◌-◌, ◌^◌, ℕ, ℤ, pos, int_le, unsigned_abs, nat_lt, not, length, slice_get, slice_set, slice_index_or, Bool, true, false, if◌then◌else◌, List, [], ◌∷◌, Option, Some, None, is_some, replicate, zero, suc}
use Rattle.std.specs.List.{filter, list_any, position}
use Rattle.std.specs.Ordering.{int_eq}
use Rattle.frame_core.specs.declared.block.Publication.{Publication}
use Rattle.frame_core.specs.declared.geometry.Geometry.{Geometry}
use Rattle.stream_pairs.specs.declared.points.StreamPoint.{StreamPoint}
use Rattle.stream_pairs.specs.declared.pairs.SessionSlot.{SessionSlot}
use Rattle.stream_pairs.specs.declared.pairs.JoinedImage.{JoinedImage}

-- of this publication
abbrev pub has_publication : Publication → StreamPoint → Bool
has_publication publication p =
    int_eq p.publication.session_id publication.session_id && int_eq p.publication.stream_id publication.stream_id

-- with these terms: the same initial term id, term length and MTU
abbrev pub has_terms : Geometry → StreamPoint → Bool
has_terms g p =
    int_eq p.geometry.initial_term_id g.initial_term_id
    && int_eq p.geometry.term_length g.term_length
    && int_eq p.geometry.mtu g.mtu

-- of the same publication, with the same terms, and at the same position
abbrev pub is_point : StreamPoint → StreamPoint → Bool
is_point q p = has_publication q.publication p && has_terms q.geometry p && int_eq p.position q.position

-- the recorder sessions by their seats, 0 to 63, of which some have none; the images by their places, in the order in which they
-- came until one was given back; and how many images came
pub record PairsState : Type 0 where
  pub slots : List (Option SessionSlot)
  pub images : List JoinedImage
  pub came : ℕ

-- no session was opened, and no image came
abbrev pub no_pairs : PairsState
no_pairs = record { slots = replicate 64 None; images = []; came = 0 }

-- the session at a seat, if it has one
abbrev pub slot_of : ℕ → PairsState → Option SessionSlot
slot_of n s = slice_index_or s.slots n None

-- the session at a seat is another
abbrev pub with_slot : ℕ → Option SessionSlot → PairsState → PairsState
with_slot n slot s = record s { slots = slice_set s.slots n slot }

abbrev pub image_of_slot : Option SessionSlot → Option ℕ
image_of_slot None = None
image_of_slot (Some slot) = slot.image

-- the image that feeds the session at a seat, by its place
abbrev pub image_at : ℕ → PairsState → Option ℕ
image_at n s = image_of_slot (slot_of n s)

-- ---- pairing

abbrev pub is_index : ℕ → Option ℕ → Bool
is_index i None = false
is_index i (Some j) = j == i

-- the image at a place feeds the session
abbrev pub feeds : ℕ → Option SessionSlot → Bool
feeds i slot = is_index i (image_of_slot slot)

-- the session is open, has no image, and its recording stands where an image joined
abbrev pub takes : StreamPoint → Option SessionSlot → Bool
takes join None = false
takes join (Some slot) = slot.is_open && not (is_some slot.image) && is_point join slot.point

-- the session with this image, or with none
abbrev pub fed_by : Option ℕ → Option SessionSlot → Option SessionSlot
fed_by image None = None
fed_by image (Some slot) = Some (record slot { image = image })

-- the session at a seat, if one was found, has this image
abbrev pub paired_with : ℕ → Option ℕ → PairsState → PairsState
paired_with i None s = s
paired_with i (Some n) s = with_slot n (fed_by (Some i) (slot_of n s)) s

-- the image at a place feeds a session
abbrev pub is_fed : ℕ → PairsState → Bool
is_fed i s = is_some (position (feeds i) s.slots)

-- an image, unless it has lost its session or has one, is paired with the session of the least seat that takes it
abbrev pub pair_image : Option JoinedImage → ℕ → PairsState → PairsState
pair_image None i s = s
pair_image (Some image) i s =
    if image.is_lost || is_fed i s then s else paired_with i (position (takes image.join) s.slots) s

abbrev pub pair_one : ℕ → PairsState → PairsState
pair_one i s = pair_image (slice_get s.images i) i s

-- so many images, the first of them first
abbrev pub pair_first : ℕ → PairsState → PairsState
pair_first zero s = s
pair_first (suc k) s = pair_one k (pair_first k s)

abbrev pub pair_all : PairsState → PairsState
pair_all s = pair_first (length s.images) s

-- ---- what comes

-- a session that was opened: which recording it writes, and where that stands
abbrev pub opened_slot : ℤ → ℤ → StreamPoint → SessionSlot
opened_slot session recording point = record { session = session; recording = recording; point = point; is_open = true; image = None }

-- a session is noted at this seat, unless one is
abbrev pub with_new_session : ℕ → SessionSlot → PairsState → PairsState
with_new_session n slot s = if is_some (slot_of n s) then s else with_slot n (Some slot) s

abbrev pub after_opened : ℕ → ℤ → ℤ → StreamPoint → PairsState → PairsState
after_opened n session recording point s = pair_all (with_new_session n (opened_slot session recording point) s)

-- the place of an image is a publication's: it was not given back
abbrev pub is_image_of : Publication → JoinedImage → Bool
is_image_of publication image = not image.has_left && has_publication publication image.join

-- the image of a publication, by its place
abbrev pub image_with : Publication → PairsState → Option ℕ
image_with publication s = position (is_image_of publication) s.images

-- a place that was given back
abbrev pub is_vacant : JoinedImage → Bool
is_vacant image = image.has_left

-- the place of one more image: the least that was given back, or else the next one, of 64
abbrev pub vacant_or_next : Option ℕ → ℕ → Option ℕ
vacant_or_next (Some i) count = Some i
vacant_or_next None count = if nat_lt count 64 then Some count else None

abbrev pub place_for_next : PairsState → Option ℕ
place_for_next s = vacant_or_next (position is_vacant s.images) (length s.images)

-- an image may come of a publication that has none, if there is a place; 2^64 - 1 of them may come
abbrev pub may_join : Publication → PairsState → Bool
may_join publication s = is_some (place_for_next s) && not (is_some (image_with publication s)) && nat_lt s.came (2 ^ 64 - 1)

-- the place of an image that may come
abbrev pub joined_index : Publication → PairsState → Option ℕ
joined_index publication s = if may_join publication s then place_for_next s else None

-- an image that came, which has the number of those that came before
abbrev pub new_image : StreamPoint → PairsState → JoinedImage
new_image join s = record { number = s.came; join = join; is_lost = false; has_left = false }

abbrev pub put_image : Option ℕ → JoinedImage → List JoinedImage → List JoinedImage
put_image None image images = images ++ image ∷ []
put_image (Some i) image images = slice_set images i image

abbrev pub joined : StreamPoint → PairsState → PairsState
joined join s = record s { images = put_image (position is_vacant s.images) (new_image join s) s.images; came = s.came + 1 }

abbrev pub after_joined : StreamPoint → PairsState → PairsState
after_joined join s = if may_join join.publication s then pair_all (joined join s) else s

-- a session whose recording stands elsewhere now
abbrev pub moved : ℤ → Option SessionSlot → Option SessionSlot
moved position None = None
moved position (Some slot) = Some (record slot { point = record slot.point { position = position } })

abbrev pub after_settled : ℕ → ℤ → PairsState → PairsState
after_settled n position s = with_slot n (moved position (slot_of n s)) s

-- the session is open and writes this recording
abbrev pub writes : ℤ → Option SessionSlot → Bool
writes recording None = false
writes recording (Some slot) = slot.is_open && int_eq slot.recording recording

-- the session is open, and the image at a place feeds it
abbrev pub is_recorded_by : ℕ → Option SessionSlot → Bool
is_recorded_by i None = false
is_recorded_by i (Some slot) = slot.is_open && feeds i (Some slot)

-- the image at a place feeds a session that is open
abbrev pub is_recorded : ℕ → PairsState → Bool
is_recorded i s = list_any (is_recorded_by i) s.slots

-- a session that has ended keeps its image
abbrev pub ended : Option SessionSlot → Option SessionSlot
ended None = None
ended (Some slot) = Some (record slot { is_open = false })

abbrev pub ended_at : Option ℕ → PairsState → PairsState
ended_at None s = s
ended_at (Some n) s = with_slot n (ended (slot_of n s)) s

-- a recording was stopped, and its session has ended
abbrev pub after_stopped : ℤ → PairsState → PairsState
after_stopped recording s = ended_at (position (writes recording) s.slots) s

abbrev pub lost : Option JoinedImage → ℕ → List JoinedImage → List JoinedImage
lost None i images = images
lost (Some image) i images = slice_set images i (record image { is_lost = true })

-- the image at a place was lost
abbrev pub with_lost_image : ℕ → PairsState → PairsState
with_lost_image i s = record s { images = lost (slice_get s.images i) i s.images }

-- the session at a seat loses this image, if it has one
abbrev pub without_image : ℕ → Option ℕ → PairsState → PairsState
without_image n None s = s
without_image n (Some i) s = with_lost_image i (with_slot n (fed_by None (slot_of n s)) s)

-- a session was refused, and loses its image, which is not paired again
abbrev pub after_refused : ℕ → PairsState → PairsState
after_refused n s = without_image n (image_at n s) s

-- ---- what is given back

-- the session at a seat has ended: it loses its image, which is not paired again, and the seat is free
abbrev pub released_at : Option ℕ → PairsState → PairsState
released_at None s = s
released_at (Some n) s = with_slot n None (after_refused n s)

-- a recording was stopped, and the seat of the session that wrote it is given back
abbrev pub after_released : ℤ → PairsState → PairsState
after_released recording s = released_at (position (writes recording) s.slots) s

-- the session at a seat is without its image
abbrev pub unfed_at : Option ℕ → PairsState → PairsState
unfed_at None s = s
unfed_at (Some n) s = with_slot n (fed_by None (slot_of n s)) s

abbrev pub vacated : Option JoinedImage → ℕ → List JoinedImage → List JoinedImage
vacated None i images = images
vacated (Some image) i images = slice_set images i (record image { is_lost = true; has_left = true })

-- the place of an image is given back; the session that it feeds stays, and may take another one
abbrev pub after_left : ℕ → PairsState → PairsState
after_left i s = record (unfed_at (position (feeds i) s.slots) s) { images = vacated (slice_get s.images i) i s.images }

-- ---- seats

-- the session of a number is at the seat
abbrev pub has_session : ℤ → Option SessionSlot → Bool
has_session session None = false
has_session session (Some slot) = int_eq slot.session session

-- the seat of a session, if it has one
abbrev pub seat_of : ℤ → PairsState → Option ℕ
seat_of session s = position (has_session session) s.slots

abbrev pub is_free : Option SessionSlot → Bool
is_free slot = not (is_some slot)

-- a seat for a session: that of its own number if it is free, else the least that is free
abbrev pub has_own_seat : ℤ → PairsState → Bool
has_own_seat session s = int_le (pos 0) session && nat_lt (unsigned_abs session) 64 && is_free (slot_of (unsigned_abs session) s)

abbrev pub seat_for : ℤ → PairsState → Option ℕ
seat_for session s = if has_own_seat session s then Some (unsigned_abs session) else position is_free s.slots

-- the image at a place, unless the place was given back
abbrev pub kept_image : Option JoinedImage → Option JoinedImage
kept_image None = None
kept_image (Some image) = if image.has_left then None else Some image

abbrev pub image_in : ℕ → PairsState → Option JoinedImage
image_in i s = kept_image (slice_get s.images i)

-- how many places have an image
abbrev pub image_count : PairsState → ℕ
image_count s = length (filter (λ (image : JoinedImage). not (is_vacant image)) s.images)
