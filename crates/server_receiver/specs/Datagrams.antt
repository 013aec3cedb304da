-- What becomes of a datagram, and what is asked for then: docs/PROTOCOL.md, "Stock"; docs/SERVING.md, "Who can send".
use Rattle.std.specs.Prelude.{◌≡◌, ◌≢◌, ◌<◌, ◌⊎◌, ◌&&◌, ◌-ℤ◌, ℕ, pos, int_lt, Bool, true, false, List, [], ◌∷◌, ◌++◌, length, nat_lt, slice_get, slice_index_or, slice_set, Option, Some, None, is_none, is_some, IsSomeAnd, Result, Ok, Err}
use Rattle.std.specs.List.{position}
use Rattle.std.specs.Ordering.{int_eq}
use Rattle.frame_core.specs.declared.block.Block.{Block}
use Rattle.frame_core.specs.declared.block.Publication.{Publication}
use Rattle.frame_core.specs.declared.frame.Frame.{Frame}
use Rattle.frame_core.specs.declared.refusal.Refusal.{Refusal}
use Rattle.frame_core.specs.declared.refusal.Refusal.TheVariants.{BadFrame, NoMemory}
use Rattle.frame_core.specs.declared.setup.Setup.{Setup}
use Rattle.frame_core.specs.Block.{publication_of}
use Rattle.frame_core.specs.Datagram.{HasNoFront, IsBadAt, IsDatagram}
use Rattle.frame_core.specs.Setup.{HasNoSetup, IsSetup}
use Rattle.frame_core.specs.declared.nak.Nak.{Nak}
use Rattle.frame_core.specs.Nak.{encoded_nak}
use Rattle.image_core.specs.declared.inserted.Inserted.{Inserted}
use Rattle.image_core.specs.Received.{IsBegun, Received, rebuilt}
use Rattle.image_core.specs.Take.{GivesBlock}
use Rattle.image_core.specs.Stock.{Asks, AsksNothing, Offers}
use Rattle.stream_pairs.specs.declared.points.StreamPoint.{StreamPoint}
use Rattle.stream_pairs.specs.Pairs.{vacant_or_next}
use Rattle.server_receiver.specs.declared.images.DatagramOutcome.{DatagramOutcome}
use Rattle.server_receiver.specs.declared.images.DatagramOutcome.TheVariants.{Frames, Joined, NoPlace, Nothing, Refused, SetUp, Unknown}

-- ---- images by their places, of which some have none

-- the place has an image of this publication
abbrev pub has_publication : Publication → Option Received → Bool
has_publication publication None = false
has_publication publication (Some image) =
    int_eq image.publication.session_id publication.session_id && int_eq image.publication.stream_id publication.stream_id

-- the image of a publication, by its place
abbrev pub image_with : Publication → List (Option Received) → Option ℕ
image_with publication images = position (has_publication publication) images

-- the image at a place
abbrev pub received_at : ℕ → List (Option Received) → Option Received
received_at i images = slice_index_or images i None

-- the place of one more image: the least without one, or else the next one, of 64
abbrev pub place_for_image : List (Option Received) → Option ℕ
place_for_image images = vacant_or_next (position is_none images) (length images)

-- an image more, at a place without one, or at the next one
abbrev pub with_received_at : Option ℕ → Received → List (Option Received) → List (Option Received)
with_received_at None image images = images ++ Some image ∷ []
with_received_at (Some i) image images = slice_set images i (Some image)

-- the image of the publication of the first of some frames
abbrev pub image_of : List Frame → List (Option Received) → Option ℕ
image_of [] images = None
image_of (f ∷ fs) images = image_with (publication_of f) images

-- something was rebuilt of the image and not taken
abbrev pub has_block_of : Option Received → Bool
has_block_of None = false
has_block_of (Some image) = nat_lt image.from (rebuilt image)

-- so much that a datagram's length more may pass 65,536 bytes
abbrev pub is_full_image : Received → Bool
is_full_image image = int_lt (pos 65536 -ℤ image.geometry.mtu) (pos (rebuilt image) -ℤ pos image.from)

abbrev pub is_full_of : Option Received → Bool
is_full_of None = false
is_full_of (Some image) = is_full_image image

-- the next block of an image was taken; or there is none
abbrev pub GivesNextBlock : Option Received → Option Block → Option Received → Type 0
GivesNextBlock old None new = (has_block_of old ≡ false) × (new ≡ old)
GivesNextBlock old (Some block) new = (image : Received) × (after : Received) × (old ≡ Some image) × GivesBlock image block after × (new ≡ Some after)

-- of the image at a place, and the others stay
abbrev pub TakesAt : Option (Option Received) → ℕ → List (Option Received) → Option Block → List (Option Received) → Type 0
TakesAt None i olds found news = (found ≡ None) × (news ≡ olds)
TakesAt (Some old) i olds found news = (after : Option Received) × GivesNextBlock old found after × (news ≡ slice_set olds i after)

abbrev pub TakesNext : ℕ → List (Option Received) → Option Block → List (Option Received) → Type 0
TakesNext i olds found news = TakesAt (slice_get olds i) i olds found news

-- the image at a place has a block, for which there was no memory
abbrev pub HasNext : Option Received → Type 0
HasNext image = IsSomeAnd image (λ r. rebuilt r ≢ r.from)

abbrev pub LacksAt : Option (Option Received) → ℕ → List (Option Received) → List (Option Received) → Type 0
LacksAt None i olds news = ⊥
LacksAt (Some old) i olds news = HasNext old × (news ≡ slice_set olds i old)

abbrev pub LacksBlock : ℕ → List (Option Received) → List (Option Received) → Type 0
LacksBlock i olds news = LacksAt (slice_get olds i) i olds news

-- ---- setup frames

-- the publication that a setup frame tells of
abbrev pub publication_of_setup : Setup → Publication
publication_of_setup setup = record { session_id = setup.session_id; stream_id = setup.stream_id }

-- where an image joined of which nothing was received
abbrev pub join_point : Received → StreamPoint
join_point image = record { publication = image.publication; geometry = image.geometry; position = pos image.from }

-- one image more, which joined there
abbrev pub BeginsImage : Setup → List (Option Received) → StreamPoint → List (Option Received) → Type 0
BeginsImage setup olds point news =
    (image : Received) × IsBegun setup image × (point ≡ join_point image) × (news ≡ with_received_at (position is_none olds) image olds)

-- A setup frame of a publication without an image makes one image more exactly if there is a place; for want of memory there is
-- none.
abbrev pub BegunBy : Setup → List (Option Received) → List (Option Received) → DatagramOutcome → Type 0
BegunBy setup olds news (NoPlace publication) = (place_for_image olds ≡ None) × (publication ≡ publication_of_setup setup) × (news ≡ olds)
BegunBy setup olds news (Joined i point) = (place_for_image olds ≡ Some i) × BeginsImage setup olds point news
BegunBy setup olds news (Refused refusal) = (is_some (place_for_image olds) ≡ true) × (refusal ≡ NoMemory) × (news ≡ olds)
BegunBy setup olds news came = ⊥

-- by the image of its publication, if there is one
abbrev pub JoinsAs : Option ℕ → Setup → List (Option Received) → List (Option Received) → DatagramOutcome → Type 0
JoinsAs (Some i) setup olds news came = (came ≡ SetUp i) × (news ≡ olds)
JoinsAs None setup olds news came = BegunBy setup olds news came

abbrev pub JoinsBy : Setup → List (Option Received) → List (Option Received) → DatagramOutcome → Type 0
JoinsBy setup olds news came = JoinsAs (image_with (publication_of_setup setup) olds) setup olds news came

-- of bytes without a frame in front: a setup frame, or nothing comes of them
abbrev pub JoinsIfSetup : List ℕ → List (Option Received) → List (Option Received) → DatagramOutcome → Type 0
JoinsIfSetup datagram olds news came =
    ((setup : Setup) × IsSetup datagram setup × JoinsBy setup olds news came)
    ⊎ (HasNoSetup datagram × (came ≡ Nothing) × (news ≡ olds))

-- ---- frames

-- the first bad frame is not the first one, or there was no memory for the list of the frames
abbrev pub IsRefusedLater : List ℕ → Refusal → Type 0
IsRefusedLater datagram NoMemory = Unit {0}
IsRefusedLater datagram (BadFrame offset) = (0 < offset) × IsBadAt datagram offset
IsRefusedLater datagram refusal = ⊥

-- what happens to frames of an image, with its place
abbrev pub outcome_of : ℕ → Result Bool Refusal → DatagramOutcome
outcome_of image (Ok is_lost) = Frames image is_lost
outcome_of image (Err refusal) = Refused refusal

-- Frames were offered to an image, which took them, or lost them past its stock. Or there was no memory, and nothing changed.
abbrev pub HandlesFrames : Received → List Frame → Received → Result Bool Refusal → Type 0
HandlesFrames old fs after (Ok is_lost) = (inserted : Option Inserted) × Offers old fs inserted after × (is_lost ≡ is_none inserted)
HandlesFrames old fs after (Err refusal) = (refusal ≡ NoMemory) × (after ≡ old)

-- the image at a place handles them, if there is one
abbrev pub HandlesIn : Option Received → List Frame → Option Received → Result Bool Refusal → Type 0
HandlesIn None fs new outcome = ⊥
HandlesIn (Some image) fs new outcome = (after : Received) × HandlesFrames image fs after outcome × (new ≡ Some after)

-- and the others stay
abbrev pub HandledBy : Option (Option Received) → ℕ → List (Option Received) → List Frame → List (Option Received) → DatagramOutcome → Type 0
HandledBy None i olds fs news came = ⊥
HandledBy (Some old) i olds fs news came =
    (after : Option Received) × (outcome : Result Bool Refusal) × HandlesIn old fs after outcome × (news ≡ slice_set olds i after) × (came ≡ outcome_of i outcome)

abbrev pub HandledAt : ℕ → List (Option Received) → List Frame → List (Option Received) → DatagramOutcome → Type 0
HandledAt i olds fs news came = HandledBy (slice_get olds i) i olds fs news came

-- there is an image at a place
abbrev pub IsPlaced : Option (Option Received) → Type 0
IsPlaced None = ⊥
IsPlaced (Some image) = is_some image ≡ true

-- frames whose publication has no image
abbrev pub unknown_of : List Frame → DatagramOutcome
unknown_of [] = Nothing
unknown_of (f ∷ fs) = Unknown (publication_of f)

-- frames of a publication are its image's
abbrev pub TakesFrames : Option ℕ → List (Option Received) → List Frame → List (Option Received) → DatagramOutcome → Type 0
TakesFrames (Some i) olds fs news came = HandledAt i olds fs news came
TakesFrames None olds fs news came = (came ≡ unknown_of fs) × (news ≡ olds)

-- What happens to a datagram: frames are for the image of the publication of the first one; bytes without a frame in front may
-- be a setup frame, which makes an image; and of what else is no datagram nothing comes.
abbrev pub Takes : List (Option Received) → List ℕ → List (Option Received) → DatagramOutcome → Type 0
Takes olds datagram news came =
    ((fs : List Frame) × IsDatagram datagram fs × TakesFrames (image_of fs olds) olds fs news came)
    ⊎ ((HasNoFront datagram × JoinsIfSetup datagram olds news came)
    ⊎ ((refusal : Refusal) × IsRefusedLater datagram refusal × (came ≡ Refused refusal) × (news ≡ olds)))

-- ---- requests

module _ {E : Type 0} (sends : E → List ℕ → E → Type 0) where
  -- one request was sent for what is missing first of an image, as far as there is room for it; or nothing was, and nothing is
  -- missing that there is room for
  abbrev pub SendsOneRequest : Received → E → E → Bool → Type 0
  SendsOneRequest image old new true = (nak : Nak) × Asks image nak × sends old (encoded_nak nak) new
  SendsOneRequest image old new false = AsksNothing image × (new ≡ old)

  abbrev pub AsksOf : Option Received → E → E → Bool → Type 0
  AsksOf None old new asked = (asked ≡ false) × (new ≡ old)
  AsksOf (Some image) old new asked = SendsOneRequest image old new asked

  -- after frames that an image took or lost it is asked for what is missing; after anything else nothing is sent
  abbrev pub AsksAfter : List (Option Received) → DatagramOutcome → E → E → Bool → Type 0
  AsksAfter images (Frames i is_lost) old new asked = AsksOf (received_at i images) old new asked
  AsksAfter images came old new asked = (asked ≡ false) × (new ≡ old)

-- the image at a place is given back
abbrev pub vacated_at : ℕ → List (Option Received) → List (Option Received)
vacated_at i images = slice_set images i None
