-- What follows of the pairs over all runs: docs/ARCHITECTURE.md, "Images and recorder sessions".
use Rattle.std.specs.Prelude.{◌≡◌, ◌≢◌, ◌<◌, ◌⊎◌, ℕ, ℤ, List, [], ◌∷◌, Some, true, false, slice_get}
use Rattle.stream_pairs.specs.declared.pairs.JoinedImage.{JoinedImage}
use Rattle.stream_pairs.specs.declared.points.StreamPoint.{StreamPoint}
use Rattle.stream_pairs.specs.Pairs.{PairsState, after_joined, after_left, after_opened, after_refused, after_released, after_settled, after_stopped, image_at, is_fed, slot_of, takes, writes}

-- what may come if nothing is given back: a session is opened at a seat, by its number, for a recording that stands at a point;
-- an image joins at one; the session at a seat is settled up to a position; a recording is stopped; a session is refused
pub data Coming : Type 0 where
  opens : ℕ → ℤ → ℤ → StreamPoint → Coming
  joins : StreamPoint → Coming
  settles : ℕ → ℤ → Coming
  stops : ℤ → Coming
  refuses : ℕ → Coming

abbrev pub after_coming : PairsState → Coming → PairsState
after_coming s (opens n session recording point) = after_opened n session recording point s
after_coming s (joins join) = after_joined join s
after_coming s (settles n position) = after_settled n position s
after_coming s (stops recording) = after_stopped recording s
after_coming s (refuses n) = after_refused n s

abbrev pub after_comings : PairsState → List Coming → PairsState
after_comings s [] = s
after_comings s (e ∷ es) = after_comings (after_coming s e) es

-- an image feeds one session at most
abbrev pub FeedsOne : PairsState → Type 0
FeedsOne s = (m n i : ℕ) → image_at m s ≡ Some i → image_at n s ≡ Some i → m ≡ n

-- a session is the least that takes an image which joined there
pub record IsLeastTaker (join : StreamPoint) (n : ℕ) (s : PairsState) : Type 0 where
  pub takes_it : takes join (slot_of n s) ≡ true
  pub least : (m : ℕ) → m < n → takes join (slot_of m s) ≡ false

-- the image of an index was not lost, and the session of a number is the least that takes it
pub record MayFeed (i n : ℕ) (s : PairsState) : Type 0 where
  pub image : JoinedImage
  pub there : slice_get s.images i ≡ Some image
  pub kept : image.is_lost ≡ false
  pub least : IsLeastTaker image.join n s

-- a pair ends by a refusal of its session alone
abbrev pub PairStays : ℕ → Coming → PairsState → Type 0
PairStays n e s = (i : ℕ) → image_at n s ≡ Some i → (image_at n (after_coming s e) ≡ Some i) ⊎ (e ≡ refuses n)

-- the image of an index was lost by a session that it fed
pub record IsLost (i : ℕ) (s : PairsState) : Type 0 where
  pub image : JoinedImage
  pub there : slice_get s.images i ≡ Some image
  pub lost : image.is_lost ≡ true

-- no session takes an image that has none and was not lost
abbrev pub NoneWaits : PairsState → Type 0
NoneWaits s =
    (i n : ℕ) (image : JoinedImage) → slice_get s.images i ≡ Some image → image.is_lost ≡ false
    → is_fed i s ≡ false → takes image.join (slot_of n s) ≡ false

-- ---- where places and seats are given back

-- what may happen: something comes, the seat of a recording that was stopped is given back, or the place of an image is
pub data Happening : Type 0 where
  comes : Coming → Happening
  releases : ℤ → Happening
  leaves : ℕ → Happening

abbrev pub after_happening : PairsState → Happening → PairsState
after_happening s (comes e) = after_coming s e
after_happening s (releases recording) = after_released recording s
after_happening s (leaves i) = after_left i s

abbrev pub after_happenings : PairsState → List Happening → PairsState
after_happenings s [] = s
after_happenings s (h ∷ hs) = after_happenings (after_happening s h) hs

-- the place of an image is given back, and all other images stay, and so do the sessions that it doesn't feed
pub record LeavesTheRest (i : ℕ) (s : PairsState) : Type 0 where
  pub images : (j : ℕ) → j ≢ i → slice_get (after_left i s).images j ≡ slice_get s.images j
  pub slots : (n : ℕ) → image_at n s ≢ Some i → slot_of n (after_left i s) ≡ slot_of n s

-- the seat of a recording's session is given back, and all others stay, and so do the images that don't feed it
pub record ReleasesNoOther (recording : ℤ) (s : PairsState) : Type 0 where
  pub slots : (n : ℕ) → writes recording (slot_of n s) ≡ false → slot_of n (after_released recording s) ≡ slot_of n s
  pub images : (j : ℕ) → ((n : ℕ) → writes recording (slot_of n s) ≡ true → image_at n s ≢ Some j) → slice_get (after_released recording s).images j ≡ slice_get s.images j

-- an image of the same number joined at the same place of the same stream: it is the same one
abbrev pub IsSameImage : JoinedImage → JoinedImage → Type 0
IsSameImage image later = later.number ≡ image.number → later.join ≡ image.join
