-- Bytes without a frame in front, and blocks of images.
use Rattle.std.proofs.Common.{◌≡◌, ◌<◌, ℕ, zero, suc, List, [], ◌∷◌, Option, Some, None, false, refl, sym, ap, subst, arith, length, get_or, ⊎_elim}
use Rattle.std.specs.Prelude.{is_some, map, slice_get, true}
use Rattle.std.proofs.lemmas.Bool.Decides.{nat_tests}
use Rattle.frame_core.specs.Datagram.{HasNoFront, IsBadAt, IsDatagramRefusal}
use Rattle.frame_core.specs.declared.refusal.Refusal.{Refusal}
use Rattle.frame_core.specs.declared.refusal.Refusal.TheVariants.{BadFrame}
use Rattle.image_core.specs.Received.{Received, rebuilt}
use Rattle.std.proofs.lemmas.List.Quantifiers.{position-Some}
use Rattle.frame_core.specs.Block.{publication_of}
use Rattle.frame_core.specs.declared.block.Publication.{Publication}
use Rattle.frame_core.specs.FrameEncoding.{frame_of}
use Rattle.frame_core.specs.declared.frame.Frame.{Frame}
use Rattle.frame_core.specs.declared.frame.FrameRef.{FrameRef}
use Rattle.server_receiver.specs.Datagrams.{IsPlaced, has_block_of, has_publication, image_of, image_with}

-- what is bad at its start has no frame in front
no_front : (bytes : List ℕ) → IsBadAt bytes 0 → HasNoFront bytes
no_front bytes bad = ⊎_elim (λ none. none) (λ later. absurd (omega (arith, later.0))) bad.bad

pub refused_at_start : (bytes : List ℕ) (refusal : Refusal) (offset : ℕ) → refusal ≡ BadFrame offset → offset ≡ 0 → IsDatagramRefusal bytes refusal → HasNoFront bytes
refused_at_start bytes refusal offset is start refused = no_front bytes (rw (is, start) at refused)

gets_none : (xs : List (Option Received)) (i : ℕ) → i < length xs → slice_get xs i ≡ Some (get_or xs i None)
gets_none [] i below = absurd (omega arith)
gets_none (y ∷ ys) zero below = refl
gets_none (y ∷ ys) (suc i) below = gets_none ys i (omega arith)

-- of an image whose rebuild position is where it was taken to nothing waits
pub none_waits : (image : Received) → rebuilt image ≡ image.from → has_block_of (Some image) ≡ false
none_waits image is = grind (arith, nat_tests)

-- a place that has an image of a publication has an image
has_some : (publication : Publication) (o : Option Received) → has_publication publication o ≡ true → is_some o ≡ true
has_some publication None has = cc
has_some publication (Some image) has = refl

pub is_placed : (publication : Publication) (images : List (Option Received)) (i : ℕ) → image_with publication images ≡ Some i → IsPlaced (slice_get images i)
is_placed publication images i found =
    let first = position-Some (has_publication publication) images i None found in
    subst IsPlaced (sym (gets_none images i first.0)) (has_some publication (get_or images i None) first.1)

-- so has that of frames
pub is_placed_of : (fs : List Frame) (images : List (Option Received)) (i : ℕ) → image_of fs images ≡ Some i → IsPlaced (slice_get images i)
is_placed_of [] images i found = cc
is_placed_of (f ∷ fs) images i found = is_placed (publication_of f) images i found

-- the image of frames is that of the first one's publication
pub first_image : (fs : List FrameRef) (f : FrameRef) (images : List (Option Received)) → 0 < length fs → f ≡ get_or fs 0 f → image_of (map frame_of fs) images ≡ image_with (publication_of (frame_of f)) images
first_image [] f images below is = absurd (omega arith)
first_image (g ∷ fs) f images below is = ap (λ (x : FrameRef). image_with (publication_of (frame_of x)) images) (sym is)
