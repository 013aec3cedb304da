-- Each datagram lies in one term.
use Rattle.std.proofs.Common.{◌≡◌, ◌∙◌, ap, refl, ◌+◌, ◌*◌, ◌/◌, ◌≤◌, ◌<◌, ◌≤ℤ◌, ◌<ℤ◌, ◌+ℤ◌, ◌*ℤ◌, ℕ, ℤ, pos, negsuc, List, [], ◌∷◌, Bool, true, false, Some, arith}
use Rattle.std.specs.Prelude.{nat_le, unsigned_abs, if◌then◌else◌}
use Rattle.std.specs.List.{AllByRecursion}
use Rattle.std.specs.Ordering.{int_eq}
use Rattle.std.proofs.Math.Nat.{mul-le-mul_right}
use Rattle.std.proofs.lemmas.Bool.Decides.{nat_tests}
use Rattle.std.proofs.lemmas.Int.{ints}
use Rattle.std.proofs.lemmas.Nat.{div-mul-add}
use Rattle.frame_core.specs.declared.block.Publication.{Publication}
use Rattle.frame_core.specs.declared.frame.Frame.{Frame}
use Rattle.frame_core.specs.declared.geometry.Geometry.{Geometry}
use Rattle.frame_core.specs.FrameEncoding.{aligned_length}
use Rattle.frame_core.specs.Position.{position_of, terms_since}
use Rattle.frame_core.proofs.PositionLemmas.{given}
use Rattle.image_core.specs.Kept.{AreMembers}
use Rattle.image_core.specs.Received.{is_inside, joining_position}
use Rattle.publication_core.specs.declared.datagram.Datagram.{Datagram}
use Rattle.publication_core.specs.Copies.{IsAmong, IsRecordedStream}
use Rattle.publication_core.specs.Datagrams.{alone, has_room, laid, with_next_frame}
use Rattle.publication_core.specs.Keeping.{EndsInItsTerm}
use Rattle.publication_core.specs.Runs.{AreOfStream, Call, LaysOfStream, sending_after, after_calls, Lay}
use Rattle.publication_core.specs.Sending.{Sending, new_sending}
use Rattle.publication_core.proofs.EachLemmas.{AreEach, each_call}
use Rattle.publication_core.proofs.HoldLemmas.{member_of}

-- ---- one frame

-- whole terms and an offset, as numbers from 0 on
record IsSplit (p terms offset size : ℕ) : Type 0 where
  sum : p ≡ terms * size + offset
  high : offset < size

split : (terms offset size : ℤ) (p : ℕ) → pos 0 ≤ℤ terms → pos 0 ≤ℤ offset → offset <ℤ size → pos p ≡ terms *ℤ size +ℤ offset
    → IsSplit p (unsigned_abs terms) (unsigned_abs offset) (unsigned_abs size)
split (pos t) (pos o) (pos n) p since low high sum = record { sum = omega (arith, ints, sum); high = omega (arith, ints, high) }
split (negsuc t) offset size p since low high sum = absurd (omega (arith, ints, since))
split (pos t) (negsuc o) size p since low high sum = absurd (omega (arith, ints, low))
split (pos t) (pos o) (negsuc n) p since low high sum = absurd (omega (arith, ints, high))

-- a frame that may join lies inside its term
record IsInTerm (g : Geometry) (f : Frame) (p : ℕ) : Type 0 where
  terms : ℕ
  split : IsSplit p terms (unsigned_abs f.term_offset) (unsigned_abs g.term_length)
  ends : unsigned_abs f.term_offset + aligned_length f ≤ unsigned_abs g.term_length

inside : (g : Geometry) (f : Frame) → is_inside g f ≡ true → unsigned_abs f.term_offset + aligned_length f ≤ unsigned_abs g.term_length
unfolding is_inside
inside g f is = grind (arith, nat_tests, is)

-- what a frame that may join is
pub record MayJoin (g : Geometry) (f : Frame) (p : ℕ) : Type 0 where
  pub inside : is_inside g f ≡ true
  pub at : position_of g f.term_id f.term_offset ≡ Some p

pub may_join : (g : Geometry) (publication : Publication) (f : Frame) (p : ℕ) → joining_position g publication f ≡ Some p → MayJoin g f p
unfolding joining_position
may_join g publication f p lies = record { inside = grind (arith, lies); at = grind (arith, lies) }

in_term : (g : Geometry) (publication : Publication) (f : Frame) (p : ℕ) → joining_position g publication f ≡ Some p → IsInTerm g f p
in_term g publication f p lies =
    let it = may_join g publication f p lies in
    let at = given g f.term_id f.term_offset p it.at in record {
      terms = unsigned_abs (terms_since g f.term_id);
      split = split (terms_since g f.term_id) f.term_offset g.term_length p at.since at.low at.high at.sum;
      ends = inside g f it.inside;
    }

-- it ends where its term does, at the latest
ends_there : (p terms offset size n : ℕ) → IsSplit p terms offset size → offset + n ≤ size → p + n ≤ (p / size + 1) * size
ends_there p terms offset size n is low =
    let term : p / size ≡ terms = ap (λ (x : ℕ). x / size) is.sum ∙ div-mul-add terms size offset is.high in
    let sum = is.sum in
    rw term (omega (arith, sum, low))

-- and so does one that follows in the same term
follows : (from p terms offset size n : ℕ) → IsSplit p terms offset size → from ≤ p → p ≤ (from / size + 1) * size → 0 < offset → offset + n ≤ size
    → p + n ≤ (from / size + 1) * size
follows from p terms offset size n is low high some ends = by_term (nat_le terms (from / size)) refl where
  by_term : (b : Bool) → nat_le terms (from / size) ≡ b → p + n ≤ (from / size + 1) * size
  by_term true le =
      let up : terms * size ≤ from / size * size = mul-le-mul_right size (grind (arith, nat_tests, le)) in
      let sum = is.sum in
      omega (arith, up, sum, ends)
  by_term false le =
      let up : (from / size + 1) * size ≤ terms * size = mul-le-mul_right size (grind (arith, nat_tests, le)) in
      let sum = is.sum in
      absurd (omega (arith, up, sum, high, some))

-- ---- datagrams

-- a datagram ends in its term, and not before it begins
record IsInItsTerm (g : Geometry) (d : Datagram) : Type 0 where
  order : d.position ≤ d.end
  ends : EndsInItsTerm g d

alone_there : (g : Geometry) (f : Frame) (p : ℕ) → IsInTerm g f p → IsInItsTerm g (alone p f)
alone_there g f p is = record { order = omega arith; ends = ends_there p is.terms (unsigned_abs f.term_offset) (unsigned_abs g.term_length) (aligned_length f) is.split is.ends }

some_offset : (z : ℤ) → int_eq z (pos 0) ≡ false → 0 < unsigned_abs z
some_offset z is = grind (arith, ints, is)

more_there : (g geometry : Geometry) (f : Frame) (p : ℕ) (d : Datagram) → IsInTerm g f p → IsInItsTerm g d → has_room geometry d p f ≡ true → IsInItsTerm g (with_next_frame d p f)
more_there g geometry f p d is there room =
    let at : d.end ≡ p = grind (arith, nat_tests, room) in
    let offset : int_eq f.term_offset (pos 0) ≡ false = grind (arith, room) in
    let low = there.order in
    let high = there.ends in
    record {
      order = omega (arith, low, at);
      ends = follows d.position p is.terms (unsigned_abs f.term_offset) (unsigned_abs g.term_length) (aligned_length f) is.split (omega (arith, low, at)) (omega (arith, high, at))
          (some_offset f.term_offset offset)
          is.ends;
    }

laid_there : (g geometry : Geometry) (f : Frame) (p : ℕ) (ds : List Datagram) → IsInTerm g f p → AllByRecursion (IsInItsTerm g) ds → AllByRecursion (IsInItsTerm g) (laid geometry p f ds)
laid_there g geometry f p [] is there = (alone_there g f p is, tt)
laid_there g geometry f p (d ∷ []) is there = by_room (has_room geometry d p f) refl where
  by_room : (b : Bool) → has_room geometry d p f ≡ b → AllByRecursion (IsInItsTerm g) (if b then with_next_frame d p f ∷ [] else d ∷ alone p f ∷ [])
  by_room true room = (more_there g geometry f p d is there.0 room, tt)
  by_room false room = (there.0, (alone_there g f p is, tt))
laid_there g geometry f p (d ∷ e ∷ ds) is there = (there.0, laid_there g geometry f p (e ∷ ds) is there.1)

-- ---- calls

lays_there : (g : Geometry) (publication : Publication) (stream : List (ℕ × Frame)) (c : Call) (s : Sending) (p : ℕ) (f : Frame) → AreMembers g publication stream
    → LaysOfStream stream c → AreEach g (IsInItsTerm g) s → c ≡ Lay p f → AllByRecursion (IsInItsTerm g) (laid s.geometry p f s.waiting)
lays_there g publication stream c s p f members of there is =
    let among : IsAmong (p, f) stream = rw is at of in
    laid_there g s.geometry f p s.waiting (in_term g publication f p (member_of g publication p f stream members among).lies) there.waiting

calls_there : (g : Geometry) (publication : Publication) (stream : List (ℕ × Frame)) (cs : List Call) (s : Sending) → AreMembers g publication stream
    → AreOfStream stream cs → AreEach g (IsInItsTerm g) s → AreEach g (IsInItsTerm g) (after_calls cs s)
calls_there g publication stream [] s members of there = there
calls_there g publication stream (c ∷ cs) s members of there =
    calls_there g publication stream cs (sending_after c s) members of.1
    (each_call g (IsInItsTerm g) c s
    (λ d is_repeat_asked again_at is. record { order = is.order; ends = is.ends })
    (λ p f is. lays_there g publication stream c s p f members of.0 there is)
    there)

ends_alone : (g : Geometry) (ds : List Datagram) → AllByRecursion (IsInItsTerm g) ds → AllByRecursion (EndsInItsTerm g) ds
ends_alone g [] there = tt
ends_alone g (d ∷ ds) there = (there.0.ends, ends_alone g ds there.1)

-- what was sent and what waits lies in one term
pub record AreInOneTerm (g : Geometry) (s : Sending) : Type 0 where
  pub sent : AllByRecursion (EndsInItsTerm g) s.sent
  pub waiting : AllByRecursion (EndsInItsTerm g) s.waiting

pub all_in_one_term : (g : Geometry) (publication : Publication) (from to : ℕ) (stream : List (ℕ × Frame)) (cs : List Call) → IsRecordedStream g publication from stream to
    → AreOfStream stream cs → AreInOneTerm g (after_calls cs (new_sending g publication from))
all_in_one_term g publication from to stream cs is of =
    let there = calls_there g publication stream cs (new_sending g publication from) is.members of (record { geometry = refl; sent = tt; waiting = tt }) in
    record { sent = ends_alone g _ there.sent; waiting = ends_alone g _ there.waiting }
