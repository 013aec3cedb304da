-- What a truncation and a purge of segments leave of a recording's frames.
use Rattle.std.proofs.Common.{◌≡◌, ◌<◌, ◌≤◌, ◌+◌, ◌*◌, ◌+ℤ◌, ◌≤ℤ◌, ◌*ℤ◌, ℕ, ℤ, pos, negsuc, Bool, true, false, cond, List, [], ◌∷◌, length, filter, ◌||◌, ◌⊎◌, inl, inr, refl, sym, ap, subst, true≢false, int_le, int_lt, nat_lt, nat_le, arith}
use Rattle.std.proofs.lemmas.Int.{ints}
use Rattle.std.proofs.lemmas.Bool.Decides.{nat_tests, Decides-int_eq}
use Rattle.std.proofs.Math.Nat.{mul-le-mul_right}
use Rattle.std.specs.Ordering.{int_eq}
use Rattle.std.specs.List.{list_any}
use Rattle.frame_core.specs.declared.frame.Frame.{Frame}
use Rattle.frame_core.specs.declared.geometry.Geometry.{Geometry}
use Rattle.frame_core.specs.FrameEncoding.{aligned_length}
use Rattle.frame_core.specs.Position.{HasPosition, terms_since}
use Rattle.frame_core.specs.Block.{AreEncodable, covered}
use Rattle.archive_model.specs.declared.reply.PolledFrame.{PolledFrame}
use Rattle.archive_model.specs.Replay.{placed, frames_in}
use Rattle.archive_model.specs.Commands.{ends_by}
use Rattle.archive_model.specs.Histories.{AreContiguous}

-- the frames that are left of those from a position on, and where they lie
pub record Leaves (g : Geometry) (from upto : ℤ) (left : List Frame) : Type 0 where
  pub contiguous : AreContiguous g from left
  pub encodable : AreEncodable left
  pub ends : from +ℤ pos (covered left) ≡ upto

-- a position where a frame begins or the last one ends
abbrev pub IsEdge : ℕ → ℕ → List Frame → Type 0
IsEdge p at [] = p ≡ at
IsEdge p at (f ∷ fs) = (p ≡ at) ⊎ IsEdge p (at + aligned_length f) fs

pub edge_start : (p at : ℕ) (fs : List Frame) → p ≡ at → IsEdge p at fs
edge_start p at [] is = is
edge_start p at (f ∷ fs) is = inl is

pub edge_end : (p at : ℕ) (fs : List Frame) → p ≡ at + covered fs → IsEdge p at fs
edge_end p at [] is = omega arith
edge_end p at (f ∷ fs) is = inr (edge_end p (at + aligned_length f) fs (omega arith))

pub edge_begins : (p at : ℕ) (fs : List Frame) → list_any (λ (f : PolledFrame). int_eq (pos p) f.position) (placed (pos at) fs) ≡ true → IsEdge p at fs
edge_begins p at [] begins = absurd (true≢false (sym begins))
edge_begins p at (f ∷ fs) begins = by (int_eq (pos p) (pos at)) refl begins (edge_begins p (at + aligned_length f) fs)
  where
    by : (b : Bool) → int_eq (pos p) (pos at) ≡ b → b || list_any (λ (f : PolledFrame). int_eq (pos p) f.position) (placed (pos (at + aligned_length f)) fs) ≡ true → (list_any (λ (f : PolledFrame). int_eq (pos p) f.position) (placed (pos (at + aligned_length f)) fs) ≡ true → IsEdge p (at + aligned_length f) fs) → IsEdge p at (f ∷ fs)
    by true e any later = let same : pos p ≡ pos at = (Decides-int_eq (pos p) (pos at)).0 e in inl (omega (arith, ints))
    by false e any later = inr (later any)

edge_low : (p at : ℕ) (fs : List Frame) → IsEdge p at fs → at ≤ p
edge_low p at [] edge = omega arith
edge_low p at (f ∷ fs) (inl is) = omega arith
edge_low p at (f ∷ fs) (inr edge) = let rest = edge_low p (at + aligned_length f) fs edge in omega arith

-- behind a position no frame ends by it
pub keep_none : (p at : ℕ) (fs : List Frame) → p < at → filter (ends_by (pos p)) (placed (pos at) fs) ≡ []
keep_none p at [] behind = refl
keep_none p at (f ∷ fs) behind =
    let past : nat_le (at + aligned_length f) p ≡ false = grind (arith, nat_tests) in
    rw past (keep_none p (at + aligned_length f) fs (omega arith))

-- a truncation at an edge leaves the frames before it
pub cut_front : (g : Geometry) (p at : ℕ) (fs : List Frame) → AreContiguous g (pos at) fs → AreEncodable fs → IsEdge p at fs
    → Leaves g (pos at) (pos p) (frames_in (filter (ends_by (pos p)) (placed (pos at) fs)))
cut_front g p at [] contiguous encodable edge = record { contiguous = tt; encodable = tt; ends = omega (arith, ints) }
cut_front g p at (f ∷ fs) contiguous encodable edge = by (nat_le (at + aligned_length f) p) refl edge (cut_front g p (at + aligned_length f) fs contiguous.2 encodable.1)
  where
    rest : List PolledFrame
    rest = filter (ends_by (pos p)) (placed (pos (at + aligned_length f)) fs)

    by : (b : Bool) → nat_le (at + aligned_length f) p ≡ b → IsEdge p at (f ∷ fs) → (IsEdge p (at + aligned_length f) fs → Leaves g (pos (at + aligned_length f)) (pos p) (frames_in rest))
        → Leaves g (pos at) (pos p) (frames_in (cond b (record { position = pos at; frame = f } ∷ rest) rest))
    by true e (inl is) leaves = kept (leaves (edge_start p (at + aligned_length f) fs (grind (arith, nat_tests))))
      where
        kept : Leaves g (pos (at + aligned_length f)) (pos p) (frames_in rest) → Leaves g (pos at) (pos p) (f ∷ frames_in rest)
        kept l = let ends = l.ends in record { contiguous = (contiguous.0, contiguous.1, l.contiguous); encodable = (encodable.0, l.encodable); ends = omega (arith, ints) }
    by true e (inr there) leaves = kept (leaves there)
      where
        kept : Leaves g (pos (at + aligned_length f)) (pos p) (frames_in rest) → Leaves g (pos at) (pos p) (f ∷ frames_in rest)
        kept l = let ends = l.ends in record { contiguous = (contiguous.0, contiguous.1, l.contiguous); encodable = (encodable.0, l.encodable); ends = omega (arith, ints) }
    by false e (inl is) leaves =
        let past : p < at + aligned_length f = grind (arith, nat_tests) in
        rw (keep_none p (at + aligned_length f) fs past) (record { contiguous = tt; encodable = tt; ends = omega (arith, ints) })
    by false e (inr there) leaves =
        let low = edge_low p (at + aligned_length f) fs there in absurd (true≢false (grind (arith, nat_tests)))

-- from a position on each frame begins at or after it
keep_all : (p at : ℕ) (fs : List Frame) → p ≤ at → frames_in (filter (λ (f : PolledFrame). int_le (pos p) f.position) (placed (pos at) fs)) ≡ fs
keep_all p at [] from = refl
keep_all p at (f ∷ fs) from =
    let here : nat_le p at ≡ true = grind (arith, nat_tests) in
    rw here (ap (λ gs. f ∷ gs) (keep_all p (at + aligned_length f) fs (omega arith)))

-- a frame inside its term that begins before a multiple of the term length ends at or before it
ends_before : (t s o at k size : ℕ) → at ≡ s * t + o → o + size ≤ t → at < k * t → at + size ≤ k * t
ends_before t s o at k size sum inside before = by (nat_lt s k) refl
  where
    by : (b : Bool) → nat_lt s k ≡ b → at + size ≤ k * t
    by true e = let next : s + 1 ≤ k = grind (arith, nat_tests) in let more = mul-le-mul_right t next in let one : (s + 1) * t ≡ s * t + t = omega arith in omega arith
    by false e = let low : k ≤ s = grind (arith, nat_tests) in let less = mul-le-mul_right t low in absurd (omega arith)

term_ends : (g : Geometry) (term offset : ℤ) (t at k size : ℕ) → g.term_length ≡ pos t → HasPosition g term offset (pos at) → (offset +ℤ pos size) ≤ℤ g.term_length → at < k * t → at + size ≤ k * t
term_ends g term offset t at k size is has inside before = by (terms_since g term) offset has.since has.low has.sum inside
  where
    by : (since offset : ℤ) → pos 0 ≤ℤ since → pos 0 ≤ℤ offset → pos at ≡ since *ℤ g.term_length +ℤ offset → (offset +ℤ pos size) ≤ℤ g.term_length → at + size ≤ k * t
    by (negsuc s) o low positive sum within = absurd (omega (arith, ints))
    by (pos s) (negsuc o) low positive sum within = absurd (omega (arith, ints))
    by (pos s) (pos o) low positive sum within =
        let placed_at : pos at ≡ pos (s * t + o) = rw is at sum in
        let within_term : pos (o + size) ≤ℤ pos t = rw is at within in ends_before t s o at k size (omega (arith, ints)) (omega (arith, ints)) before

-- a purge at a term's beginning leaves the frames from there on
pub cut_back : (g : Geometry) (p at t k : ℕ) (fs : List Frame) → g.term_length ≡ pos t → p ≡ k * t → AreContiguous g (pos at) fs → AreEncodable fs → at ≤ p → p ≤ at + covered fs
    → Leaves g (pos p) (pos (at + covered fs)) (frames_in (filter (λ (f : PolledFrame). int_le (pos p) f.position) (placed (pos at) fs)))
cut_back g p at t k [] is base contiguous encodable low high = record { contiguous = tt; encodable = tt; ends = omega (arith, ints) }
cut_back g p at t k (f ∷ fs) is base contiguous encodable low high = by (nat_le p at) refl (cut_back g p (at + aligned_length f) t k fs is base contiguous.2 encodable.1)
  where
    rest : List PolledFrame
    rest = filter (λ (f : PolledFrame). int_le (pos p) f.position) (placed (pos (at + aligned_length f)) fs)

    by : (b : Bool) → nat_le p at ≡ b → (at + aligned_length f ≤ p → p ≤ (at + aligned_length f) + covered fs → Leaves g (pos p) (pos ((at + aligned_length f) + covered fs)) (frames_in rest))
        → Leaves g (pos p) (pos (at + (aligned_length f + covered fs))) (frames_in (cond b (record { position = pos at; frame = f } ∷ rest) rest))
    by true e leaves =
        let same : at ≡ p = grind (arith, nat_tests) in
        let all : frames_in rest ≡ fs = keep_all p (at + aligned_length f) fs (omega arith) in
        rw all (record { contiguous = subst (λ (n : ℕ). AreContiguous g (pos n) (f ∷ fs)) same contiguous; encodable = encodable; ends = omega (arith, ints) })
    by false e leaves =
        let before : at < k * t = grind (arith, nat_tests) in
        let ends = term_ends g f.term_id f.term_offset t at k (aligned_length f) is contiguous.0 contiguous.1 before in
        let left = leaves (omega arith) (omega arith) in
        let sums = left.ends in record { contiguous = left.contiguous; encodable = left.encodable; ends = omega (arith, ints) }

-- and so it does from any position, one before the stream too
pub begun_all : (p : ℤ) (at : ℕ) (fs : List Frame) → int_lt (pos at) p ≡ false → frames_in (filter (λ (f : PolledFrame). int_le p f.position) (placed (pos at) fs)) ≡ fs
begun_all (negsuc n) at [] reached = refl
begun_all (negsuc n) at (f ∷ fs) reached = ap (λ gs. f ∷ gs) (begun_all (negsuc n) (at + aligned_length f) fs refl)
begun_all (pos q) at fs reached = keep_all q at fs (grind (arith, nat_tests))

-- a position that was not reached is not behind
pub unreached : (p : ℤ) (at : ℕ) → int_lt (pos at) p ≡ true → int_le p (pos at) ≡ false
unreached (negsuc n) at before = absurd (true≢false (sym before))
unreached (pos q) at before = grind (arith, nat_tests)
