-- Accepted commands keep states well-formed, and the register after them is the one of the state.
use Rattle.std.proofs.Common.{◌≡◌, ◌<◌, ◌≤◌, ◌+◌, ◌-◌, ◌*◌, ◌/◌, ◌%◌, ◌^◌, ◌+ℤ◌, ◌≤ℤ◌, ℕ, ℤ, pos, negsuc, Bool, true, false, List, filter, ◌||◌, ◌&&◌, ◌⊎◌, inl, inr, refl, sym, ap, ◌∙◌, true≢false, int_le, nat_lt, unsigned_abs, arith}
use Rattle.std.specs.Prelude.{◌==◌}
use Rattle.std.proofs.lemmas.Int.{ints}
use Rattle.std.proofs.lemmas.Nat.{pow-add}
use Rattle.std.proofs.lemmas.Bool.Decides.{nat_tests, Decides-int_eq}
use Rattle.std.proofs.Math.Nat.{add-mul, mul_assoc, mul_comm, div-add-mod}
use Rattle.std.specs.Ordering.{int_eq}
use Rattle.std.specs.List.{list_any}
use Rattle.frame_core.specs.declared.frame.Frame.{Frame}
use Rattle.frame_core.specs.declared.geometry.Geometry.{Geometry}
use Rattle.frame_core.specs.Block.{AreEncodable, covered}
use Rattle.frame_core.specs.Limits.{is_term_length}
use Rattle.frame_core.specs.Segment.{first_base, segment_base}
use Rattle.frame_core.proofs.LimitsLemmas.{is_power, exponent_le}
use Rattle.archive_model.specs.declared.reply.PolledFrame.{PolledFrame}
use Rattle.archive_model.specs.Replay.{placed, frames_in}
use Rattle.archive_model.specs.Commands.{ends_by}
use Rattle.archive_model.specs.Histories.{AreContiguous}
use Rattle.archive_model.proofs.CutLemmas.{IsEdge, Leaves, cut_back, cut_front, edge_begins, edge_end, edge_start}

pub both : {a b : Bool} → a && b ≡ true → (a ≡ true) × (b ≡ true)
both {a = true} {b = b} h = (refl, h)
both {a = false} {b = b} h = absurd (true≢false (sym h))

either : {a b : Bool} → a || b ≡ true → (a ≡ true) ⊎ (b ≡ true)
either {a = true} {b = b} h = inl refl
either {a = false} {b = b} h = inr h

-- a truncation at a boundary
abbrev pub is_cut : ℤ → ℤ → List Frame → Bool
is_cut start p fs =
    (int_le start p && int_le p (start +ℤ pos (covered fs)))
    && ((int_eq p start || int_eq p (start +ℤ pos (covered fs))) || list_any (λ (f : PolledFrame). int_eq p f.position) (placed start fs))

pub truncation_leaves : (g : Geometry) (start p : ℤ) (fs : List Frame) → pos 0 ≤ℤ start → AreContiguous g start fs → AreEncodable fs → is_cut start p fs ≡ true
    → Leaves g start p (frames_in (filter (ends_by p) (placed start fs)))
truncation_leaves g (negsuc n) p fs low contiguous encodable cut = absurd (omega (arith, ints))
truncation_leaves g (pos at) (negsuc n) fs low contiguous encodable cut = absurd (true≢false (sym cut))
truncation_leaves g (pos at) (pos q) fs low contiguous encodable cut = cut_front g q at fs contiguous encodable (edge (either (both cut).1))
  where
    end : (int_eq (pos q) (pos at) ≡ true) ⊎ (int_eq (pos q) (pos (at + covered fs)) ≡ true) → IsEdge q at fs
    end (inl first) = let same : pos q ≡ pos at = (Decides-int_eq (pos q) (pos at)).0 first in edge_start q at fs (omega (arith, ints))
    end (inr last) = let same : pos q ≡ pos (at + covered fs) = (Decides-int_eq (pos q) (pos (at + covered fs))).0 last in edge_end q at fs (omega (arith, ints))

    edge : ((int_eq (pos q) (pos at) || int_eq (pos q) (pos (at + covered fs))) ≡ true) ⊎ (list_any (λ (f : PolledFrame). int_eq (pos q) f.position) (placed (pos at) fs) ≡ true) → IsEdge q at fs
    edge (inl ends) = end (either ends)
    edge (inr begins) = edge_begins q at fs begins

-- segments of whole terms begin at whole terms
whole_terms : (t s first p : ℕ) (i m : ℕ) → s ≡ m * t → first ≡ t * i → first ≤ p → (p - first) % s ≡ 0 → p ≡ (i + m * ((p - first) / s)) * t
whole_terms t s first p i m segment base low none =
    let d : ℕ = p - first in
    let parts : s * (d / s) + d % s ≡ d = div-add-mod d s in
    let turned : s * (d / s) ≡ (m * (d / s)) * t = ap (λ n. n * (d / s)) segment ∙ mul_assoc m t (d / s) ∙ ap (λ n. m * n) (mul_comm t (d / s)) ∙ sym (mul_assoc m (d / s) t) in
    let start : t * i ≡ i * t = mul_comm t i in
    let sums : (i + m * (d / s)) * t ≡ i * t + (m * (d / s)) * t = add-mul i (m * (d / s)) t in
    omega arith

pub base_is_term : (start p t s a b : ℕ) → t ≡ 2 ^ a → s ≡ 2 ^ b → a ≤ b → start < p → segment_base start t s p ≡ p → (k : ℕ) × (p ≡ k * t)
base_is_term start p t s a b term segment lower behind base =
    let parts : t * (start / t) + start % t ≡ start = div-add-mod start t in
    let first : first_base start t ≡ t * (start / t) = omega arith in
    let rest : t * (start / t) ≤ start = omega arith in
    let more : s ≡ 2 ^ (b - a) * t = segment ∙ ap (λ n. 2 ^ n) (omega arith) ∙ pow-add 2 (b - a) a ∙ ap (λ n. 2 ^ (b - a) * n) (sym term) in
    let low : first_base start t ≤ p = omega (arith, first) in
    let less : (p - first_base start t) % s ≤ p - first_base start t = (let d : ℕ = p - first_base start t in let whole : s * (d / s) + d % s ≡ d = div-add-mod d s in omega arith) in
    let none : (p - first_base start t) % s ≡ 0 = omega (arith, base, less, low) in
    (start / t + 2 ^ (b - a) * ((p - first_base start t) / s), whole_terms t s (first_base start t) p (start / t) (2 ^ (b - a)) more first low none)

-- a purge of whole segments
abbrev pub is_purge : ℤ → ℤ → ℤ → ℤ → ℤ → Bool
is_purge start term segment recorded (pos q) =
    nat_lt (unsigned_abs start) q && int_le (pos q) recorded && segment_base (unsigned_abs start) (unsigned_abs term) (unsigned_abs segment) q == q
is_purge start term segment recorded (negsuc q) = false

pub purge_leaves : (g : Geometry) (start p segment : ℤ) (fs : List Frame) → is_term_length g.term_length ≡ true → is_term_length segment ≡ true → g.term_length ≤ℤ segment → pos 0 ≤ℤ start → AreContiguous g start fs
    → AreEncodable fs → is_purge start g.term_length segment (start +ℤ pos (covered fs)) p ≡ true
    → Leaves g p (start +ℤ pos (covered fs)) (frames_in (filter (λ (f : PolledFrame). int_le p f.position) (placed start fs)))
purge_leaves g (negsuc n) p segment fs term whole less low contiguous encodable purge = absurd (omega (arith, ints))
purge_leaves g (pos at) (negsuc n) segment fs term whole less low contiguous encodable purge = absurd (true≢false (sym purge))
purge_leaves g (pos at) (pos q) segment fs term whole less low contiguous encodable purge =
    let first : (nat_lt at q && int_le (pos q) (pos (at + covered fs)) ≡ true) × ((segment_base at (unsigned_abs g.term_length) (unsigned_abs segment) q == q) ≡ true) = both purge in
    let ends : (nat_lt at q ≡ true) × (int_le (pos q) (pos (at + covered fs)) ≡ true) = both first.0 in
    let t = is_power g.term_length term in
    let s = is_power segment whole in
    let term_is : unsigned_abs g.term_length ≡ 2 ^ t.0 = ap unsigned_abs t.3 in
    let segment_is : unsigned_abs segment ≡ 2 ^ s.0 = ap unsigned_abs s.3 in
    let powers : 2 ^ t.0 ≤ 2 ^ s.0 = (let z : pos (2 ^ t.0) ≤ℤ pos (2 ^ s.0) = rw (← t.3, ← s.3) less in omega (arith, ints)) in
    let behind : at < q = grind (arith, nat_tests) in
    let within : q ≤ at + covered fs = grind (arith, nat_tests) in
    let base : segment_base at (unsigned_abs g.term_length) (unsigned_abs segment) q ≡ q = grind (arith, nat_tests) in
    let k = base_is_term at q (unsigned_abs g.term_length) (unsigned_abs segment) t.0 s.0 term_is segment_is (exponent_le t.0 s.0 powers) behind base in
    let length : g.term_length ≡ pos (unsigned_abs g.term_length) = t.3 ∙ ap pos (sym term_is) in
    cut_back g q at (unsigned_abs g.term_length) k.0 fs length k.1 contiguous encodable (omega arith) within
