-- Positions, and the terms and offsets that have them.
use Rattle.std.proofs.Common.{rules, ◌≡◌, ◌∙◌, refl, sym, ap, ℕ, ℤ, pos, negsuc, ◌≤ℤ◌, ◌<ℤ◌, ◌+ℤ◌, ◌-ℤ◌, ◌*ℤ◌, ◌+◌, ◌*◌, ◌/◌, ◌%◌, ◌<◌, FitsSigned, w32, arith}
use Rattle.std.proofs.lemmas.Int.{ints, int_wrap_fits, int_wrap-add_left}
use Rattle.std.proofs.lemmas.Nat.{div-mul-add, mod-mul-add}
use Rattle.std.specs.Int.{int_wrap}
use Rattle.std.specs.Prelude.{int_lt, unsigned_abs, if◌then◌else◌, Bool, true, false, Some, None}
use Rattle.frame_core.specs.declared.geometry.Geometry.{Geometry}
use Rattle.frame_core.specs.Position.{HasPosition, position_of, terms_since}

-- a term and an offset have one position
pub one_position : (g : Geometry) (term offset p q : ℤ) → HasPosition g term offset p → HasPosition g term offset q → p ≡ q
one_position g term offset p q here there = here.sum ∙ sym there.sum

-- a term id is the first one and how many terms it is behind that, with the wrap
term_is : (g : Geometry) (term : ℤ) → FitsSigned w32 term → int_wrap w32 (terms_since g term +ℤ g.initial_term_id) ≡ term
term_is g term fits =
    int_wrap-add_left w32 (term -ℤ g.initial_term_id) g.initial_term_id ∙ ap (int_wrap w32) (omega (arith, ints)) ∙ int_wrap_fits w32 term fits

-- whole terms and a rest are determined by the sum
one_split : (m n a b size : ℕ) → a < size → b < size → m * size + a ≡ n * size + b → (m ≡ n) × (a ≡ b)
one_split m n a b size low high same = (
  sym (div-mul-add m size a low) ∙ ap (λ (k : ℕ). k / size) same ∙ div-mul-add n size b high,
  sym (mod-mul-add m size a low) ∙ ap (λ (k : ℕ). k % size) same ∙ mod-mul-add n size b high,
)

-- the same of whole numbers
split_once : (m n a b size : ℤ) → pos 0 ≤ℤ m → pos 0 ≤ℤ n → pos 0 ≤ℤ a → pos 0 ≤ℤ b → a <ℤ size → b <ℤ size → m *ℤ size +ℤ a ≡ n *ℤ size +ℤ b → (m ≡ n) × (a ≡ b)
split_once (pos m) (pos n) (pos a) (pos b) (pos size) m_low n_low a_low b_low a_high b_high same =
    let split = one_split m n a b size (omega (arith, ints)) (omega (arith, ints)) (omega (arith, ints, same)) in (ap pos split.0, ap pos split.1)
split_once (negsuc m) n a b size m_low n_low a_low b_low a_high b_high same = absurd (omega (arith, ints, m_low))
split_once (pos m) (negsuc n) a b size m_low n_low a_low b_low a_high b_high same = absurd (omega (arith, ints, n_low))
split_once (pos m) (pos n) (negsuc a) b size m_low n_low a_low b_low a_high b_high same = absurd (omega (arith, ints, a_low))
split_once (pos m) (pos n) (pos a) (negsuc b) size m_low n_low a_low b_low a_high b_high same = absurd (omega (arith, ints, b_low))
split_once (pos m) (pos n) (pos a) (pos b) (negsuc size) m_low n_low a_low b_low a_high b_high same = absurd (omega (arith, ints, a_high))

-- a position has one term and one offset
pub one_term : (g : Geometry) (term other offset other_offset p : ℤ) → FitsSigned w32 term → FitsSigned w32 other → HasPosition g term offset p → HasPosition g other other_offset p
    → (term ≡ other) × (offset ≡ other_offset)
one_term g term other offset other_offset p fits other_fits here there =
    let split = split_once (terms_since g term) (terms_since g other) offset other_offset g.term_length here.since there.since here.low there.low here.high there.high
    (sym here.sum ∙ there.sum) in
    (sym (term_is g term fits) ∙ ap (λ (n : ℤ). int_wrap w32 (n +ℤ g.initial_term_id)) split.0 ∙ term_is g other other_fits, split.1)

-- what the function reckons with, over whole numbers alone
record IsSum (terms offset size : ℤ) (n : ℕ) : Type 0 where
  since : pos 0 ≤ℤ terms
  low : pos 0 ≤ℤ offset
  high : offset <ℤ size
  sum : pos n ≡ terms *ℤ size +ℤ offset

summed : (terms offset size : ℤ) → pos 0 ≤ℤ terms → pos 0 ≤ℤ offset → offset <ℤ size
    → pos (unsigned_abs terms * unsigned_abs size + unsigned_abs offset) ≡ terms *ℤ size +ℤ offset
summed (pos t) (pos o) (pos s) since low high = refl
summed (negsuc t) offset size since low high = absurd (omega (arith, ints, since))
summed (pos t) (negsuc o) size since low high = absurd (omega (arith, ints, low))
summed (pos t) (pos o) (negsuc s) since low high = absurd (omega (arith, ints, high))

found_by : (terms offset size : ℤ) (n : ℕ) (a b c : Bool) → int_lt terms (pos 0) ≡ a → int_lt offset (pos 0) ≡ b → int_lt offset size ≡ c
    → (if a then None else (if b then None else (if c then Some (unsigned_abs terms * unsigned_abs size + unsigned_abs offset) else None))) ≡ Some n
    → IsSum terms offset size n
found_by terms offset size n true b c since low high found = absurd (search (rules, found))
found_by terms offset size n false true c since low high found = absurd (search (rules, found))
found_by terms offset size n false false false since low high found = absurd (search (rules, found))
found_by terms offset size n false false true since low high found =
    let from : pos 0 ≤ℤ terms = search (rules, since) in
    let above : pos 0 ≤ℤ offset = search (rules, low) in
    let below : offset <ℤ size = search (rules, high) in
    let is : unsigned_abs terms * unsigned_abs size + unsigned_abs offset ≡ n = search (rules, found) in
    record { since = from; low = above; high = below; sum = ap pos (sym is) ∙ summed terms offset size from above below }

-- a position that the function gives
pub given : (g : Geometry) (term offset : ℤ) (n : ℕ) → position_of g term offset ≡ Some n → HasPosition g term offset (pos n)
unfolding position_of
given g term offset n found =
    let is : IsSum (terms_since g term) offset g.term_length n = found_by (terms_since g term) offset g.term_length n _ _ _ refl refl refl found in
    record { since = is.since; low = is.low; high = is.high; sum = is.sum }

-- each position is given
pub is_given : (g : Geometry) (term offset p : ℤ) → HasPosition g term offset p → (n : ℕ) × (position_of g term offset ≡ Some n) × (p ≡ pos n)
unfolding position_of
is_given g term offset p here =
    let since : int_lt (terms_since g term) (pos 0) ≡ false = search (rules, here.since) in
    let low : int_lt offset (pos 0) ≡ false = search (rules, here.low) in
    let high : int_lt offset g.term_length ≡ true = search (rules, here.high) in (
      unsigned_abs (terms_since g term) * unsigned_abs g.term_length + unsigned_abs offset,
      rw (since, low, high) refl,
      here.sum ∙ sym (summed (terms_since g term) offset g.term_length here.since here.low here.high),
    )

-- none is given where there is none
pub not_given : (g : Geometry) (term offset : ℤ) → position_of g term offset ≡ None → (p : ℤ) → HasPosition g term offset p → ⊥
not_given g term offset none p here =
    let found = is_given g term offset p here in
    search (rules, none, found.1)
