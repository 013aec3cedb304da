-- Cases on the order of two numbers.
use Rattle.std.proofs.Common.{◌≡◌, ℕ, ◌<◌, Bool, true, false, refl, sym, subst, arith}
use Rattle.std.specs.Prelude.{nat_lt, ◌==◌}
use Rattle.std.specs.Ordering.{nat_cmp}
use Rattle.std.specs.declared.cmp.Ordering.{Ordering}
use Rattle.std.specs.declared.cmp.Ordering.TheVariants.{Less, Equal, Greater}
use Rattle.std.specs.Cmp.{nat_cmp_is}

-- where one number isn't below the other
not_below : (P : Ordering → Type 0) (x y : ℕ) → (x ≡ y → P Equal) → (y < x → P Greater) → nat_lt x y ≡ false → (b : Bool) → (x == y) ≡ b → P (nat_cmp x y)
not_below P x y e g n true h = let same : x ≡ y = grind arith in subst P (nat_cmp_is x y Equal same) (e same)
not_below P x y e g n false h = let above : y < x = grind arith in subst P (nat_cmp_is x y Greater above) (g above)

below_or_not : (P : Ordering → Type 0) (x y : ℕ) → (x < y → P Less) → (x ≡ y → P Equal) → (y < x → P Greater) → (b : Bool) → nat_lt x y ≡ b → P (nat_cmp x y)
below_or_not P x y l e g true h = let below : x < y = grind arith in subst P (nat_cmp_is x y Less below) (l below)
below_or_not P x y l e g false h = not_below P x y e g h (x == y) refl

-- what holds in each case holds
pub by_cmp : (P : Ordering → Type 0) (x y : ℕ) → (x < y → P Less) → (x ≡ y → P Equal) → (y < x → P Greater) → P (nat_cmp x y)
by_cmp P x y l e g = below_or_not P x y l e g (nat_lt x y) refl

pub less_cmp : (x y : ℕ) → x < y → nat_cmp x y ≡ Less
less_cmp x y h = sym (nat_cmp_is x y Less h)

pub equal_cmp : (x y : ℕ) → x ≡ y → nat_cmp x y ≡ Equal
equal_cmp x y h = sym (nat_cmp_is x y Equal h)

pub greater_cmp : (x y : ℕ) → y < x → nat_cmp x y ≡ Greater
greater_cmp x y h = sym (nat_cmp_is x y Greater h)
