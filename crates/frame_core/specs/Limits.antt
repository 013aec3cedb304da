-- Limits of a publication: docs/CONTROL.md, "Limits".
use Rattle.std.specs.Prelude.{◌%◌, ◌==◌, ◌&&◌, ℤ, pos, negsuc, Bool, false, nat_le, nat_lt}
use Rattle.std.specs.Int.{is_power_of_two}

-- a power of two from 65,536 to 1,073,741,824
unfoldable pub is_term_length : ℤ → Bool
is_term_length (pos n) = nat_le 65536 n && nat_le n 1073741824 && is_power_of_two n
is_term_length (negsuc n) = false

-- a multiple of 32, greater than 32 and at most 65,504
unfoldable pub is_mtu : ℤ → Bool
is_mtu (pos n) = nat_lt 32 n && nat_le n 65504 && n % 32 == 0
is_mtu (negsuc n) = false
