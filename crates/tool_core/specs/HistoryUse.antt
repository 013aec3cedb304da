-- When a warning of a history that fills up is due: docs/CONTROL.md, "Standard error".
use Rattle.std.specs.Prelude.{ℕ, ◌*◌, nat_lt, nat_le, if◌then◌else◌}

-- 99, 95 or 90, as soon as so many hundredths of the limit count; else 0, and of a limit below 100
abbrev pub level_of : ℕ → ℕ → ℕ
level_of counted limit =
    if nat_lt limit 100 then 0
    else if nat_le (limit * 99) (counted * 100) then 99
    else if nat_le (limit * 95) (counted * 100) then 95
    else if nat_le (limit * 90) (counted * 100) then 90
    else 0
