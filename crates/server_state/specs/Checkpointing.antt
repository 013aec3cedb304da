-- When a checkpoint that was refused is tried again: docs/SERVING.md, "How long a history lasts".
use Rattle.std.specs.Prelude.{ℕ, ◌+◌, ◌/◌, max}

-- once a 64th of the limit more is used, and at least one entry
abbrev pub next_try : ℕ → ℕ → ℕ
next_try counted limit = counted + max 1 (limit / 64)
