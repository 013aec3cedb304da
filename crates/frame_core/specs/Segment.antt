-- Segments of a recording: docs/STORAGE.md, "Segments"; Aeron Archive documentation, "Recordings".
use Rattle.std.specs.Prelude.{◌-◌, ◌%◌, ℕ}

-- where the first segment begins: the start position, rounded down to a multiple of the term length
abbrev pub first_base : ℕ → ℕ → ℕ
first_base start term_length = start - start % term_length

-- where the segment of a position begins: so many whole segments behind the first base
abbrev pub segment_base : ℕ → ℕ → ℕ → ℕ → ℕ
segment_base start term_length segment_length position = position - (position - first_base start term_length) % segment_length
