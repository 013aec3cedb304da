-- What is recorded of a block: docs/ARCHITECTURE.md, "Serving".
use Rattle.std.specs.Prelude.{ℤ, pos, List, [], ◌∷◌}
use Rattle.frame_core.specs.declared.frame.Frame.{Frame}

-- the term of the first of some frames, 0 of none
abbrev pub first_term : List Frame → ℤ
first_term [] = pos 0
first_term (frame ∷ frames) = frame.term_id
