-- Streams whose publications are recorded without being asked: docs/SERVING.md, "Recording without being asked".
use Rattle.std.specs.Prelude.{ℤ, Bool, List}
use Rattle.std.specs.List.{list_any}
use Rattle.std.specs.Ordering.{int_eq}

-- the publications of a stream are recorded
abbrev pub is_recorded_stream : List ℤ → ℤ → Bool
is_recorded_stream streams stream = list_any (int_eq stream) streams
