-- Where held frames lie, so that their ends are positions too.
use Rattle.std.specs.Prelude.{◌<◌, ◌^◌, ℕ, List}
use Rattle.std.specs.List.{AllByRecursion}
use Rattle.frame_core.specs.declared.frame.Frame.{Frame}

-- frames lie below 2^62
abbrev pub HaveRoom : List (ℕ × Frame) → Type 0
HaveRoom held = AllByRecursion (λ e. e.0 < 2 ^ 62) held
