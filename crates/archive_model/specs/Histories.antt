-- States that accepted commands make, and what holds of them.
use Rattle.std.specs.Prelude.{◌+ℤ◌, ◌≤ℤ◌, ℕ, ℤ, pos, List, [], ◌∷◌}
use Rattle.frame_core.specs.declared.frame.Frame.{Frame}
use Rattle.frame_core.specs.declared.geometry.Geometry.{Geometry}
use Rattle.frame_core.specs.FrameEncoding.{aligned_length}
use Rattle.frame_core.specs.Position.{HasPosition}
use Rattle.archive_model.specs.State.{Recording, empty, geometry_of}
use Rattle.archive_model.specs.Acceptance.{BookState}

-- frames that follow one another without a gap from a position, each inside its term
abbrev pub AreContiguous : Geometry → ℤ → List Frame → Type 0
AreContiguous g position [] = Unit {0}
AreContiguous g position (f ∷ fs) =
    HasPosition g f.term_id f.term_offset position × ((f.term_offset +ℤ pos (aligned_length f)) ≤ℤ g.term_length)
    × AreContiguous g (position +ℤ pos (aligned_length f)) fs

-- the frames go without a gap from the start to the recorded position
abbrev pub IsContiguous : Recording → Type 0
IsContiguous r = AreContiguous (geometry_of r.descriptor) r.descriptor.start_position r.frames

-- a book without recordings, and room for so many entries of the history
abbrev pub new_book : ℕ → BookState
new_book limit = record { state = empty; counted = 0; limit = limit }
