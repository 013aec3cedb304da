-- Holes between recordings of one publication, by publication: docs/SERVING.md, "Metrics".
use Rattle.std.specs.Prelude.{◌&&◌, ◌+◌, ◌%◌, ℕ, Bool, false, List, Option, None, Some, slice_index_or, slice_set}
use Rattle.std.specs.List.{position}
use Rattle.std.specs.Ordering.{int_eq}
use Rattle.frame_core.specs.declared.block.Publication.{Publication}
use Rattle.metrics_text.specs.SettleTimes.{held_sum}
use Rattle.server_state.specs.declared.publication_holes.PublicationHoles.{PublicationHoles}
use Rattle.server_state.specs.declared.publication_holes.SeenHoles.{SeenHoles}

-- this is kept of a publication
abbrev pub is_hole_of : Publication → Option PublicationHoles → Bool
is_hole_of publication None = false
is_hole_of publication (Some h) =
    int_eq h.publication.session_id publication.session_id && int_eq h.publication.stream_id publication.stream_id

-- which of 64 places what is kept of a publication gets: the one that it has, or the next in turn
abbrev pub hole_place : Option ℕ → ℕ → ℕ
hole_place None next = next
hole_place (Some i) next = i

-- the next in turn, once that is kept
abbrev pub hole_next : Option ℕ → ℕ → ℕ
hole_next None next = (next % 64 + 1) % 64
hole_next (Some i) next = next

-- bytes of holes, as far as they are kept
abbrev pub bytes_kept : Option PublicationHoles → ℕ
bytes_kept None = 0
bytes_kept (Some h) = h.bytes

abbrev pub holes_at : Option ℕ → List (Option PublicationHoles) → ℕ
holes_at None kept = 0
holes_at (Some i) kept = bytes_kept (slice_index_or kept i None)

abbrev pub holes_of : Publication → SeenHoles → ℕ
holes_of publication seen = holes_at (position (is_hole_of publication) seen.kept) seen.kept

-- one more hole of a publication
abbrev pub kept_at : Option ℕ → PublicationHoles → SeenHoles → SeenHoles
kept_at i h seen = record seen { kept = slice_set seen.kept (hole_place i seen.next) (Some h); next = hole_next i seen.next }

abbrev pub after_hole : Publication → ℕ → SeenHoles → SeenHoles
after_hole publication bytes seen = kept_at (position (is_hole_of publication) seen.kept)
    (record { publication = publication; bytes = held_sum (holes_of publication seen) bytes }) seen
