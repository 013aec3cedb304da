-- Holes between recordings of one publication, as they stand when a server begins: docs/SERVING.md, "What the server prints".
use Rattle.std.specs.Prelude.{◌+◌, ◌-◌, ◌-ℤ◌, ◌^◌, ◌&&◌, ◌==◌, ℕ, ℤ, zero, suc, pos, min, int_le, int_lt, unsigned_abs, if◌then◌else◌, List, Option, None, Some, slice_get, take}
use Rattle.archive_model.specs.declared.descriptor.Descriptor.{Descriptor}
use Rattle.stream_pairs.specs.declared.points.StreamPoint.{StreamPoint}
use Rattle.server_state.specs.declared.resuming.Stand.{Stand}
use Rattle.server_recorder.specs.Streams.{stand_before}
use Rattle.server_recorder.specs.declared.standing_holes.StandingHoles.{StandingHoles}

-- where a recording begins
abbrev pub begin_point : Descriptor → StreamPoint
begin_point d = record {
  publication = record { session_id = d.session_id; stream_id = d.stream_id };
  geometry = record { initial_term_id = d.initial_term_id; term_length = d.term_length; mtu = d.mtu };
  position = d.start_position;
}

-- bytes from the end of a recording to where the next one begins; 0 if it begins there or before
abbrev pub hole_bytes : ℤ → ℤ → ℕ
hole_bytes from to = if int_le (pos 0) from && int_lt from to then unsigned_abs (to -ℤ from) else 0

abbrev pub hole_past : ℤ → Option Stand → ℕ
hole_past to None = 0
hole_past to (Some stand) = hole_bytes stand.position to

-- bytes of the hole before a recording: after the last one before it that is of its publication. That one is passed over if nothing was recorded by it, and the publication could not go on there.
abbrev pub hole_before : List Descriptor → Descriptor → ℕ
hole_before before d = hole_past d.start_position (stand_before (begin_point d) before)

abbrev pub hole_of : List Descriptor → Option Descriptor → ℕ
hole_of before None = 0
hole_of before (Some d) = hole_before before d

-- bytes of the hole before one of several recordings, by rising id
abbrev pub hole_at : ℕ → List Descriptor → ℕ
hole_at i ds = hole_of (take i ds) (slice_get ds i)

-- one more hole, if it has a byte; no number passes the last `u64`
abbrev pub sum_held : ℕ → ℕ → ℕ
sum_held a b = min (a + b) (2 ^ 64 - 1)

abbrev pub with_hole : StandingHoles → ℕ → StandingHoles
with_hole holes bytes = if bytes == 0 then holes else record { count = sum_held holes.count 1; bytes = sum_held holes.bytes bytes }

-- the holes before the first recordings of several
abbrev pub holes_below : ℕ → List Descriptor → StandingHoles
holes_below zero ds = record { count = 0; bytes = 0 }
holes_below (suc n) ds = with_hole (holes_below n ds) (hole_at n ds)
