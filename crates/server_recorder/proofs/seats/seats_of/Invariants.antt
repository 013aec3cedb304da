use Rattle.std.proofs.Common.{◌≡◌, ◌+◌, ◌≤◌}
use Rattle.std.specs.Prelude.{length, vec_capacity, vec_len}
use mathlib.Core.List.{reverse}
use Rattle.server_recorder.specs.Seats.{AreNewSeats, AreNewWriters}
use Rattle.server_recorder.proofs.seats.seats_of.Given as goal

-- writers of the slots below the last seat are left, and the seats have room for the rest
abbrev pub invariant-loop-writer : goal.invariant-loop-writer
invariant-loop-writer l = record {
  writers : AreNewWriters l.board 0 l.writers.items;
  seats : AreNewSeats l.board (vec_len l.writers) (reverse l.room.items);
  count : vec_len l.writers + vec_len l.room ≡ 64;
  room : 64 ≤ vec_capacity l.room;
}

abbrev pub decreases-loop-writer : goal.decreases-loop-writer
decreases-loop-writer l = length l.writers.items
