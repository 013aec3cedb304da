use Rattle.std.proofs.Common.{◌≡◌, ◌+◌, ◌≤◌}
use Rattle.std.specs.Prelude.{length, vec_capacity, vec_len}
use Rattle.call_history.specs.Passes.{AllOfTable, new_passes}
use Rattle.server_recorder.specs.Seats.{HasNumbersFrom}
use Rattle.server_recorder.proofs.seats.parted.Given as goal

-- passes of a beginning are left, and the others are next to the room
abbrev pub invariant-loop-passes : goal.invariant-loop-passes
invariant-loop-passes g l = record {
  passes : l.passes.items ≡ new_passes g.A.Naming.table (vec_len l.passes);
  some : 1 ≤ vec_len l.passes;
  clients : AllOfTable g.A.Naming.table l.room.items;
  each : HasNumbersFrom (vec_len l.passes) g.A.Naming.passes l.room.items;
  count : vec_len l.passes + vec_len l.room ≡ g.A.Naming.passes;
  room : g.A.Naming.passes ≤ vec_capacity l.room;
}

abbrev pub decreases-loop-passes : goal.decreases-loop-passes
decreases-loop-passes g l = length l.passes.items
