use Rattle.std.proofs.Common.{◌+◌, ◌≤◌, length}
use Rattle.std.specs.Vec.{vec_capacity, vec_len}
use Rattle.image_core.specs.Kept.{run_length}
use Rattle.image_core.proofs.TakeLemmas.{HasTaken}
use Rattle.image_core.proofs.taking.take_messages.Given as goal

-- so many bytes were taken, and there is room for what is left of the run
abbrev pub invariant-each : goal.invariant-each
invariant-each l = record {
  taken : HasTaken l.ids l.from l.offset l.limit l.fn.held.entries l.fn.frames.items l.covered l.held.entries l.frames.items;
  room : run_length l.ids (l.from + l.covered) (l.offset + l.covered) l.limit l.held.entries + vec_len l.frames ≤ vec_capacity l.frames;
}

abbrev pub decreases-each : goal.decreases-each
decreases-each l = length l.held.entries
