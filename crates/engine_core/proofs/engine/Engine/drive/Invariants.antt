use Rattle.std.proofs.Common.{◌≡◌, ◌≤◌, length, take}
use Rattle.std.specs.Prelude.{vec_capacity, vec_len}
use Rattle.engine_core.proofs.Words.{IsRun, seen}
use Rattle.engine_core.proofs.engine.Engine.drive.Given as goal

-- the first so many events are answered, and there is room for the answers to all of them
abbrev pub invariant-loop-event : goal.invariant-loop-event
invariant-loop-event g l =
    IsRun (seen g.D.Disk.life l.initial.self) (take l.event-index l.events) l.outcomes.items (seen g.D.Disk.life l.self)
    × (vec_len l.outcomes ≡ l.event-index)
    × (length l.events ≤ vec_capacity l.outcomes)
