use Rattle.control_core.specs.Callers.{replay_number, moved_to}
use Rattle.control_core.proofs.SeatLemmas.{set_is_change}
use Rattle.control_core.proofs.replays.Replays.set_next.Goals as goal

pub returns-clause-values : goal.returns-clause-values
returns-clause-values c = rw (← c.self.view_is) (set_is_change replay_number c.args.number.now c.self.inside.values.items c.args.index (moved_to c.args.next.now) _ _ (rw (← c.self.view_is) at c.requires) c.index_mut-replay.ensures.value c.move_to.ensures)
