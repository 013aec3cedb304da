use Rattle.std.proofs.Common.{refl}
use Rattle.control_core.specs.Callers.{session_number, with_written}
use Rattle.control_core.proofs.SeatLemmas.{set_is_change}
use Rattle.control_core.proofs.sessions.Sessions.set_written.Goals as goal

pub returns-clause-values : goal.returns-clause-values
returns-clause-values c = rw (← c.self.view_is) (set_is_change session_number c.args.number.now c.self.inside.values.items c.args.index (with_written c.args.written) _ _ (rw (← c.self.view_is) at c.requires) c.index_mut.ensures.value refl)
