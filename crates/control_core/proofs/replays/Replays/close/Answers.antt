use Rattle.std.proofs.Common.{pos, ◌∙◌}
use Rattle.archive_model.specs.Keyed.{Rise}
use Rattle.archive_model.specs.Numbered.{IsIndexOf}
use Rattle.control_core.specs.Callers.{replay_number}
use Rattle.control_core.proofs.SeatLemmas.{remove_is_without}
use Rattle.control_core.proofs.replays.Replays.close.Goals as goal

pub returns-clause-values : goal.returns-clause-values
returns-clause-values c =
    let rising : Rise replay_number (pos 0) c.self.inside.values.items c.self.inside.next = rw (← c.self.view_is) at c.requires.rising in
    let stands : IsIndexOf replay_number c.args.number.now c.self.inside.values.items c.args.index = rw (← c.self.view_is) at c.requires.stands in
    rw (← c.self.view_is) (c.remove.ensures.items ∙ remove_is_without replay_number _ c.args.number.now c.self.inside.values.items c.args.index rising stands)
