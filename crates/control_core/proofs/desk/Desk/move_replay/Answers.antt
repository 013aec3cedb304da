use Rattle.std.proofs.Common.{◌≡◌, ap}
use Rattle.std.specs.Prelude.{◌≤ℤ◌, IsSomeAnd}
use Rattle.archive_model.specs.Keyed.{find}
use Rattle.control_core.specs.Callers.{replay_number}
use Rattle.control_core.specs.Seats.{DeskView}
use Rattle.control_core.proofs.KeptLemmas.{kept_moved}
use Rattle.control_core.proofs.desk.Desk.move_replay.Goals as goal

pub invariant_of-self : goal.invariant_of-self
invariant_of-self c =
    let replays : c.self.inside.replays.values ≡ c.args.self.now.state.callers.replays = ap (λ (v : DeskView). v.state.callers.replays) c.self.view_is in
    let further : IsSomeAnd (find replay_number c.args.replay.now c.self.inside.replays.values) (λ it. it.next ≤ℤ c.args.next.now) = rw replays c.requires.further in
    rw (c.set_next.ensures.values, c.set_next.ensures.next) (kept_moved _ _ _ _ further c.self.invariant)
