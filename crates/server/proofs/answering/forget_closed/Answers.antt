use Rattle.std.proofs.Common.{◌∙◌, ap, sym, ℤ, Option}
use Rattle.server.specs.Answering.{replays_left_by}
use Rattle.server.proofs.answering.forget_closed.Goals as goal

pub returns-in-Some : goal.returns-in-Some
returns-in-Some c = c.forget_replay.ensures ∙ ap (λ (o : Option ℤ). replays_left_by o c.args.replays.now.items) (sym c.in-Some.is)
