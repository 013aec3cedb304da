-- What is removed is where the replay is.
use Rattle.std.proofs.Common.{◌∙◌, ap, sym, ℕ, Option}
use Rattle.std.specs.List.{position}
use Rattle.server.specs.Answering.{is_replay, without_at}
use Rattle.server.proofs.answering.forget_replay.Goals as goal

pub returns-in-Some : goal.returns-in-Some
returns-in-Some c = c.remove.ensures.items ∙ ap (λ (o : Option ℕ). without_at o c.args.replays.now.items) (sym c.in-Some.is ∙ (c.index_of.ensures ∙ ap (position (is_replay c.args.replay.now)) c.as_slice.ensures.value))

pub returns-in-None : goal.returns-in-None
returns-in-None c = ap (λ (o : Option ℕ). without_at o c.args.replays.now.items) (sym c.in-None.is ∙ (c.index_of.ensures ∙ ap (position (is_replay c.args.replay.now)) c.as_slice.ensures.value))
