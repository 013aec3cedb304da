-- What is removed is where the replay is.
use Rattle.std.proofs.Common.{◌∙◌, ap, sym, ℕ, Option}
use Rattle.std.specs.List.{position}
use Rattle.server_state.specs.ReplaysOpen.{replay_has_number, replays_without}
use Rattle.server_state.proofs.replays_open.remove.Goals as goal

pub returns-in-Some : goal.returns-in-Some
returns-in-Some c = c.remove.ensures.items ∙ ap (λ (o : Option ℕ). replays_without o c.args.replays.now.items) (sym c.in-Some.is ∙ (c.index_in.ensures ∙ ap (position (replay_has_number c.args.number.now)) c.as_slice.ensures.value))

pub returns-in-None : goal.returns-in-None
returns-in-None c = ap (λ (o : Option ℕ). replays_without o c.args.replays.now.items) (sym c.in-None.is ∙ (c.index_in.ensures ∙ ap (position (replay_has_number c.args.number.now)) c.as_slice.ensures.value))
