use Rattle.std.proofs.Common.{◌≡◌, ◌++◌, ◌∷◌, [], rules}
use Rattle.example_bounded.proofs.FollowedLemmas.{one_turn_more}
use Rattle.example_bounded.proofs.take_turn.Goals as goal

pub returns-clause-below : goal.returns-clause-below
returns-clause-below g c =
    let pushed : c.push.new.self.items ≡ c.args.turns.now.items ++ c.in-Ok.turn ∷ [] = search rules in
    one_turn_more c.args.replayer.now.slot c.args.replayer.now.reader c.turn.new.self.reader _ _ c.in-Ok.turn c.requires.slot.1 c.turn.ensures.rises c.in-Ok.ensures.seen c.in-Ok.ensures.before c.requires.below pushed
