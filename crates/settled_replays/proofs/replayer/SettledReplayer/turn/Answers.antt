-- What the reader keeps.
use Rattle.std.proofs.Common.{rules}
use Rattle.settled_replays.proofs.TurnLemmas.{still_protected}
use Rattle.settled_replays.proofs.replayer.SettledReplayer.turn.Goals as goal

pub invariant_of-self-2 : goal.invariant_of-self-2
invariant_of-self-2 g c = record {
  recording = search rules;
  laid = search rules;
  protected = still_protected _ _ _ _ _ _ _ _ _ _ _ _ (search rules) (search rules) c.turn.ensures.moves c.turn.ensures.refused;
}
