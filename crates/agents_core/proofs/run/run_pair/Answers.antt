use Rattle.agents_core.proofs.RunLemmas.{pair_same}
use Rattle.agents_core.proofs.run.run_pair.Goals as goal

pub returns-in_default : goal.returns-in_default
returns-in_default g c = pair_same g.S.BlockSource.gives c.args.receiver c.args.recorder
