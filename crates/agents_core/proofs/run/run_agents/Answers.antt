use Rattle.agents_core.proofs.RunLemmas.{pairs_seated, replayers_reading, same_numbers}
use Rattle.agents_core.proofs.run.run_agents.Goals as goal

pub returns-clause-seated : goal.returns-clause-seated
returns-clause-seated g c = let ran = c.run_pairs.ensures.ran in pairs_seated g.S.BlockSource.gives g.A.Naming.table c.args.board.now _ _ _ _ ran.pairs_ran c.requires.recorders

pub returns-clause-reading : goal.returns-clause-reading
returns-clause-reading g c = let ran = c.run_pairs.ensures.ran in replayers_reading g.K.FrameSink.takes g.A.Naming.table c.args.board.now _ _ ran.replayers_ran c.requires.replayers

pub returns-clause-numbers : goal.returns-clause-numbers
returns-clause-numbers g c = let ran = c.run_pairs.ensures.ran in same_numbers g.S.BlockSource.gives g.K.FrameSink.takes c.args.agents c.run_pairs.result.0 ran.pairs_ran ran.replayers_ran
