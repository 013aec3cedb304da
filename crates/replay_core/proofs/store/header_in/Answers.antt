use Rattle.std.proofs.Common.{rules}
use Rattle.replay_core.proofs.ShownLemmas.{front_bytes, front_long}
use Rattle.replay_core.proofs.store.header_in.Goals as goal

pub slice_bounds-result-end : goal.slice_bounds-result-end
slice_bounds-result-end c = search (rules, front_long _ _ _ c.requires.1)

pub returns : goal.returns
returns c = search (rules, front_bytes _ _ _ c.requires.1)
