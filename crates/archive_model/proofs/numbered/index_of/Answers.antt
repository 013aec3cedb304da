-- The index that is found is the first of its number.
use Rattle.std.proofs.Common.{rules}
use Rattle.archive_model.proofs.NumberedLemmas.{found_index, none_there}
use Rattle.archive_model.proofs.numbered.index_of.Goals as goal

pub returns-then-has_number : goal.returns-then-has_number
returns-then-has_number g c = found_index g.T.Numbered.number_of _ _ _ _ c.loop-index-test.true c.index-values-index.is (search rules) c.loop-index.invariant

pub returns : goal.returns
returns g c = none_there g.T.Numbered.number_of _ _ _ c.loop-index-test.false c.loop-index.invariant
