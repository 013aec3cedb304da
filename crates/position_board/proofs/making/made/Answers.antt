use Rattle.position_board.proofs.BoardLemmas.{begins}
use Rattle.position_board.proofs.making.made.Goals as goal

pub of_words-requires : goal.of_words-requires
of_words-requires c = rw c.as_slice.ensures.value (begins _ c.requires.small)
