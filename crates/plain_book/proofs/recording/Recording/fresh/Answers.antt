use Rattle.plain_book.proofs.KeptLemmas.{keeps_fresh}
use Rattle.plain_book.proofs.recording.Recording.fresh.Goals as goal

pub invariant_of-result : goal.invariant_of-result
invariant_of-result c = rw c.in_ok-begun.ensures.ok (keeps_fresh _ _ _ c.new.ensures.items c.requires)
