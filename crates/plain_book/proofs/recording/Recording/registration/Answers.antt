use Rattle.plain_book.proofs.KeptLemmas.{has_layout}
use Rattle.plain_book.proofs.recording.Recording.registration.Goals as goal

pub returns-clause-layout : goal.returns-clause-layout
returns-clause-layout c = has_layout _ c.self.invariant.kept
