use Rattle.catalogue_entries.specs.Fold.{first_place}
use Rattle.engine_core.proofs.openings.EntryLaidLemmas.{entries_laid}
use Rattle.engine_core.proofs.laws.admitted_entries_make_laid_recordings.Goals as goal

pub returns : goal.returns
returns c v entries admitted = entries_laid (first_place v) entries admitted tt
