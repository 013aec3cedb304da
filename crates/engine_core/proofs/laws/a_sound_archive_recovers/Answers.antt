use Rattle.engine_core.proofs.files.RecoveryLemmas.{sound_recovers}
use Rattle.engine_core.proofs.laws.a_sound_archive_recovers.Goals as goal

pub returns : goal.returns
returns c = sound_recovers
