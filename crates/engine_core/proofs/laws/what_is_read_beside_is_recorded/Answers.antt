use Rattle.engine_core.proofs.protected.TieLemmas.{goes_forward, read_recorded, still_known}
use Rattle.engine_core.proofs.laws.what_is_read_beside_is_recorded.Goals as goal

pub returns-clause-known : goal.returns-clause-known
returns-clause-known c = still_known

pub returns-clause-read : goal.returns-clause-read
returns-clause-read c = read_recorded

pub returns-clause-later : goal.returns-clause-later
returns-clause-later c = goes_forward
