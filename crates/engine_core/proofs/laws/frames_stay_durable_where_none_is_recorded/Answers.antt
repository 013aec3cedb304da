use Rattle.engine_core.proofs.files.StayLemmas.{frames_stay, leads}
use Rattle.engine_core.proofs.laws.frames_stay_durable_where_none_is_recorded.Goals as goal

pub returns-clause-frames : goal.returns-clause-frames
returns-clause-frames c = frames_stay

pub returns-clause-leads : goal.returns-clause-leads
returns-clause-leads c = leads
