use Rattle.replay_core.proofs.GivenLemmas.{all_given, none_breaks_off}
use Rattle.replay_core.proofs.laws.a_poll_gives_the_recorded_frames.Goals as goal

pub returns-clause-given : goal.returns-clause-given
returns-clause-given c = all_given

pub returns-clause-whole : goal.returns-clause-whole
returns-clause-whole c = none_breaks_off
