use Rattle.metrics_text.proofs.MetricsLemmas.{put_three}
use Rattle.metrics_text.proofs.sends.put_answers.Goals as goal

pub returns : goal.returns
returns c = put_three c.put_counter-3.result _ _ _ _ _ _ _ c.in_ok-put_counter.ensures c.in_ok-put_counter-2.ensures c.put_counter-3.ensures
