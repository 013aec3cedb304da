use Rattle.metrics_text.proofs.MetricsLemmas.{put_two}
use Rattle.metrics_text.proofs.print.put_holes.Goals as goal

pub returns : goal.returns
returns c = put_two c.put_counter-2.result _ _ _ _ _ c.in_ok-put_counter.ensures c.put_counter-2.ensures
