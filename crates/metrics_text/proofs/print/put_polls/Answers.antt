use Rattle.metrics_text.proofs.MetricsLemmas.{put_two}
use Rattle.metrics_text.proofs.print.put_polls.Goals as goal

pub returns : goal.returns
returns c = put_two c.put_gauge.result _ _ _ _ _ c.in_ok-put_counter.ensures c.put_gauge.ensures
