use Rattle.metrics_text.proofs.MetricsLemmas.{put_four}
use Rattle.metrics_text.proofs.print.put_history.Goals as goal

pub returns : goal.returns
returns c = put_four c.put_counter-2.result _ _ _ _ _ _ _ _ _ c.in_ok-put_gauge.ensures c.in_ok-put_gauge-2.ensures c.in_ok-put_counter.ensures c.put_counter-2.ensures
