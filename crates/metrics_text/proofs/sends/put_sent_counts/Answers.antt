use Rattle.metrics_text.proofs.MetricsLemmas.{put_four}
use Rattle.metrics_text.proofs.sends.put_sent_counts.Goals as goal

pub returns : goal.returns
returns c = put_four c.put_counter-3.result _ _ _ _ _ _ _ _ _ c.in_ok-put_gauge.ensures c.in_ok-put_counter.ensures c.in_ok-put_counter-2.ensures c.put_counter-3.ensures
