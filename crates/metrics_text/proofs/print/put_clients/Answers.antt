use Rattle.metrics_text.proofs.MetricsLemmas.{put_three}
use Rattle.metrics_text.proofs.print.put_clients.Goals as goal

pub returns : goal.returns
returns c = put_three c.put_gauge-2.result _ _ _ _ _ _ _ c.in_ok-put_counter.ensures c.in_ok-put_gauge.ensures c.put_gauge-2.ensures
