use Rattle.metrics_text.proofs.MetricsLemmas.{put_two}
use Rattle.metrics_text.proofs.print.put_about.Goals as goal

pub returns : goal.returns
returns c = put_two c.put_time.result _ _ _ _ _ c.in_ok-put_build.ensures c.put_time.ensures
