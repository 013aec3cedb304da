use Rattle.std.specs.Prelude.{string_bytes}
use Rattle.metrics_text.proofs.MetricsLemmas.{next_bucket}
use Rattle.metrics_text.proofs.histogram.put_buckets.Goals as goal

pub loop-bucket-preserved : goal.loop-bucket-preserved
loop-bucket-preserved c =
    next_bucket c.args.who.now c.args.name.now (string_bytes c.loop-bucket.out) (string_bytes c.put_bucket.new.out) c.loop-bucket.before c.saturating_add-before.result
    c.args.buckets.now c.loop-bucket.bucket-index _ _ c.loop-bucket-test.true c.saturating_add-before.ensures c.in_ok-put_bucket.ensures c.loop-bucket.invariant
