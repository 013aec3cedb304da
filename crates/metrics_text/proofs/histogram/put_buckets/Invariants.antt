use Rattle.std.proofs.Common.{◌≡◌, ◌++◌, drop}
use Rattle.std.specs.String.{string_bytes}
use Rattle.metrics_text.specs.MetricsText.{bucket_lines}
use Rattle.metrics_text.proofs.histogram.put_buckets.Given as goal

abbrev pub invariant-loop-bucket : goal.invariant-loop-bucket
invariant-loop-bucket l = string_bytes l.out ++ bucket_lines l.who l.name l.before (drop l.bucket-index l.buckets) ≡ string_bytes l.fn.out ++ bucket_lines l.who l.name 0 l.buckets
