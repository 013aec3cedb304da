-- How long settles took, as a histogram: docs/SERVING.md, "Metrics".
use Rattle.std.specs.Prelude.{◌+◌, ◌-◌, ◌^◌, ℕ, min, nat_le, Bool, List, [], ◌∷◌, Option, None, Some, map, slice_get, slice_set}
use Rattle.std.specs.List.{position}
use Rattle.metrics_text.specs.declared.settle_times.SettleBucket.{SettleBucket}
use Rattle.metrics_text.specs.declared.settle_times.SettleTimes.{SettleTimes}

-- the sum of two numbers, which does not pass the last `u64`
abbrev pub held_sum : ℕ → ℕ → ℕ
held_sum a b = min (a + b) (2 ^ 64 - 1)

-- the times of the buckets, in microseconds
abbrev pub bucket_times : List ℕ
bucket_times = 50 ∷ 100 ∷ 250 ∷ 500 ∷ 1000 ∷ 2500 ∷ 5000 ∷ 10000 ∷ 25000 ∷ 50000 ∷ 100000 ∷ 250000 ∷ 500000 ∷ 1000000 ∷ 2500000 ∷ 5000000 ∷ []

-- a bucket in which no settle counts
abbrev pub empty_bucket : ℕ → SettleBucket
empty_bucket most = record { most = most; count = 0 }

-- there was no settle
abbrev pub no_settles : SettleTimes
no_settles = record { buckets = map empty_bucket bucket_times; micros = 0; count = 0 }

-- a settle of so many microseconds took at most the time of a bucket
abbrev pub holds : ℕ → SettleBucket → Bool
holds micros bucket = nat_le micros bucket.most

-- one settle more counts in a bucket
abbrev pub with_one_more : SettleBucket → SettleBucket
with_one_more bucket = record bucket { count = held_sum bucket.count 1 }

abbrev pub set_at : ℕ → Option SettleBucket → List SettleBucket → List SettleBucket
set_at i None buckets = buckets
set_at i (Some bucket) buckets = slice_set buckets i (with_one_more bucket)

abbrev pub counted_at : Option ℕ → List SettleBucket → List SettleBucket
counted_at None buckets = buckets
counted_at (Some i) buckets = set_at i (slice_get buckets i) buckets

-- a settle was made: it counts in the first bucket whose time it did not pass, if there is one, and in the whole
abbrev pub after_settle : ℕ → SettleTimes → SettleTimes
after_settle micros t = record {
  buckets = counted_at (position (holds micros) t.buckets) t.buckets;
  micros = held_sum t.micros micros;
  count = held_sum t.count 1;
}
