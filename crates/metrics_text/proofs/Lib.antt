mod MetricsLemmas
