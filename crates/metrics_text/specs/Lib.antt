-- What a reader has to believe: the text of what is measured.
pub mod MetricsText
-- How long settles took.
pub mod SettleTimes
