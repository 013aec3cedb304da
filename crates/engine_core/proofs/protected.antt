pub mod FromLemmas
pub mod CommandLemmas
pub mod OpenLemmas
pub mod StepLemmas
pub mod CallLemmas
pub mod StretchLemmas
pub mod TieLemmas
