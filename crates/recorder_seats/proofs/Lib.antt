pub mod AnswerLemmas
pub mod SeatLemmas
pub mod BenchLemmas
mod BoundedLemmas
pub mod HandedOutLemmas
pub mod PassLemmas
