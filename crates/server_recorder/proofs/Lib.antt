mod GroupingLemmas
mod SeatLemmas
mod SettlesLemmas
mod SettlingLemmas
pub mod StreamLemmas
pub mod StandLemmas
