pub mod PositionLemmas
pub mod BoardLemmas
pub mod SeatLemmas
