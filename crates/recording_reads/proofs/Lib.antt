pub mod CountLemmas
pub mod PlacedLemmas
pub mod BoundaryLemmas
pub mod UnpagedLemmas
pub mod SettledLemmas
