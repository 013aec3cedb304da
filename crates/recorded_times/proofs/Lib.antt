pub mod LineLemmas
pub mod TextLemmas
pub mod FoundLemmas
pub mod SearchLemmas
pub mod LastLemmas
