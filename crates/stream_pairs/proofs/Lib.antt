pub mod SlotLemmas
pub mod PairLemmas
pub mod RunLemmas
pub mod GivingLemmas
