pub mod ChainLemmas
mod RunLemmas
mod LongestLemmas
pub mod FateLemmas
mod ReceivedLemmas
mod InsertLemmas
pub mod JoinLemmas
mod KeptLemmas
mod LawLemmas
mod RangeLemmas
mod SetupLemmas
mod StockLemmas
mod TakeLemmas
mod UndoLemmas
