pub mod HandoffLemmas
pub mod ReceiverLemmas
pub mod RecorderLemmas
pub mod ReplayerLemmas
pub mod RunLemmas
mod SourceLemmas
