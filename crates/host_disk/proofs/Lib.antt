pub mod OpenFileLemmas
pub mod ReplayLemmas
pub mod ReadLemmas
pub mod RecordWalks
pub mod NameLemmas
pub mod MarkLemmas
pub mod FaultLemmas
pub mod RefusedLemmas
pub mod CloseLemmas
mod OtherOpeningLemmas
