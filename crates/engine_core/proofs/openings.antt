pub mod OpeningLemmas
pub mod EntryLaidLemmas
pub mod RestartLemmas
pub mod FoundLemmas
pub mod ReopenLemmas
pub mod AnewCallLemmas
