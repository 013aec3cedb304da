pub mod ReadLemmas
pub mod ReplayLemmas
pub mod ReplayOpenLemmas
pub mod ReplayCallLemmas
pub mod HandLemmas
