pub mod KeptLemmas
pub mod PageLemmas
pub mod ShownLemmas
pub mod PollLemmas
pub mod GivenLemmas
pub mod TakingLemmas
