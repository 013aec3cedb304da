pub mod LineLemmas
pub mod TallyLemmas
pub mod PrintLemmas
pub mod AskLemmas
