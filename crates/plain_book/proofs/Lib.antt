pub mod KeptLemmas
pub mod ReplayLemmas
pub mod AcceptanceLemmas
pub mod BookLemmas
pub mod CutLemmas
