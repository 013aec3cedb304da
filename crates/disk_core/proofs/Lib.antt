-- the one for callers
pub mod CallerLemmas
-- the one for those who write a disk
pub mod DiskLemmas
mod FileLemmas
mod OverwriteLemmas
mod DiskImageLemmas
mod LifeLemmas
mod StandingLemmas
mod EntryLemmas
mod LogLemmas
mod WellLemmas
mod NameLemmas
mod ReplayLemmas
mod FillLemmas
mod CrashLemmas
mod ChoiceLemmas
