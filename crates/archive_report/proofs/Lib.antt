pub mod CalendarLemmas
pub mod DescribedLemmas
pub mod DocumentLemmas
pub mod FilesLemmas
pub mod ReportLemmas
