mod CommandLemmas
mod ReportLemmas
mod VerifiedLemmas
mod StoredLemmas
mod FrameLinesLemmas
mod ListingLemmas
mod SumLemmas
