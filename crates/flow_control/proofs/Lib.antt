mod AdmissionLemmas
mod AlignmentLemmas
mod ProgressLemmas
mod RoomLemmas
mod TermLemmas
