pub mod ChangeLemmas
mod ListingLemmas
mod FragmentLemmas
pub mod SeatLemmas
pub mod FoundLemmas
pub mod AllowedLemmas
pub mod DeskLemmas
mod SomeLemmas
pub mod LaidLemmas
mod OrderlyLemmas
mod KeptLemmas
mod WaitLemmas
pub mod AgreementLemmas
pub mod DecidedLemmas
pub mod GroupLemmas
pub mod CallLemmas
pub mod PollLemmas
pub mod PollEventLemmas
mod BoundaryLemmas
pub mod StayLemmas
pub mod CommandLemmas
pub mod WriteLemmas
pub mod ConsistentLemmas
pub mod MadeLemmas
pub mod ExactLemmas
pub mod FaultLemmas
pub mod RunLemmas
pub mod StepLemmas
pub mod OpenedLemmas
pub mod ThereLemmas
mod MultipleLemmas
