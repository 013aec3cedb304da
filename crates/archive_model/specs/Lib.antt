-- What a reader has to believe: the archive's state, what each command makes of it, which are accepted, and replays.
pub mod Keyed
pub mod Numbered
pub mod Register
pub mod State
pub mod Version
pub mod Descriptor
pub mod Replay
pub mod Commands
pub mod Checks
pub mod Acceptance
pub mod Accepting
pub mod Histories
pub mod WellFormed
pub mod Left
-- Representation: what the values of src/ keep.
pub mod Registered
