-- What a reader has to believe: how far a sender may go, what it is sent and when, and which publications are asked for a setup frame.
pub mod Windows
pub mod Feedback
pub mod Setups
-- What follows for an image as it moves on, and for what is admitted.
pub mod Progress
pub mod Admission
