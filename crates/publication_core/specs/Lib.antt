-- What a reader has to believe: what a datagram holds, how far a sender may go, what is due, what each call leaves, and what a copy is.
pub mod Datagrams
pub mod Flows
pub mod Signs
pub mod Sending
pub mod Copies
pub mod Runs
pub mod Meeting
pub mod Order
pub mod Keeping
pub mod Bounded
