-- What a reader has to believe: frames, datagrams, positions, segments, where a replay ends, setup, NAK and status frames, blocks and the refusals' numbers.
pub mod FrameEncoding
pub mod Front
pub mod Header
pub mod Datagram
pub mod Position
pub mod Segment
pub mod ReplayEnd
pub mod Limits
pub mod Setup
pub mod Nak
pub mod Status
pub mod Block
pub mod Refusal
pub mod Outcome
-- What only private functions say.
pub mod Decoding
