-- What a reader has to believe: what an answered call makes of the pairs, which pairs are reported, and the answer to the line
-- `images`.
pub mod Noting
pub mod Listing
pub mod Measuring
pub mod Naming
-- Blocks on their way, settlings that clients ask for, and the time.
pub mod Handing
pub mod Asking
pub mod Stopwatch
-- Checkpoints that were refused.
pub mod Checkpointing
-- Where a publication goes on before its setup frame.
pub mod Resuming
-- Which replays are open, and which recording they hold.
pub mod ReplaysOpen
pub mod Holding
-- Recordings that are sent.
pub mod Sends
-- Places of images, and what their senders are admitted.
pub mod Places
-- Holes of publications.
pub mod Holes
