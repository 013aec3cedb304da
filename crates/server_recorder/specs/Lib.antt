-- What a reader has to believe: when a session settles, and what a recording is that nobody asked for.
pub mod Settling
pub mod Streams
-- Seats with their passes, and the term of a block.
pub mod Seats
pub mod Recording
-- Archives that can record nothing any more.
pub mod Stopping
-- Which sessions settle together, and whose segment files are flushed before.
pub mod Grouping
pub mod Flushing
-- When checkpoints are made.
pub mod Checkpoints
-- What settles by which calls.
pub mod Settles
-- How many recordings the server begins.
pub mod Tokens
-- What is done for an image that waits to be recorded.
pub mod Opening
-- Holes between recordings of one publication.
pub mod Holes
