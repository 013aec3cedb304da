-- What a reader has to believe: what commands do and write, what a verification says, the listing of a file's frames, and how much of
-- a long reading is done.
pub mod Reports
pub mod Commands
pub mod FrameLines
pub mod Progress
-- How what stands next in a file is read.
pub mod Stored
