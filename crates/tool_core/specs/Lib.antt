-- What a reader has to believe: the lines of an input, how they are answered, and what a script writes and leaves.
pub mod InputLines
pub mod Transcript
pub mod Merging
pub mod Answering
pub mod Archives
pub mod ScriptLines
pub mod Left
pub mod Checkpoints
pub mod Script
pub mod CheckpointedScript
pub mod HistoryUse
-- How a line is put together from parts.
pub mod Parts
