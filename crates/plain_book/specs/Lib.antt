-- What a reader has to believe stands in archive_model: its states, commands, checks, answers and replays.
-- Representation: what the book keeps of its recordings.
pub mod Kept
