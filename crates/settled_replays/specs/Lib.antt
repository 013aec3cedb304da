-- What a reader has to believe: which calls keep a replay open, and what is handed on of its frames.
pub mod Holding
pub mod Reading
pub mod Sending
