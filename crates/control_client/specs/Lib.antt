-- What a reader has to believe: what is sent, what a reply is, and what was asked and printed.
pub mod Lines
pub mod Replies
pub mod Asking
-- What is kept of replies while they come.
pub mod Tally
