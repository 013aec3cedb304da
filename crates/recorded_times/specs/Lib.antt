-- What a reader has to believe: which lines a file of times has, what is found in them and
-- answered, which line is due, and files' names.
pub mod Times
pub mod Found
pub mod Answer
pub mod Due
pub mod Names
pub mod Moments
-- How far a file is searched, and what was read of it.
pub mod Search
