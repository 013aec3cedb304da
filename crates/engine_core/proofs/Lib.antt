pub mod Words
pub mod files
pub mod openings
pub mod replays
pub mod calls
pub mod protected
