-- the subject: where frames lie, which stand there, what a file has at a position, where frames begin and end, which files are stale
pub mod Layout
pub mod Stored
pub mod DamagedFrame
pub mod Boundary
pub mod Stale
-- what only private functions say
pub mod Reading
pub mod Window
