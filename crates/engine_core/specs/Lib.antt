-- What a reader has to believe: what an image recovers to, what the engine keeps of an archive, how calls end, and openings.
pub mod Recovery
pub mod Engine
pub mod Consistent
pub mod Calls
pub mod Handing
pub mod Seen
pub mod Opened
pub mod Compacting
pub mod Opening
pub mod Reading
pub mod Shown
pub mod Touching
pub mod Catalogued
pub mod Protected
-- what only private functions say
pub mod Moves
pub mod KeptPages
pub mod Making
pub mod Replaying
pub mod Settling
pub mod Grouping
