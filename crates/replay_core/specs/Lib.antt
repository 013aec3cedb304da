-- What a reader has to believe: what a poll gives, and what pages that are kept promise. Where a replay ends and when it is
-- done stands in frame_core.
pub mod Poll
pub mod Taking
pub mod Pages
-- What contracts inside the crate say.
pub mod Gathering
