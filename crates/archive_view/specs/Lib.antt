-- the subject: a disk that is only read, and an archive as it stands on one
pub mod ReadLife
pub mod ReadOnly
pub mod View
pub mod Viewed
pub mod Verified
pub mod Hidden
pub mod ShownFrames
pub mod Asked
