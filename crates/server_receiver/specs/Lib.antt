-- What a reader has to believe: what happens to a datagram, what senders are sent, and which streams are recorded without being
-- asked.
pub mod Datagrams
pub mod Admission
pub mod Senders
pub mod RecordedStreams
-- What is measured of images.
pub mod Metering
pub mod SeenImages
-- Gaps that stand.
pub mod Standing
-- Images that resume.
pub mod Resuming
-- Whose frames an image takes.
pub mod Strangers
-- Places of images.
pub mod Places
-- The networks that datagrams are taken from.
pub mod Networks
