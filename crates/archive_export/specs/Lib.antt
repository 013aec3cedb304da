-- the destination of a channel's datagrams, a frame as a datagram, and a file of them
pub mod Destination
pub mod Packet
pub mod CaptureFile
-- what is written of a recording that is exported
pub mod Exporting
-- what private functions say
pub mod Steps
