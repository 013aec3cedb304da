-- What a reader has to believe: what happens to a disk, and how lines are answered.
pub mod Serving
pub mod Answering
-- What a follower is sent.
pub mod Following
-- Clients at a time with their passes, and where the lines are that the server answers by itself.
pub mod Clients
pub mod Consumers
pub mod ConsumerLines
pub mod OwnLines
-- What a connection of another protocol begins with.
pub mod FirstBytes
