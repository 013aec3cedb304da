-- What a reader has to believe: what receivers, recorders and replayers did, and which blocks an image gives that is fed by an end
-- of datagrams.
pub mod Steps
pub mod Receivers
pub mod Recorders
pub mod Replayers
pub mod Runs
pub mod ImageSource
-- The rule of the queue between two agents.
pub mod Handoff
