-- What a reader has to believe: which frames an image receives, how far its stream is rebuilt, what is given and what is missing, and what is bounded.
pub mod Rebuild
pub mod Received
pub mod Insert
pub mod Take
pub mod Stock
pub mod Repair
pub mod Laws
-- What an image keeps. Public clauses name AreSpaced and AreMembers of it alone.
pub mod Kept
