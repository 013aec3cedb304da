-- What a reader has to believe: which image feeds which recorder session.
pub mod Pairs
-- What follows over all runs.
pub mod Laws
-- Which image gives its place to another publication.
pub mod Places
