-- What a reader has to believe: which block a recorder session writes next.
pub mod Writing
