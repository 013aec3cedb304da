-- What a reader has to believe: where a recording's frames lie, how many there are, which are given, and where they begin and end.
pub mod Recording
pub mod Reading
pub mod Handing
pub mod Settled
