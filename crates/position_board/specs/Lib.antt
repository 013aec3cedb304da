-- What a reader has to believe: positions that writers publish and readers see.
pub mod Positions
-- What holds of the board's words and of what its seats know.
pub mod Rule
