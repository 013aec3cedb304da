-- What a reader has to believe: what a merge holds, gives and answers.
pub mod Merge
pub mod Runs
-- What the model's invariant says.
pub mod Room
