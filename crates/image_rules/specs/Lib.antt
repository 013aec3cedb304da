-- What a reader has to believe: signs of another publication, when they decide, what can't come any more, and how a publication ends.
pub mod Signs
pub mod Questions
pub mod Reach
pub mod Ending
