-- What a reader has to believe: the rule of each word, and which word is named.
pub mod StartFaults
