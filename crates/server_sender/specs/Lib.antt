-- What a reader has to believe: where a recording may be sent to, which sendings there are, what goes to an endpoint and when, and what the lines say.
pub mod Endpoints
pub mod Feedbacks
pub mod Publishing
pub mod Stepping
pub mod Table
pub mod Texts
pub mod Lines
