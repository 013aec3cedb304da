-- What the example's run promises of what it handed out.
pub mod Followed
