-- What a reader has to believe: legal histories and where they lead, several calls, where a desk stands, what stays of
-- what was settled, what stays in place while a replay is open, what is stored of a call, and what a closed archive gives.
pub mod History
pub mod Several
pub mod Standing
pub mod Leading
pub mod Durable
pub mod Protected
pub mod Records
pub mod Closing
-- What lies under the lock, and the name of no archive.
pub mod Held
pub mod Names
