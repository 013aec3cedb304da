-- What a reader has to believe: what a recorder's seat keeps, and a bench of several; what a poll is answered; what a turn of a bounded replayer gives, and
-- how far that is durable; what an end of datagrams gives.
pub mod Seat
pub mod Bench
pub mod Poll
pub mod Bounded
pub mod HandedOut
pub mod DatagramEnd
