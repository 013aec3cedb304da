-- What a reader has to believe: numbers and lines as text, and the text of replies and refusals.
pub mod Numbers
pub mod Table
pub mod Lines
pub mod LineText
pub mod ReplyText
pub mod RefusalText
-- how far hex digits are read
pub mod HexDigits
