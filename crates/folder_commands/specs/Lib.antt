-- What a reader has to believe: what is told where the words ask for no command, the program's statuses, and what its commands
-- do over a folder.
pub mod Usage
pub mod Status
pub mod Left
pub mod SoundDisk
pub mod Folders
pub mod Looking
pub mod Hidden
pub mod Networks
pub mod Serving
pub mod Asking
pub mod When
pub mod Obeying
pub mod Answering
