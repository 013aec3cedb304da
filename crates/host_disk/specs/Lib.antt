-- the subject: the calls of a folder, what they make of its files, which files are lost
pub mod Events
pub mod Replay
pub mod Lost
pub mod Faults
pub mod ArchiveFiles
pub mod OpenFaults
pub mod FolderDisk
pub mod HostDisk
pub mod ReadFolder
pub mod ClosedDisk
pub mod OtherOpening
-- what only private functions say, representation, and the proof of a law
pub mod Noted
pub mod EventCodes
pub mod Lookups
pub mod NotesOf
pub mod Names
pub mod Unsynced
pub mod Paths
pub mod OpenFiles
pub mod HostFolder
pub mod Looked
pub mod WellFormed
