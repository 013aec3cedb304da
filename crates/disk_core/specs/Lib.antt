-- the subject: files, what a crash may leave, the calls, a disk over time
pub mod FileNames
pub mod DiskImage
pub mod Calls
pub mod Life
pub mod Standing
pub mod Refused
pub mod CrashChoice
-- a disk in memory
pub mod Counts
pub mod Memory
pub mod MemoryDisk
