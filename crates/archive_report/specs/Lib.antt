-- what is told of an archive that is only looked at
pub mod Viewing
pub mod Verifying
pub mod Dates
pub mod Files
pub mod PageText
pub mod DocumentData
pub mod Describing
pub mod Exported
-- words of archive_view that clauses here cite
pub use Rattle.archive_view.specs.ReadOnly
pub use Rattle.archive_view.specs.declared.view.ArchiveView
