-- The lemmas for those who write a disk: which files are well formed, so that what they read as may be left of them,
-- and whether a file is in a list.
pub use Rattle.disk_core.proofs.WellLemmas.{durable_well, write_well, cut_well, removed_well, either_well}
pub use Rattle.disk_core.proofs.NameLemmas.{files_decide, in_list}
