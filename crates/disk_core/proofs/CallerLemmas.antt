-- The lemmas for callers: how a run of calls goes on from moment to moment, what a crash leaves of a file, and which
-- bytes stand whatever is written behind them. Those that name no property of images are laws too (src/laws.rt).
pub use Rattle.disk_core.proofs.LifeLemmas.{started, goes_on, goes_quiet, goes_on_part, weaker, only_now, now_leaves}
pub use Rattle.disk_core.proofs.LifeLemmas.{others_left, quiet_left, sync_leaves, sync_moments}
pub use Rattle.disk_core.proofs.DiskImageLemmas.{durable_left, synced_left, written_keeps, cut_keeps, removed_keeps, durable_bytes, all_durable}
pub use Rattle.disk_core.proofs.StandingLemmas.{keeps_refl, keeps_write, keeps_cut, keeps_on, keeps_less, keeps_from, keeps_left, unsynced_keeps, unsynced_lower}
pub use Rattle.disk_core.proofs.StandingLemmas.{torn_left, below_left, below_holds, keeps_holds, below_there, below_stands}
pub use Rattle.disk_core.proofs.FileLemmas.{same_file, equal_files, file_cmp_self}
pub use Rattle.disk_core.proofs.OverwriteLemmas.{length_overwritten, overwritten_no_shorter, overwritten_below, overwritten_above, overwritten_inside, overwritten_holds, holds_more}
pub use Rattle.disk_core.proofs.OverwriteLemmas.{bytes_of_write, reads_of_write, write_is_written}
pub use Rattle.disk_core.proofs.DiskImageLemmas.{cut_is_cut}
