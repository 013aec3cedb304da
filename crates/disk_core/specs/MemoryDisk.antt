-- A disk in memory: its life and its counts.
use Rattle.std.specs.Prelude.{◌≡◌, ◌⊎◌, Result, OnOk, OnErr}
use Rattle.disk_core.specs.declared.file_id.FileId.{FileId}
use Rattle.disk_core.specs.declared.memory.MemoryDisk.{MemoryDisk}
use Rattle.disk_core.specs.declared.counts.Counts.{Counts}
use Rattle.disk_core.specs.declared.counts.Injected.TheVariants.{Goes, Fails}
use Rattle.disk_core.specs.DiskImage.{FileState}
use Rattle.disk_core.specs.Life.{Life, IsQuiet}
use Rattle.disk_core.specs.Counts.{next_injected}
use Rattle.disk_core.specs.Memory.{life_at}

-- what each file reads as and what a crash may leave of it, now and at each earlier moment
abbrev pub life_of : MemoryDisk → Life
life_of disk = life_at disk.change_log.log.items disk.change_log.born disk.counts.faults

-- the calls, changes and faults so far, and when the disk is to stop or fail
abbrev pub counts_of : MemoryDisk → Counts
counts_of disk = disk.counts

-- A call that writes, cuts or removes succeeds only where it is not to fail. Where it fails it has changed
-- nothing, or it was to fail once and has made its change all the same.
pub record KeepsInjected {T E : Type 0} (result : Result T E) (file : FileId)
    (change : FileState → FileState) (old new : MemoryDisk) : Type 0 where
  pub goes : OnOk result (next_injected (counts_of old) ≡ Goes)
  pub fails : OnErr result (IsQuiet (life_of old) (life_of new)
      ⊎ ((next_injected (counts_of old) ≡ Fails) × ((life_of new).now file ≡ change ((life_of old).now file))))
