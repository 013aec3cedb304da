-- What a disk shows that is only read: docs/STORAGE.md, "Looking at an archive".
use Rattle.std.specs.Prelude.{◌+◌, ◌-◌, ◌^◌, ℕ, min}
use Rattle.std.proofs.Common.{refl}
use Rattle.disk_core.specs.declared.file_id.FileId.{FileId}
use Rattle.disk_core.specs.DiskImage.{DiskImage, LeavesFile, begun, durable, reads}
use Rattle.disk_core.specs.Memory.{well_stays}
use Rattle.disk_core.proofs.DiskLemmas.{durable_well}
use Rattle.disk_core.specs.Life.{Life, moments}

-- one more, up to the last u64
abbrev pub one_more : ℕ → ℕ
one_more n = min (n + 1) (2 ^ 64 - 1)

-- Up to now the disk was as it is inside; from now on it is what that reads as, with nothing unsynced. Calls that were
-- refused are faults too.
abbrev pub read_life : Life → ℕ → Life
read_life inside refused = record {
  obeys = inside.obeys;
  past = moments inside;
  now = begun (reads inside.now);
  faults = min (inside.faults + refused) (2 ^ 64 - 1);
}

-- what is read may be left of it (a proof of `reads_may_stay` has to stand here)
pub begun_stays : (image : DiskImage) (file : FileId) → LeavesFile (begun image file) (image file)
begun_stays image file = well_stays (durable (image file)) (image file) refl (durable_well (image file))
