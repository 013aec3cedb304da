-- The disk in memory over which `run` without a folder answers its lines: docs/CONTROL.md, "Scripts".
use Rattle.std.specs.Prelude.{◌≡◌, [], None, IsTrue}
use Rattle.disk_core.specs.DiskImage.{begun}
use Rattle.disk_core.specs.Life.{Life}
use Rattle.disk_core.specs.MemoryDisk.{life_of}
use Rattle.folder_commands.specs.declared.sound_disk.SoundDisk.{SoundDisk}

-- the life of a disk in memory of which no call is made to fail
abbrev pub sound_life : SoundDisk → Life
sound_life disk = life_of disk.disk

-- the life of a disk on which no file was, and of which no call has failed
pub record IsFirstLife (life : Life) : Type 0 where
  pub obeys : IsTrue life.obeys
  pub now : life.now ≡ begun (λ file. None)
  pub past : life.past ≡ []
  pub faults : life.faults ≡ 0
