-- What a disk over a folder shows.
use Rattle.std.specs.Prelude.{ℕ}
use Rattle.host_disk.specs.declared.folder.Folder as Folder
use Rattle.host_disk.specs.declared.folder_disk.FolderDisk.{FolderDisk}

module _ {F : Type 0} {g : Folder.Ghosts F} where
  -- its folder
  abbrev pub folder_of : FolderDisk F g → F
  folder_of disk = disk.folder

  -- how many calls have failed
  abbrev pub faults_of : FolderDisk F g → ℕ
  faults_of disk = disk.faults
