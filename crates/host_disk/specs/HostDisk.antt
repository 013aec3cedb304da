-- What a disk over a real folder shows.
use Rattle.disk_core.specs.Life.{Life}
use Rattle.host_disk.specs.declared.folder_disk.FolderDisk.{FolderDisk}
use Rattle.host_disk.specs.declared.host_folder.HostFolder.{HostFolder}
use Rattle.host_disk.specs.contracts.host_folder.HostFolderFolder.TheImpl as folder
use Rattle.host_disk.specs.Replay.{life_at}
use Rattle.host_disk.specs.HostFolder.{events_of}

-- its life
abbrev pub host_life : FolderDisk HostFolder folder.ghosts → Life
host_life disk = life_at (events_of disk.folder) disk.faults
