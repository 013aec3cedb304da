-- What a folder that is only read shows.
use Rattle.disk_core.specs.Life.{Life}
use Rattle.host_disk.specs.declared.read_folder.ReadFolder.{ReadFolder}
use Rattle.host_disk.specs.Replay.{life_at}
use Rattle.host_disk.specs.Looked.{events_of}

-- its life
abbrev pub folder_life : ReadFolder → Life
folder_life disk = life_at (events_of disk.folder) disk.faults
