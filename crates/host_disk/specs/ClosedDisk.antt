-- What is left of a disk over a folder that was closed.
use Rattle.disk_core.specs.Life.{Life}
use Rattle.host_disk.specs.declared.closed_disk.ClosedDisk.{ClosedDisk}
use Rattle.host_disk.specs.Replay.{life_at}

-- the life of that disk
abbrev pub closed_life : ClosedDisk → Life
closed_life closed = life_at closed.record.events closed.faults
