use Rattle.std.proofs.Common.{[]}
use Rattle.archive_lock.specs.Held.{engine_seen, view_of}
use Rattle.example_bounded.proofs.opened.Given as goal

-- the log of its history
abbrev pub ghosts-shared-L-Naming : goal.ghosts-shared-L-Naming
ghosts-shared-L-Naming g a = record { table = a.of_log.table; passes = 1; keeps = a.of_log.keeps; opening = engine_seen g.D.Disk.life (view_of a.log []) }

-- the data archive of its history
abbrev pub ghosts-shared-A-Naming : goal.ghosts-shared-A-Naming
ghosts-shared-A-Naming g a = record { table = a.of_archive.table; passes = 2; keeps = a.of_archive.keeps; opening = engine_seen g.D.Disk.life (view_of a.archive []) }
