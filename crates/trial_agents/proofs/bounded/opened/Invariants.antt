use Rattle.std.proofs.Common.{[]}
use Rattle.archive_lock.specs.Held.{engine_seen, view_of}
use Rattle.trial_agents.proofs.bounded.opened.Given as goal

-- the log's archive of its history
abbrev pub ghosts-shared-L-Naming : goal.ghosts-shared-L-Naming
ghosts-shared-L-Naming g a = record { table = a.of_log.table; passes = 1; keeps = a.of_log.keeps; opening = engine_seen g.D.Disk.life (view_of a.log []) }

-- the data's archive of its history
abbrev pub ghosts-shared-A-Naming : goal.ghosts-shared-A-Naming
ghosts-shared-A-Naming g a = record { table = a.of_ahead.table; passes = 2; keeps = a.of_ahead.keeps; opening = engine_seen g.D.Disk.life (view_of a.ahead []) }
