use Rattle.std.proofs.Common.{[]}
use Rattle.archive_lock.specs.Held.{engine_seen, view_of}
use Rattle.trial_lock.proofs.crew.crewed.Given as goal

-- the archive of this history
abbrev pub ghosts-shared : goal.ghosts-shared
ghosts-shared g a = record { table = a.opened.table; passes = a.threads; keeps = a.opened.keeps; opening = engine_seen g.D.Disk.life (view_of a.engine []) }
