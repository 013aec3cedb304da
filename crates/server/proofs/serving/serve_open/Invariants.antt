use Rattle.std.proofs.Common.{◌+◌, []}
use Rattle.archive_lock.specs.Held.{engine_seen, view_of}
use Rattle.server.proofs.serving.serve_open.Given as goal

-- the archive of this history
abbrev pub ghosts-serve_named : goal.ghosts-serve_named
ghosts-serve_named g a = record { table = a.opened.table; passes = 1 + a.with.now.places.count + a.with.now.places.followers; keeps = a.opened.keeps; opening = engine_seen g.D.Disk.life (view_of a.engine []) }
