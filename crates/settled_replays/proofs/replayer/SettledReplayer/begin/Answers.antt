-- The reader begins so.
use Rattle.std.proofs.Common.{rules, ◌≡◌, ℤ, w64, to_z, of_z, subst}
use Rattle.std.proofs.lemmas.Int.{to_z-of_z}
use Rattle.disk_core.specs.DiskImage.{reads}
use Rattle.settled_replays.specs.Reading.{BeginsReading}
use Rattle.settled_replays.proofs.replayer.SettledReplayer.begin.Goals as goal

pub returns-in-Ok-clause-begins : goal.returns-in-Ok-clause-begins
returns-in-Ok-clause-begins g c =
    let life = g.E.Disk.life in
    rw c.new.ensures.held (rw c.new.ensures.disk (rw c.new.ensures.cursor
    (subst (λ (z : ℤ × ℤ). BeginsReading (life c.in-Ok.begun.disk).obeys (reads (life c.args.disk).now) c.args.descriptor z.0 z.1 c.look.new.self c.in-Ok.begun.cursor)
    (λ i. (to_z-of_z w64 c.args.position (search rules) i, to_z-of_z w64 c.args.length (search rules) i)) c.in-Ok.ensures.begins)))
