-- What a heartbeat adds, and what comes of none.
use Rattle.std.proofs.Common.{refl, rules}
use Rattle.settled_replays.specs.declared.signs.Sign.TheVariants as signs
use Rattle.server.proofs.FollowingLemmas.{nothing_on, told_on}
use Rattle.server.proofs.pushing.keep_alive.Goals as goal

pub returns-then-not-is_due : goal.returns-then-not-is_due
returns-then-not-is_due g c = λ _. nothing_on c.args.stream.now (g.E.Disk.life c.args.replayer.now.reader.disk) (g.E.Disk.life c.args.replayer.now.reader.disk) c.args.replayer.now.reader.cursor c.args.replayer.now.reader.cursor _ refl refl (search rules)

pub returns : goal.returns
returns g c = λ went.
    let told = told_on c.args.stream.now (g.E.Disk.life c.args.replayer.now.reader.disk) c.args.replayer.now.reader.cursor signs.Alive _ _ (c.tell.ensures went) in
    (told.0, told.1)
