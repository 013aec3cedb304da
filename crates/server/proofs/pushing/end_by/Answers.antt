-- What the end adds.
use Rattle.std.proofs.Common.{rules}
use Rattle.server.proofs.FollowingLemmas.{ended_by}
use Rattle.server.proofs.pushing.end_by.Goals as goal

pub returns-then-tell : goal.returns-then-tell
returns-then-tell g c = ended_by c.args.end c.args.stream.now (g.E.Disk.life c.args.replayer.now.reader.disk) c.args.replayer.now.reader.cursor _ _ _ c.sign_of.ensures (c.tell.ensures (search rules))
