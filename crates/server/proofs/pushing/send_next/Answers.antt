-- What a turn adds, and then the end.
use Rattle.std.proofs.Common.{rules, subst, sym}
use Rattle.server.specs.Following.{IsSentOn}
use Rattle.server.proofs.FollowingLemmas.{turn_on, until_then}
use Rattle.server.proofs.pushing.send_next.Goals as goal

pub returns-then-is_done-clause-sent : goal.returns-then-is_done-clause-sent
returns-then-is_done-clause-sent g c =
    let life = g.E.Disk.life in
    let before = g.W.Write.contents c.args.writer.now in
    let after = g.W.Write.contents c.write_all.new.self in
    let old = c.args.replayer.now.reader in
    let new = c.send-turned.new.self.reader in
    until_then c.end_by-then-is_done.result c.args.stream.now (life old.disk) (life c.keep_up.new.replayer.reader.disk) (life c.keep_up.new.replayer.reader.disk) old.cursor c.keep_up.new.replayer.reader.cursor c.keep_up.new.replayer.reader.cursor before after _
    (subst (λ r. IsSentOn c.args.stream.now (life old.disk) (life r.disk) old.cursor r.cursor before after) (sym c.keep_up.ensures.reader)
    (turn_on c.args.stream.now (life old.disk) (life new.disk) old.cursor new.cursor before after c.send-turned.new.sent _ _ c.in_default.ensures.sends c.in_default.ensures.cursor.1 c.in_default.ensures.cursor.0 c.in_default.ensures.quiet (search rules)))
    c.end_by-then-is_done.ensures

pub returns-clause-sent : goal.returns-clause-sent
returns-clause-sent g c =
    let life = g.E.Disk.life in
    let old = c.args.replayer.now.reader in
    let new = c.send-turned.new.self.reader in
    rw c.keep_up.ensures.reader (turn_on c.args.stream.now (life old.disk) (life new.disk) old.cursor new.cursor _ _ c.send-turned.new.sent _ _ c.in_default.ensures.sends c.in_default.ensures.cursor.1 c.in_default.ensures.cursor.0 c.in_default.ensures.quiet (search rules))
