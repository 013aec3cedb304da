-- What each turn and each heartbeat adds, and then the end.
use Rattle.std.proofs.Common.{refl, rules}
use Rattle.server.proofs.FollowingLemmas.{nothing_on, sent_on_then, until_then}
use Rattle.server.proofs.pushing.send_all.Goals as goal

pub loop-init : goal.loop-init
loop-init g c = (nothing_on c.args.stream.now _ _ _ _ _ refl refl (search rules), refl, refl)

pub returns-in-Some-send_next-clause-sent : goal.returns-in-Some-send_next-clause-sent
returns-in-Some-send_next-clause-sent g c = until_then _ c.args.stream.now _ _ _ _ _ _ _ _ _ c.loop.invariant.0 (rw c.in-Some-send_next.is at c.send_next.ensures.sent)

pub loop-preserved-then-is_empty : goal.loop-preserved-then-is_empty
loop-preserved-then-is_empty g c = (
  sent_on_then c.args.stream.now _ _ _ _ _ _ _ _ _ c.loop.invariant.0 (sent_on_then c.args.stream.now _ _ _ _ _ _ _ _ _ (rw c.in_default.is at c.send_next.ensures.sent) (c.keep_alive.ensures (search rules))),
  search rules,
  search rules,
)

pub loop-preserved : goal.loop-preserved
loop-preserved g c = (
  sent_on_then c.args.stream.now _ _ _ _ _ _ _ _ _ c.loop.invariant.0 (rw c.in_default.is at c.send_next.ensures.sent),
  search rules,
  search rules,
)
