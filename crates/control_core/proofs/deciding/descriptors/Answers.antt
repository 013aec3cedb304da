-- A descriptor that was found comes behind the others.
use Rattle.std.proofs.Common.{◌≡◌, ◌<◌, true, length, subst, rules, arith}
use Rattle.std.specs.Prelude.{int_le}
use Rattle.control_core.proofs.ListingLemmas.{IsAsFar, far-more, drop-item}
use Rattle.control_core.proofs.deciding.descriptors.Goals as goal

pub loop-known-preserved : goal.loop-known-preserved
loop-known-preserved c =
    let r = c.known-item.result in
    let at = drop-item c.args.recordings.now c.loop-known.known-index r c.loop-known-test.true c.known-item.is in
    let high : int_le c.args.from.now r.descriptor.recording ≡ true = search rules in
    let room : length c.loop-known.found.items < c.args.count = search (rules, arith) in
    let here = subst (λ rest. IsAsFar c.args.from.now c.args.count c.loop-known.found.items rest c.args.recordings.now) at c.loop-known.invariant in
    let more = far-more c.args.from.now c.args.count c.loop-known.found.items r _ _ high room here in
    search (rules, more)
