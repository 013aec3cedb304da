use Rattle.std.proofs.Common.{◌≡◌, false, true, arith}
use Rattle.std.proofs.lemmas.List.Edits.{map_over_more}
use Rattle.publication_core.specs.Datagrams.{marked}
use Rattle.publication_core.proofs.lists.mark_each.Goals.{in-Some, in_default}
use Rattle.publication_core.proofs.lists.mark_each.Goals as goal

pub loop-index-preserved : goal.loop-index-preserved
loop-index-preserved c = elim c.match-get_mut.branch [
  | in-Some w ↦ (
    rw (w.sent-is, w.mark.ensures)
        (map_over_more
        (marked c.args.now c.args.from c.args.to)
        c.args.sent.now.items
        c.loop-index.sent.items
        c.loop-index.index
        w.in-Some.datagram.now
        (omega (arith, c.loop-index-test.true, c.len-index-end.ensures))
        c.loop-index.invariant.0
        w.in-Some.ensures.value),
    rw w.sent-is c.loop-index.invariant.1,
  )
  | in_default w ↦
      let same = c.loop-index.invariant.1 in
      let never : false ≡ true = w.in_default.ensures.variant.1 (omega (arith, same, c.loop-index-test.true, c.len-index-end.ensures)) in
      absurd (cc)
]
