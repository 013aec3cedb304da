use Rattle.std.proofs.Common.{sym}
use Rattle.publication_core.proofs.DatagramLemmas.{first_repeated, none_repeated}
use Rattle.publication_core.proofs.lists.repeat_first.Goals as goal

pub returns-in_err-index-clause-repeated : goal.returns-in_err-index-clause-repeated
returns-in_err-index-clause-repeated c = none_repeated c.args.now c.args.sent.now.items (sym c.in_err-index.ensures)

pub returns-in-Some-clause-repeated : goal.returns-in-Some-clause-repeated
returns-in-Some-clause-repeated c =
    rw c.repeat.ensures (first_repeated c.args.now c.in_ok-index.index c.args.sent.now.items c.in-Some.datagram.now (sym c.in_ok-index.ensures) c.in-Some.ensures.value)
