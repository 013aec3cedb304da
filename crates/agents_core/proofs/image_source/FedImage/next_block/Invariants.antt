use Rattle.std.proofs.Common.{ℕ, List}
use Rattle.agents_core.specs.ImageSource.{TakesDatagrams}
use Rattle.agents_core.proofs.image_source.FedImage.next_block.Given as goal

abbrev pub invariant-loop : goal.invariant-loop
invariant-loop g l =
    (goal.iterator-loop g).can_next l.iterator' × (goal.iterator-loop g).is_finite l.iterator' × ((datagrams : List (List ℕ)) × TakesDatagrams g.E.DatagramEnd.receives g.E.DatagramEnd.sends l.fn.self datagrams l.self)
