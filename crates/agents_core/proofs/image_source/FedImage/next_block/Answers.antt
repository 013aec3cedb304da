use Rattle.std.proofs.Common.{sym, inl, inr, refl}
use Rattle.agents_core.proofs.SourceLemmas.{one_more}
use Rattle.agents_core.proofs.image_source.FedImage.next_block.Goals as goal

pub returns-in-Ok-Some : goal.returns-in-Ok-Some
returns-in-Ok-Some g c =
    record {
      datagrams = c.loop.invariant.2.0;
      mid = _;
      taken = rw (sym c.self.view_is) at c.loop.invariant.2.1;
      given = (rw c.in-Ok-Some.field-0-is at c.in-Ok-Some.ensures.block, refl);
    }

pub returns-in-Err : goal.returns-in-Err
returns-in-Err g c =
    record {
      datagrams = c.loop.invariant.2.0;
      mid = _;
      taken = rw (sym c.self.view_is) at c.loop.invariant.2.1;
      given = inr (inl (c.in-Err.ensures.some, rw c.in-Err.ensures.same refl));
    }

pub returns-then-not-take_datagram : goal.returns-then-not-take_datagram
returns-then-not-take_datagram g c =
    let same = (rw c.in-Ok-None.field-0-is at c.in-Ok-None.ensures.block).1 in
    record {
      datagrams = c.loop.invariant.2.0;
      mid = _;
      taken = rw (sym c.self.view_is) at c.loop.invariant.2.1;
      given = rw same at c.if-not-take_datagram.ensures;
    }

pub loop-preserved : goal.loop-preserved
loop-preserved g c =
    let same = (rw c.in-Ok-None.field-0-is at c.in-Ok-None.ensures.block).1 in
    let taken = rw same at c.if-not-take_datagram.ensures in
    (tt, tt, (_, one_more _ _ _ c.loop.invariant.2.0 _ taken.0 _ (rw (sym c.self.view_is) at c.loop.invariant.2.1) taken.1))
