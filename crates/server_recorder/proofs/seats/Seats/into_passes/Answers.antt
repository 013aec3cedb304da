-- The bench's pass is the first one.
use Rattle.std.proofs.Common.{◌∙◌, ap, subst, sym}
use Rattle.call_history.specs.Values.{PassView}
use Rattle.archive_lock.specs.declared.history.Made.{Made}
use Rattle.server_recorder.specs.Seats.{AreAllPasses}
use Rattle.server_recorder.proofs.SeatLemmas.{all_with_first}
use Rattle.server_recorder.proofs.seats.Seats.into_passes.Goals as goal

pub returns : goal.returns
returns g c =
    let pass = c.into_parts-pass.result.0 in
    let is = c.into_parts-pass.ensures.pass in
    let of = ap (λ (p : PassView Made). p.table) is ∙ c.self.invariant.table in
    let number = ap (λ (p : PassView Made). p.number) is ∙ c.self.invariant.number in
    subst (AreAllPasses g.A.Naming.table g.A.Naming.passes) (sym c.push_reserved.ensures.items) (all_with_first g.A.Naming.table g.A.Naming.passes c.args.clients.items pass c.requires.clients.0 c.requires.clients.1 of number)
