use Rattle.std.proofs.Common.{sym}
use Rattle.agents_core.proofs.SourceLemmas.{inserted_one, refused_one}
use Rattle.agents_core.proofs.image_source.FedImage.take_datagram.Goals as goal

pub returns-in-Ok : goal.returns-in-Ok
returns-in-Ok g c =
    let none = rw (sym c.self.view_is) at c.requires in
    rw (← c.self.view_is) (_, inserted_one _ _ _ _ c.receive.new.self c.in-Ok.field-0 c.insert.new.self _ none c.in-Some.ensures.received c.in-Ok.ensures.inserted c.request_gap.ensures.image c.request_gap.ensures.sent)

pub returns-in-Err : goal.returns-in-Err
returns-in-Err g c =
    let none = rw (sym c.self.view_is) at c.requires in
    rw (← c.self.view_is, c.in-Err.ensures.same) (refused_one _ _ _ _ c.receive.new.self c.in-Err.refusal c.goes_on_after.result none c.in-Some.ensures.received c.in-Err.ensures.refused c.goes_on_after.ensures)
