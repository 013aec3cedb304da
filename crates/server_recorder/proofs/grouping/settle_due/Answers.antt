use Rattle.std.proofs.Common.{inl, ℕ, Bool, List, ◌∙◌, ap, refl, subst}
use Rattle.server_recorder.specs.Grouping.{seats_of}
use Rattle.server_recorder.specs.Settles.{SettlesAfterLook}
use Rattle.server_recorder.proofs.SettlesLemmas.{settled_alone}
use Rattle.server_recorder.proofs.grouping.settle_due.Goals as goal

pub returns-in-Some : goal.returns-in-Some
returns-in-Some g c =
    let chosen = c.as_slice.ensures.value ∙ (c.in-Some.ensures ∙ ap seats_of c.settling_seats-chosen.ensures) in
    (c.has_block-block_waits.result, subst (λ (xs : List ℕ). SettlesAfterLook g.D.Disk.life g.A.Naming.opening xs c.args.settling.now c.settle_chosen.new.settling c.args.seats.now c.settle_chosen.new.seats) chosen c.settle_chosen.ensures)

pub returns-in-None : goal.returns-in-None
returns-in-None g c =
    let was = c.args.settling.now in
    let old = c.args.seats.now in
    let alone = settled_alone g.D.Disk.life g.A.Naming.opening (seats_of c.settling_seats-chosen.result) was was c.settle_each.new.settling old old c.settle_each.new.seats (inl refl) refl c.settle_each.ensures.calls c.settle_each.ensures.settled in
    (c.has_block-block_waits.result, subst (λ (chosen : List Bool). SettlesAfterLook g.D.Disk.life g.A.Naming.opening (seats_of chosen) was c.settle_each.new.settling old c.settle_each.new.seats) c.settling_seats-chosen.ensures alone)
