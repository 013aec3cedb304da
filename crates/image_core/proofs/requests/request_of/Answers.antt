use Rattle.std.proofs.Common.{◌≡◌, ◌<◌, ◌-◌, ap, w32, arith}
use Rattle.std.specs.Prelude.{min, unsigned_abs}
use Rattle.std.proofs.lemmas.Int.{to_z_pos}
use Rattle.image_core.specs.Received.{rebuilt}
use Rattle.image_core.specs.Stock.{reach}
use Rattle.image_core.proofs.StockLemmas.{asks_for}
use Rattle.image_core.proofs.requests.request_of.Goals as goal

pub returns : goal.returns
returns c =
    let image = c.args.image.now in
    let gap = c.in_ok-request.request in
    let size = c.min-length.result in
    let room : rebuilt image < reach image = omega (arith, c.rebuilt-rebuilt.ensures.position, c.reach-reach.ensures, c.if-reach-rebuilt.false) in
    let size_is : size ≡ min (unsigned_abs gap.length) (reach image - rebuilt image) =
    let is = c.min-length.ensures in rw (c.rebuilt-rebuilt.ensures.position, c.reach-reach.ensures, c.length_of.ensures.length) at is in
    asks_for image gap _ size c.in_ok-request.ensures.here room size_is (ap (λ (n : _). record gap { length = n }) (to_z_pos w32 size (omega (arith, c.min-length.ensures, c.length_of.ensures.small))))
