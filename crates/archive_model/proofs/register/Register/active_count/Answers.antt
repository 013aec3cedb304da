-- A slice has fewer than 2^63 values.
use Rattle.std.proofs.Common.{◌<◌, ◌^◌, rules, length, arith}
use Rattle.std.proofs.lemmas.List.Sums.{count_by-le-length}
use Rattle.archive_model.specs.Register.{is_active}
use Rattle.archive_model.proofs.register.Register.active_count.Goals as goal

pub returns-clause-few : goal.returns-clause-few
returns-clause-few c =
    let rs = c.as_slice.result.now in
    let few = count_by-le-length is_active rs in
    let many : length rs < 2 ^ 63 = search rules in
    rw c.count_active.ensures (omega (arith, few, many))
