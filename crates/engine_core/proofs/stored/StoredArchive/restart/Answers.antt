use Rattle.std.proofs.Common.{rules, ◌≡◌, ◌≢◌, ◌∙◌, pos, to_z, w64, ap, arith}
use Rattle.std.proofs.lemmas.Int.{ints}
use Rattle.std.proofs.lemmas.Bool.Decides.{nat_tests}
use Rattle.std.specs.Prelude.{Err}
use Rattle.archive_model.specs.Register.{active_count}
use Rattle.engine_core.proofs.openings.RestartLemmas.{restarts_done, restarts_none, restarts_refused}
use Rattle.engine_core.proofs.stored.StoredArchive.restart.Goals as goal

pub returns-in_err-make : goal.returns-in_err-make
returns-in_err-make g c =
    let went = c.in_err-make.ensures in
    let is : c.from_residual.result ≡ Err c.in_err-make.field-0.0 = search rules in
    rw is (restarts_refused _ _ c.in_err-make.field-0.0 went.made went.changes went.quiet went.touches went.entries)

pub returns-in_ok-make : goal.returns-in_ok-make
returns-in_ok-make g c =
    let went = c.in_ok-make.ensures in
    let n = c.active_count-stopped.result in
    let few = c.active_count-stopped.ensures.few in
    let count : to_z w64 n ≡ pos n = search (rules, few) in
    let some : to_z w64 n ≢ pos 0 = λ zero. (let positive = c.if-stopped-gt0.true in absurd (grind (arith, ints, nat_tests, zero, positive))) in
    restarts_done _ _ c.in_ok-make.field-0 (to_z w64 n) went.made went.changes went.touches went.entries some (count ∙ ap pos c.active_count-stopped.ensures.count)

pub returns-else-stopped-gt0 : goal.returns-else-stopped-gt0
returns-else-stopped-gt0 g c =
    let n = c.active_count-stopped.result in
    let few = c.active_count-stopped.ensures.few in
    let count : to_z w64 n ≡ pos n = search (rules, few) in
    let none : active_count c.args.self.now.desk.state.register ≡ 0 = grind (arith, ints, nat_tests, c.active_count-stopped.ensures.count, c.active_count-stopped.ensures.few, c.if-stopped-gt0.false) in
    restarts_none _ (to_z w64 n) (count ∙ ap pos (c.active_count-stopped.ensures.count ∙ none)) none
