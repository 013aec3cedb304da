use Rattle.std.proofs.Common.{rules, ◌≡◌, ap, arith, inr, length, [], Err, to_z, of_z, w64}
use Rattle.std.proofs.lemmas.Bool.Decides.{nat_tests}
use Rattle.engine_core.proofs.Words.{seen}
use Rattle.engine_core.proofs.openings.OpeningLemmas.{empty_list}
use Rattle.engine_core.proofs.openings.ReopenLemmas.{had_files, made_behind, opened_behind, refused_behind, unmade_behind}
use Rattle.engine_core.proofs.engine.Engine.create_or_open.Goals as goal

pub returns-in_err-engine-in-Ok-clause-found : goal.returns-in_err-engine-in-Ok-clause-found
returns-in_err-engine-in-Ok-clause-found g c =
    let refused = c.in_err-engine-in-Ok.field-0.0 in
    let is : c.from_residual.result ≡ Err refused = search rules in
    let none : c.in-Ok.files.items ≡ [] = empty_list c.in-Ok.files.items (grind (arith, nat_tests)) in
    rw is (unmade_behind (g.D.Disk.life c.args.disk) (g.D.Disk.life c.files_within.new.disk) c.files_within.ensures.quiet (g.D.Disk.life refused.disk) c.args.history_limit c.in-Ok.files.items refused.refusal none c.in-Ok.ensures.files
    c.in_err-engine-in-Ok.ensures.goes_on c.in_err-engine-in-Ok.ensures.refused)

pub returns-in_err-engine-in-Ok-2-clause-found : goal.returns-in_err-engine-in-Ok-2-clause-found
returns-in_err-engine-in-Ok-2-clause-found g c =
    let old = g.D.Disk.life c.args.disk in
    let mid = g.D.Disk.life c.files_within.new.disk in
    let quiet = c.files_within.ensures.quiet in
    let refused = c.in_err-engine-in-Ok-2.field-0.0 in
    let new = g.D.Disk.life refused.disk in
    let not = c.in_err-engine-in-Ok-2.ensures in
    let is : c.from_residual-in_err-engine-in-Ok-2.result ≡ Err refused = search rules in
    let some : c.in-Ok-2.files.items ≡ [] → ⊥ = λ none. (let no : length c.in-Ok-2.files.items ≡ 0 = ap length none in absurd (grind (arith, nat_tests))) in
    rw is (inr (inr (had_files old mid quiet new c.in-Ok-2.files.items some c.in-Ok-2.ensures.files not.goes_on, refused_behind old mid quiet new refused.refusal not)))

pub returns-in_ok-engine-in-Ok-2-clause-found : goal.returns-in_ok-engine-in-Ok-2-clause-found
returns-in_ok-engine-in-Ok-2-clause-found g c =
    let old = g.D.Disk.life c.args.disk in
    let mid = g.D.Disk.life c.files_within.new.disk in
    let quiet = c.files_within.ensures.quiet in
    let new = seen g.D.Disk.life c.in_ok-engine-in-Ok-2.engine in
    let stopped = c.in_ok-engine-in-Ok-2.stopped in
    let same : to_z w64 (of_z w64 stopped) ≡ stopped = search rules in
    let some : c.in-Ok-2.files.items ≡ [] → ⊥ = λ none. (let no : length c.in-Ok-2.files.items ≡ 0 = ap length none in absurd (grind (arith, nat_tests))) in
    let opened = opened_behind old mid quiet new stopped c.in_ok-engine-in-Ok-2.ensures in
    (had_files old mid quiet new.life c.in-Ok-2.files.items some c.in-Ok-2.ensures.files c.in_ok-engine-in-Ok-2.ensures.goes_on, rw same opened)

pub returns-in_ok-engine-in-Ok-clause-found : goal.returns-in_ok-engine-in-Ok-clause-found
returns-in_ok-engine-in-Ok-clause-found g c =
    let old = g.D.Disk.life c.args.disk in
    let mid = g.D.Disk.life c.files_within.new.disk in
    let made = c.in_ok-engine-in-Ok.ensures in
    let new = g.D.Disk.life c.in_ok-engine-in-Ok.engine.archive.storage.disk in
    let none : c.in-Ok.files.items ≡ [] = empty_list c.in-Ok.files.items (grind (arith, nat_tests)) in
    let quiet = c.files_within.ensures.quiet in
    let goes = made.goes_on in (
      made_behind old mid quiet new c.args.history_limit c.in-Ok.files.items none c.in-Ok.ensures.files c.in-Ok.ensures.some c.in-Ok.ensures.most goes made.spare,
      made.keeps,
      record { obeyed = λ obeys. quiet.obeyed (goes.obeyed obeys); faults = (let first = quiet.faults in let then = goes.faults in omega (arith, first, then)) },
      made.banks,
    )
