use Rattle.std.proofs.Common.{◌≡◌, ap, arith, inr, length, []}
use Rattle.std.proofs.lemmas.Bool.Decides.{nat_tests}
use Rattle.engine_core.proofs.openings.OpeningLemmas.{empty_list, one_there}
use Rattle.engine_core.proofs.openings.ReopenLemmas.{made_behind, made_then}
use Rattle.engine_core.proofs.engine.Engine.create.Goals as goal

pub returns-in-Ok-2-clause-refused : goal.returns-in-Ok-2-clause-refused
returns-in-Ok-2-clause-refused g c =
    let some : c.in-Ok.files.items ≡ [] → ⊥ = λ none. (let no : length c.in-Ok.files.items ≡ 0 = ap length none in absurd (grind (arith, nat_tests))) in
    (c.files_within.ensures.quiet, inr (inr (λ obeys. one_there (g.D.Disk.life c.args.disk) c.in-Ok.files.items some (c.in-Ok.ensures.files obeys))))

pub returns-in-Ok-clause-made : goal.returns-in-Ok-clause-made
returns-in-Ok-clause-made g c =
    let old = g.D.Disk.life c.args.disk in
    let mid = g.D.Disk.life c.files_within.new.disk in
    let none : c.in-Ok.files.items ≡ [] = empty_list c.in-Ok.files.items (grind (arith, nat_tests)) in
    made_then c.make.result _ _ _ _ (λ engine spare goes. made_behind old mid c.files_within.ensures.quiet (g.D.Disk.life engine.archive.storage.disk) c.args.history_limit c.in-Ok.files.items none c.in-Ok.ensures.files c.in-Ok.ensures.some c.in-Ok.ensures.most goes spare)
    c.make.ensures.spare c.make.ensures.goes_on
