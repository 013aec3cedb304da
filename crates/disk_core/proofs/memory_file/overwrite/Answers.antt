use Rattle.std.proofs.Common.{◌≡◌, ◌+◌, ◌-◌, ℕ, List, ◌++◌, replicate, length, take, drop, rules, ap, ◌∙◌}
use Rattle.disk_core.proofs.OverwriteLemmas.{overwritten_by_parts, put_back}
use Rattle.disk_core.proofs.memory_file.overwrite.Goals as goal

pub returns-clause-done : goal.returns-clause-done
returns-clause-done c =
    let at = c.args.at in
    let bytes = c.args.bytes.now in
    let old = c.args.file.now.items in
    let grown = c.stretch.new.file.items in
    let filled : grown ≡ old ++ replicate (at + length bytes - length old) 0 = search rules in
    let new : c.replace.new.file ≡ take at grown ++ bytes ++ drop (at + length bytes) grown =
    c.replace.ensures ∙ ap (λ (l : List ℕ). take at l ++ bytes ++ drop (at + length bytes) l) c.deref_mut.ensures.value in
    put_back c.stretch.new.file.len c.replace.new.file grown (search rules) (search rules)
    ∙ new ∙ overwritten_by_parts at bytes old grown c.requires.some filled
