use Rattle.std.proofs.Common.{◌≡◌, ℤ, pos, Some, w64, to_z, of_z, ap, ◌∙◌}
use Rattle.host_disk.proofs.NameLemmas.{count_read, kept_count, is_count}
use Rattle.host_disk.proofs.file_names.count_of.Goals as goal

pub returns-in-Ok-clause-sole : goal.returns-in-Ok-clause-sole
returns-in-Ok-clause-sole c n small is =
    let read = count_read n c.args.text.now c.parse.result small is c.parse.ensures.value.0 in
    let was = c.in-Ok.is in
    let same : c.in-Ok.number ≡ pos n = cc in
    ap (λ (z : ℤ). Some (to_z w64 (of_z w64 z))) same ∙ ap (λ (z : ℤ). Some z) (kept_count n small)

pub returns-in_default-clause-sole : goal.returns-in_default-clause-sole
returns-in_default-clause-sole c n small is =
    let read = count_read n c.args.text.now c.parse.result small is c.parse.ensures.value.0 in
    let was = c.in-Ok.is in
    let same : c.in-Ok.number ≡ pos n = cc in
    let below = c.if-number-ge0.false in
    let kept = ap (λ (z : ℤ). to_z w64 (of_z w64 z)) same ∙ kept_count n small in
    absurd (is_count n (to_z w64 (of_z w64 c.in-Ok.number)) kept below)

pub returns-in_default-2-clause-sole : goal.returns-in_default-2-clause-sole
returns-in_default-2-clause-sole c n small is =
    let read = count_read n c.args.text.now c.parse.result small is c.parse.ensures.value.0 in
    let failed = c.in_default.is in
    absurd (cc)
