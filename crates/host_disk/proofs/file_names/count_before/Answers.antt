use Rattle.std.proofs.Common.{◌≡◌, ℤ, pos, w64, to_z, of_z, sym, ap, ◌∙◌, arith}
use Rattle.host_disk.proofs.NameLemmas.{count_cut, kept_count}
use Rattle.host_disk.proofs.file_names.count_before.Goals as goal

pub returns-in_err-number-clause-sole : goal.returns-in_err-number-clause-sole
returns-in_err-number-clause-sole c n rest small is =
    let cut = count_cut n c.args.mark rest c.args.text.now small c.requires.no_digit is in
    let none = c.in_err-number.ensures.byte c.requires.ascii (λ w o finds. finds) in
    absurd (omega (arith, cut.0, none))

pub returns-in_err-count_of-clause-sole : goal.returns-in_err-count_of-clause-sole
returns-in_err-count_of-clause-sole c n rest small is =
    let cut = count_cut n c.args.mark rest c.args.text.now small c.requires.no_digit is in
    let parts = c.in_ok-number.ensures.byte c.requires.ascii (λ w o finds. finds) in
    let some = c.in_err-count_of.ensures.sole n small (sym (parts.0 ∙ cut.1)) in
    absurd (cc)

pub returns-clause-sole : goal.returns-clause-sole
returns-clause-sole c n rest small is =
    let cut = count_cut n c.args.mark rest c.args.text.now small c.requires.no_digit is in
    let parts = c.in_ok-number.ensures.byte c.requires.ascii (λ w o finds. finds) in
    let some = c.in_ok-count_of.ensures.sole n small (sym (parts.0 ∙ cut.1)) in
    let same : c.in_ok-count_of.field-0 ≡ pos n = cc in
    (ap (λ (z : ℤ). to_z w64 (of_z w64 z)) same ∙ kept_count n small, parts.1 ∙ cut.2)
