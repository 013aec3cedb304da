use Rattle.std.proofs.Common.{◌∙◌}
use Rattle.host_disk.proofs.NameLemmas.{only_bank_a, only_bank_b}
use Rattle.host_disk.proofs.file_names.file_like.Goals as goal

pub returns-in-text-clause-sole : goal.returns-in-text-clause-sole
returns-in-text-clause-sole c file proper is = only_bank_a file proper (is ∙ c.in-text.is)

pub returns-in-text-2-clause-sole : goal.returns-in-text-2-clause-sole
returns-in-text-2-clause-sole c file proper is = only_bank_b file proper (is ∙ c.in-text-2.is)
