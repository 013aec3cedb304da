use Rattle.folder_commands.proofs.waiting.opened_within.Given as goal

abbrev pub ghost-open : goal.ghost-open
ghost-open g a = g.given
