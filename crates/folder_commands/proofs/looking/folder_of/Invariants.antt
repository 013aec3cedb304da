use Rattle.folder_commands.proofs.looking.folder_of.Given as goal

abbrev pub ghost-open : goal.ghost-open
ghost-open g a = g.given
