use Rattle.folder_commands.proofs.commands.obeyed.Given as goal

abbrev pub ghost-obey : goal.ghost-obey
ghost-obey g a = g.given
