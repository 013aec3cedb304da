use Rattle.folder_commands.proofs.commands.run.Given as goal

abbrev pub ghost-disk_within : goal.ghost-disk_within
ghost-disk_within g a = g.given

abbrev pub ghost-warns_of_hidden : goal.ghost-warns_of_hidden
ghost-warns_of_hidden g a = g.given
