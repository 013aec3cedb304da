use Rattle.folder_commands.proofs.serving.serve.Given as goal

abbrev pub ghost-disk_within : goal.ghost-disk_within
ghost-disk_within g a = g.given

abbrev pub ghost-warns_of_hidden_by : goal.ghost-warns_of_hidden_by
ghost-warns_of_hidden_by g a = g.given
