use Rattle.folder_commands.proofs.hidden.warns_of_hidden_by.Given as goal

abbrev pub ghost-hidden_place : goal.ghost-hidden_place
ghost-hidden_place g a = g.given
