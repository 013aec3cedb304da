use Rattle.folder_commands.proofs.hidden.hidden_place.Given as goal

abbrev pub ghost-open : goal.ghost-open
ghost-open g a = g.given
