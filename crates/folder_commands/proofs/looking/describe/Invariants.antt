use Rattle.folder_commands.proofs.looking.describe.Given as goal

abbrev pub ghost-folder_of : goal.ghost-folder_of
ghost-folder_of g a = g.given

abbrev pub ghost-hidden_place : goal.ghost-hidden_place
ghost-hidden_place g a = g.given

abbrev pub ghost-still_hidden_place : goal.ghost-still_hidden_place
ghost-still_hidden_place g a = g.given
