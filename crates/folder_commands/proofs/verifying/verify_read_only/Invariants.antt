use Rattle.folder_commands.proofs.verifying.verify_read_only.Given as goal

abbrev pub ghost-folder_of : goal.ghost-folder_of
ghost-folder_of g a = g.given
