use Rattle.folder_commands.proofs.commands.list_opened.Given as goal

abbrev pub ghost-watched_disk : goal.ghost-watched_disk
ghost-watched_disk g a = g.given
