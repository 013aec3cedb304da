use Rattle.folder_commands.proofs.commands.compact.Given as goal

abbrev pub ghost-watched_disk : goal.ghost-watched_disk
ghost-watched_disk g a = g.given
