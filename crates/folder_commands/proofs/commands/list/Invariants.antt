use Rattle.folder_commands.proofs.commands.list.Given as goal

abbrev pub ghost-list_read_only : goal.ghost-list_read_only
ghost-list_read_only g a = g.given

abbrev pub ghost-list_opened : goal.ghost-list_opened
ghost-list_opened g a = g.given
