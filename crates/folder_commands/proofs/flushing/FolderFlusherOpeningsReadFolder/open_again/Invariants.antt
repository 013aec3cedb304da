use Rattle.folder_commands.proofs.flushing.FolderFlusherOpeningsReadFolder.open_again.Given as goal

abbrev pub ghost-open : goal.ghost-open
ghost-open g a = g.G.Found.given
