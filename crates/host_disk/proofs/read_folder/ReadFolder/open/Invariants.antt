use Rattle.host_disk.proofs.read_folder.ReadFolder.open.Given as goal

abbrev pub ghost-open : goal.ghost-open
ghost-open g a = g.given
