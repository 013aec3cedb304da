use Rattle.host_disk.proofs.host_folder.HostFolder.open.Given as goal

abbrev pub ghost-lock : goal.ghost-lock
ghost-lock g a = g.given
