use Rattle.host_disk.proofs.host_disk.FolderDisk+HostFolder.open.Given as goal

abbrev pub ghost-open : goal.ghost-open
ghost-open g a = g.given
