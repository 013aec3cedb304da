use Rattle.host_disk.proofs.system.FolderPath.of.Given as goal

abbrev pub ghost-begin : goal.ghost-begin
ghost-begin g a = g.given
