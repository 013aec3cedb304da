use Rattle.host_disk.proofs.system.Names.lock.Given as goal

abbrev pub ghost-of : goal.ghost-of
ghost-of g a = g.given
