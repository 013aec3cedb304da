use Rattle.host_disk.proofs.looked.Looked.open.Given as goal

abbrev pub ghost-of : goal.ghost-of
ghost-of g a = g.given
