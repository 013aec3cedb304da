use Rattle.folder_commands.proofs.answering.answered.Given as goal

abbrev pub ghost-obeyed : goal.ghost-obeyed
ghost-obeyed g a = g.given
