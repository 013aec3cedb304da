use Rattle.tests_library.proofs.histories.note.Given as goal

abbrev pub ghost-note : goal.ghost-note
ghost-note g a = g.call
