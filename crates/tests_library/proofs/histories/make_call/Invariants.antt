use Rattle.tests_library.proofs.histories.make_call.Given as goal

abbrev pub ghost-note : goal.ghost-note
ghost-note a = a.asked
