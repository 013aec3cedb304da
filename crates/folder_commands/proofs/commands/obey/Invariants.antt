use Rattle.folder_commands.proofs.commands.obey.Given as goal

abbrev pub ghost-serve : goal.ghost-serve
ghost-serve g a = g.given

abbrev pub ghost-create : goal.ghost-create
ghost-create g a = g.given

abbrev pub ghost-compact : goal.ghost-compact
ghost-compact g a = g.given

abbrev pub ghost-run : goal.ghost-run
ghost-run g a = g.given

abbrev pub ghost-list : goal.ghost-list
ghost-list g a = g.given

abbrev pub ghost-verify : goal.ghost-verify
ghost-verify g a = g.given

abbrev pub ghost-describe : goal.ghost-describe
ghost-describe g a = g.given

abbrev pub ghost-export : goal.ghost-export
ghost-export g a = g.given
