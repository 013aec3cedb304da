use Rattle.folder_commands.proofs.waiting.disk_within.Given as goal

abbrev pub ghost-opened_within : goal.ghost-opened_within
ghost-opened_within g a = g.given
