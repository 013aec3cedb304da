use Rattle.folder_commands.proofs.verifying.verify.Given as goal

abbrev pub ghost-verify_read_only : goal.ghost-verify_read_only
ghost-verify_read_only g a = g.given

abbrev pub ghost-verify_opened : goal.ghost-verify_opened
ghost-verify_opened g a = g.given
