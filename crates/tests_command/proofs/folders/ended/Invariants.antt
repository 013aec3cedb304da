use Rattle.std.proofs.Common.{[]}
use Rattle.tests_command.proofs.folders.ended.Given as goal

-- no clause here rests on what the folder holds
abbrev pub ghost-obeyed : goal.ghost-obeyed
ghost-obeyed g a = record { held = []; left = [] }
