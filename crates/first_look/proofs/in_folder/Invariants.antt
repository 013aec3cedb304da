use Rattle.std.proofs.Common.{[]}
use Rattle.first_look.proofs.in_folder.Given as goal

-- no clause here rests on what the folder holds
abbrev pub ghost-open : goal.ghost-open
ghost-open a = record { held = []; left = [] }
