use Rattle.std.proofs.Common.{[]}
use Rattle.trial_lock.proofs.folder.disk_of.Given as goal

-- no clause here rests on what the folder holds
abbrev pub ghost-open : goal.ghost-open
ghost-open a = record { held = []; left = [] }
