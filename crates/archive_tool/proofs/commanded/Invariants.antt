use Rattle.std.proofs.Common.{[]}
use Rattle.archive_tool.proofs.commanded.Given as goal

-- no clause here rests on what the folder holds
abbrev pub ghost-answered : goal.ghost-answered
ghost-answered g a = record { held = []; left = [] }
