use Rattle.std.proofs.Common.{drop}
use Rattle.engine_core.proofs.calls.GroupCallLemmas.{SoFar}
use Rattle.engine_core.proofs.settle_all.group_of.Given as goal

abbrev pub invariant-loop-session : goal.invariant-loop-session
invariant-loop-session l = SoFar l.desk.state l.sessions (drop l.session-index l.sessions) l.group.segments.items l.group.entries.items
