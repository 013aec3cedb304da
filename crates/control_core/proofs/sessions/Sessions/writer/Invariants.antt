use Rattle.std.proofs.Common.{take}
use Rattle.archive_model.proofs.NumberedLemmas.{Skips}
use Rattle.control_core.proofs.sessions.Sessions.writer.Given as goal

abbrev pub invariant-loop-session : goal.invariant-loop-session
invariant-loop-session l = Skips (λ s. s.recording) l.recording (take l.session-index l.session-items)
