use Rattle.std.proofs.Common.{take}
use Rattle.server_recorder.specs.Settling.{PassesFirst, later, some_overdue}
use Rattle.server_recorder.proofs.settling.Settling.next_due.Given as goal

-- of the sessions so far
abbrev pub invariant-loop-session : goal.invariant-loop-session
invariant-loop-session l = PassesFirst (λ ms. some_overdue l.self.every (later ms l.self.time) (take l.session-index l.session-items)) l.next
