use Rattle.std.proofs.Common.{◌≡◌, map, take}
use Rattle.control_core.specs.Changes.{position_of}
use Rattle.control_core.specs.Turns.{session_in}
use Rattle.control_core.proofs.desk.Desk.settled_positions.Given as goal

abbrev pub invariant-loop-session : goal.invariant-loop-session
invariant-loop-session l = l.positions ≡ map (λ n. position_of l.self.state (session_in l.self.state n)) (take l.session-index l.sessions)
