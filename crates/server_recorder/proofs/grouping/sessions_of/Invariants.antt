use Rattle.std.proofs.Common.{◌≡◌, take}
use Rattle.std.specs.List.{filter_map}
use Rattle.server_recorder.specs.Grouping.{session_written}
use Rattle.server_recorder.proofs.grouping.sessions_of.Given as goal

-- of the seats so far
abbrev pub invariant-loop-seat : goal.invariant-loop-seat
invariant-loop-seat l = l.sessions.items ≡ filter_map (session_written l.settling) (take l.seat-index l.seats)
