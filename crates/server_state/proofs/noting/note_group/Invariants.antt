use Rattle.std.proofs.Common.{◌≡◌}
use Rattle.std.specs.List.{zip}
use Rattle.server_state.specs.Noting.{after_settlings}
use Rattle.server_state.proofs.noting.note_group.Given as goal

-- the settlings that are left make of the pairs what all of them make
abbrev pub invariant-loop-session : goal.invariant-loop-session
invariant-loop-session l = after_settlings (zip l.session-iterator.a.rest.now l.session-iterator.b.rest.now) l.pairs ≡ after_settlings (zip l.sessions l.positions) l.fn.pairs
