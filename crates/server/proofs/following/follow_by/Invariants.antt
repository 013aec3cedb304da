use Rattle.server.specs.Clients.{IsBack}
use Rattle.server.proofs.following.follow_by.Given as goal

-- the pass came back from each follower
abbrev pub invariant-loop : goal.invariant-loop
invariant-loop g l = IsBack l.fn.pass l.pass
