use Rattle.std.proofs.Common.{◌≡◌, length}
use Rattle.server_sender.specs.Publishing.{laid_each}
use Rattle.server_sender.proofs.publishing.Publishing.lay_all.Given as goal

-- the frames that are left make of the publication what all of them make
abbrev pub invariant-loop-first : goal.invariant-loop-first
invariant-loop-first l = laid_each l.read l.self ≡ laid_each l.fn.read l.fn.self

abbrev pub decreases-loop-first : goal.decreases-loop-first
decreases-loop-first l = length l.read
