use Rattle.std.proofs.Common.{◌≡◌, ◌≤◌, ◌-◌, ◌^◌}
use Rattle.image_core.specs.Rebuild.{chain_end}
use Rattle.image_core.proofs.held.chain_end.Given as goal

-- the chain's end is that of the chain from where it has come to
abbrev pub invariant-chain : goal.invariant-chain
invariant-chain l = record { same : chain_end l.end l.held.entries ≡ chain_end l.fn.from l.held.entries; within : l.end ≤ 2 ^ 62 }

abbrev pub decreases-chain : goal.decreases-chain
decreases-chain l = 2 ^ 62 - l.end
