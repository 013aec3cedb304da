use Rattle.std.proofs.Common.{◌≡◌, ◌⊎◌, ℕ, ◌<◌, ◌≤◌, get_or}
use Rattle.disk_core.proofs.memory_file.fill_range.Given as goal

abbrev pub invariant-loop-offset : goal.invariant-loop-offset
invariant-loop-offset l = record {
  inside : (k : ℕ) → l.from ≤ k → k < l.offset → get_or l.bytes k 0 ≡ l.byte;
  outside : (k : ℕ) → (k < l.from) ⊎ (l.offset ≤ k) → get_or l.bytes k 0 ≡ get_or l.initial.bytes k 0;
}
