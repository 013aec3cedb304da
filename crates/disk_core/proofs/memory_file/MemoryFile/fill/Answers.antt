use Rattle.std.proofs.Common.{ℕ, List, reverse, sym, ap, rules}
use Rattle.disk_core.specs.Memory.{state_of}
use Rattle.disk_core.proofs.FillLemmas.{filled_file}
use Rattle.disk_core.proofs.memory_file.MemoryFile.fill.Goals as goal

pub returns : goal.returns
returns c last =
    filled_file (state_of last c.args.self.now) c.deref.result.now c.args.byte 18446744073709551615 c.args.bytes.now c.fill_ranges.new.bytes c.fill_range.new.bytes
    (ap (λ (l : List (ℕ × ℕ)). reverse l) (sym c.deref.ensures.value)) c.fill_ranges.ensures (search rules) (search rules) (search rules)
    c.fill_range.ensures.inside c.fill_range.ensures.outside
