use Rattle.std.proofs.Common.{◌≡◌, [], ◌∷◌, reverse, length, true, sym, ap, ap₂, ◌∙◌}
use Rattle.std.proofs.lemmas.List.{reverse-append}
use Rattle.std.proofs.lemmas.Result.{on_ok_weaker}
use Rattle.disk_core.specs.Memory.{state_of}
use Rattle.disk_core.proofs.OverwriteLemmas.{write_of_some}
use Rattle.disk_core.proofs.memory_file.MemoryFile.write.Goals as goal

pub returns-then-is_ok-clause-done : goal.returns-then-is_ok-clause-done
returns-then-is_ok-clause-done c =
    on_ok_weaker c.write_file-outcome.result
    (λ done last.
    let noted : reverse c.push.new.self.items ≡ (c.args.at, length c.args.bytes.now) ∷ reverse c.args.self.now.written.items =
    ap reverse c.in_ok-push.ensures.items ∙ reverse-append c.args.self.now.written.items ((c.args.at, length c.args.bytes.now) ∷ []) in
    ap₂ (λ (r : _) (w : _). record (state_of last c.args.self.now) { reads = r; is_touched = true; written = w }) done noted
    ∙ sym (write_of_some c.args.at c.args.bytes.now (state_of last c.args.self.now) c.requires.some))
    c.write_file-outcome.ensures.done
