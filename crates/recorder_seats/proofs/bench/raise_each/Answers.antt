use Rattle.std.proofs.Common.{◌∙◌, ap, sym}
use Rattle.std.proofs.lemmas.Slice.Zip.{either_empty_from_Zip}
use Rattle.recorder_seats.specs.Bench.{raised_each}
use Rattle.recorder_seats.proofs.BenchLemmas.{no_pairs}
use Rattle.recorder_seats.proofs.bench.raise_each.Goals as goal

pub returns-clause-raised : goal.returns-clause-raised
returns-clause-raised c =
    let l = c.loop-index in
    let ends = either_empty_from_Zip l.index-iterator c.next.new.self c.next.result c.in-None.is c.next.ensures.steps in
    ap (λ raisings. raised_each raisings l.seats.items) (sym (no_pairs l.index-iterator.a.rest.now l.index-iterator.b.rest.now ends)) ∙ l.invariant.raised
