use Rattle.std.proofs.Common.{ℕ, refl, subst, sym, true≢false}
use Rattle.call_history.specs.Passes.{HasEach, new_passes}
use Rattle.archive_lock.specs.declared.history.Made.{Made}
use Rattle.example_follower.proofs.close.Goals as goal

-- each pass that was made is given
pub unreachable-requires : goal.unreachable-requires
unreachable-requires g c =
    let law = c.passes_keep_their_numbers.ensures in
    let new = new_passes g.A.Naming.table 3 in
    let each = law.kept 3 new c.args.passes.items c.requires.numbers (law.made g.A.Naming.table 3 new refl) in
    true≢false (sym (c.in-Err.ensures.given (subst (λ (count : ℕ). HasEach {E = Made} count c.args.passes.items) (sym c.requires.counts) each)))
