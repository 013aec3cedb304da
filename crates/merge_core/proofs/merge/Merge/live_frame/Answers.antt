use Rattle.std.proofs.Common.{◌≡◌, ◌<◌, ◌^◌, rules, ◌∙◌, ap, sym, refl, [], false, None}
use Rattle.std.specs.Ordering.{nat_cmp}
use Rattle.std.specs.Map.{lookup, remove_entry}
use Rattle.std.specs.BTreeMap.{is_at}
use Rattle.merge_core.specs.declared.merge.Offered.TheVariants.{Held}
use Rattle.merge_core.specs.Merge.{Merging}
use Rattle.merge_core.proofs.HeldLemmas.{all_insert, none_before, remove_inserted}
use Rattle.merge_core.proofs.merge.Merge.live_frame.Goals as goal

pub invariant_of-self-in-Ok : goal.invariant_of-self-in-Ok
invariant_of-self-in-Ok c =
    let low : c.in_ok-position.position < 2 ^ 62 = search rules in
    (c.self.invariant.0, rw (c.in_ok-insert-in-Held.ensures.entries) (all_insert _ _ _ _ low c.self.invariant.1))

-- the frame was put in where none was, and is taken out
as_before : (c : goal.After-let_go) → c.let_go.new.held.entries ≡ c.self.inside.held.entries
as_before c =
    let m : Merging = record { geometry = c.self.inside.geometry; cursor = c.self.inside.cursor; held = c.self.inside.held.entries; live_ends = []; is_merged = false } in
    let held : c.outcome.result ≡ Held = search rules in
    let none : lookup (is_at (nat_cmp c.in_ok-position.position)) c.self.inside.held.entries ≡ None =
    none_before m c.in_ok-position.position (sym (c.outcome.ensures m refl refl) ∙ held)
    in
    c.let_go.ensures.entries ∙ ap (remove_entry (is_at (nat_cmp c.in_ok-position.position))) c.in_ok-insert-in-Held.ensures.entries
    ∙ remove_inserted _ _ _ none

pub invariant_of-self-in-Err : goal.invariant_of-self-in-Err
invariant_of-self-in-Err c = (c.self.invariant.0, rw (as_before c) c.self.invariant.1)

pub returns-in-Err-clause-err : goal.returns-in-Err-clause-err
returns-in-Err-clause-err c =
    let ends : c.keep_end.new.live_ends.keys ≡ c.self.inside.live_ends.keys = c.in-Err.ensures.err in
    rw (as_before c, ends) c.self.view_is
