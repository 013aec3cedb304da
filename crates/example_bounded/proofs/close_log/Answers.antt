use Rattle.std.proofs.Common.{◌≡◌, ◌∙◌, ◌∷◌, [], ℕ, ap, map, refl, rules, subst, sym, true≢false}
use Rattle.call_history.specs.Passes.{HasEach, new_passes}
use Rattle.call_history.specs.Values.{PassView}
use Rattle.archive_lock.specs.declared.history.Made.{Made}
use Rattle.example_bounded.proofs.FollowedLemmas.{closed_durably}
use Rattle.example_bounded.proofs.close_log.Goals as goal

pub returns : goal.returns
returns g c =
    let all : c.push.new.self.items ≡ c.into_parts-pass.result.0 ∷ [] = search rules in
    closed_durably c.what_is_handed_out_is_durable.ensures _ _ _ c.into_parts-pass.result.0 c.push.new.self.items c.in-Ok-close.ensures.closed.0 _ _ c.args.followed.recorder.writer c.into_parts-pass.result.1 c.args.followed.reader _ c.in-Ok-close.ensures.closed.1 all c.into_parts-pass.ensures.writer c.requires.recorder.3 c.into_parts-pass.ensures.settled
    c.meet.ensures.was c.requires.below

-- the one pass that was made is given
pub unreachable-requires : goal.unreachable-requires
unreachable-requires g c =
    let law = c.passes_keep_their_numbers.ensures in
    let new = new_passes g.L.Naming.table 1 in
    let all : c.push.new.self.items ≡ c.into_parts-pass.result.0 ∷ [] = search rules in
    let number : (c.into_parts-pass.result.0).number ≡ 0 = ap (λ (p : PassView Made). p.number) c.into_parts-pass.ensures.pass ∙ c.requires.recorder.1 in
    let numbers : map (λ (p : PassView Made). p.number) c.push.new.self.items ≡ 0 ∷ [] = ap (map (λ (p : PassView Made). p.number)) all ∙ (λ i. number i ∷ []) in
    let each = law.kept 1 new c.push.new.self.items numbers (law.made g.L.Naming.table 1 new refl) in
    true≢false (sym (c.in-Err.ensures.given (subst (λ (count : ℕ). HasEach {E = Made} count c.push.new.self.items) (sym c.requires.passes) each)))
