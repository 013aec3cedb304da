use Rattle.std.proofs.Common.{rules, ◌≡◌, ◌∙◌, inl, inr, refl, ap, to_z, of_z, w64, ℤ, ◌+◌, ◌/◌, ◌*◌, arith}
use Rattle.replay_core.specs.declared.cache.PageKey.{PageKey}
use Rattle.replay_core.proofs.PageLemmas.{part_is}
use Rattle.replay_core.proofs.gathering.keep_part.Goals as goal

pub returns-then-start-window-clause-kept : goal.returns-then-start-window-clause-kept
returns-then-start-window-clause-kept c key page there =
    let recording : to_z w64 (of_z w64 c.args.source.now.layout.recording) ≡ c.args.source.now.layout.recording = search rules in
    let as_key : ℤ → PageKey = λ (r : ℤ). record { recording = r; generation = c.args.source.now.generation; number = c.args.position / 4096 + c.args.index } in
    elim (c.keep.ensures.kept key page there) [
      | inl was ↦ inl was
      | inr is ↦ inr (record {
        index = c.args.index;
        key_is = is.0 ∙ ap as_key recording;
        begins = omega (arith, c.if-start-window.true);
        are = is.1 ∙ part_is c.args.window.now (c.args.index * 4096) c.min-end.result c.args.index refl c.if-start-window.true c.min-end.ensures;
      })
    ]
