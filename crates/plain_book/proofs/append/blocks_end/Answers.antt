use Rattle.std.proofs.Common.{◌≡◌, ℤ, rules, FitsSigned, w64, to_z, of_z, ◌∙◌}
use Rattle.std.proofs.lemmas.Int.{to_z-of_z}
use Rattle.frame_core.specs.Block.{end_position}
use Rattle.plain_book.proofs.AcceptanceLemmas.{blocks_on, blocks_back, blocks_sum}
use Rattle.plain_book.proofs.append.blocks_end.Goals as goal

pub loop-block-preserved : goal.loop-block-preserved
loop-block-preserved c =
    let fits : FitsSigned w64 c.in-Some.end = search rules in
    let at : ℤ = to_z w64 c.loop-block.at-bits in
    let end : ℤ = to_z w64 (of_z w64 c.in-Some.end) in
    let ends : end ≡ end_position c.block-item.result = to_z-of_z w64 c.in-Some.end fits ∙ c.in-Some.ensures.1 in
    let within = c.loop-block-test.true in
    record {
      on = λ all. blocks_on c.args.geometry.now c.args.publication.now at end _ _ c.args.blocks.now within c.block-item.is ends (c.loop-block.invariant.on all);
      back = λ rest. c.loop-block.invariant.back
          (blocks_back c.args.geometry.now c.args.publication.now at end _ _ c.args.blocks.now within c.block-item.is ends c.in-Some.ensures.0 c.if-not-begins_at.ensures rest);
      sum = blocks_sum at end _ _ _ c.args.blocks.now within c.block-item.is ends c.if-not-begins_at.ensures c.loop-block.invariant.sum;
    }
