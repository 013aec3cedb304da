use Rattle.std.proofs.Common.{refl}
use Rattle.std.proofs.lemmas.Bool.{false≢true}
use Rattle.control_client.specs.Lines.{HasNoEnd}
use Rattle.control_client.proofs.LineLemmas.{all_lines, one_line}
use Rattle.control_client.proofs.lines.are_lines.Goals as goal

pub returns-then-not-is_line : goal.returns-then-not-is_line
returns-then-not-is_line c = (λ never. absurd (false≢true never), λ all. c.if-not-is_line.ensures.1 (one_line HasNoEnd c.args.lines.now c.loop-line.line-index _ c.loop-line-test.true all))

pub returns : goal.returns
returns c = (λ yes. all_lines HasNoEnd c.args.lines.now c.loop-line.line-index c.loop-line-test.false c.loop-line.invariant, λ all. refl)
