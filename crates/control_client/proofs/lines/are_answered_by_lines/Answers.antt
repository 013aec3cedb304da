use Rattle.std.proofs.Common.{refl}
use Rattle.std.proofs.lemmas.Bool.{false≢true}
use Rattle.control_client.specs.Lines.{IsAnsweredByLines}
use Rattle.control_client.proofs.LineLemmas.{all_lines, more_lines, one_line}
use Rattle.control_client.proofs.lines.are_answered_by_lines.Goals as goal

pub returns-then-not-is_answered_by_lines : goal.returns-then-not-is_answered_by_lines
returns-then-not-is_answered_by_lines c = (λ never. absurd (false≢true never), λ all. c.if-not-is_answered_by_lines.ensures.1 (one_line IsAnsweredByLines c.args.lines.now c.loop-line.line-index _ c.loop-line-test.true all))

pub returns : goal.returns
returns c = (λ yes. all_lines IsAnsweredByLines c.args.lines.now c.loop-line.line-index c.loop-line-test.false c.loop-line.invariant, λ all. refl)

pub loop-line-preserved : goal.loop-line-preserved
loop-line-preserved c = more_lines IsAnsweredByLines c.args.lines.now c.loop-line.line-index _ c.loop-line-test.true c.loop-line.invariant (c.if-not-is_answered_by_lines.ensures.0 refl)
