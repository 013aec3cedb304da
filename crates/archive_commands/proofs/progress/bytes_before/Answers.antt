-- The files are added up to the one before this.
use Rattle.std.proofs.Common.{arith, sym, ◌∙◌}
use Rattle.archive_commands.proofs.SumLemmas.{before_all, before_here}
use Rattle.archive_commands.proofs.progress.bytes_before.Goals as goal

pub returns-then-is_eq : goal.returns-then-is_eq
returns-then-is_eq c =
    before_here c.args.file c.args.files.now c.loop-listed.listed-index c.loop-listed.total _ c.compare.result c.loop-listed-test.true c.loop-listed.invariant.fits c.compare.ensures (sym c.is_eq.ensures ∙ c.if-is_eq.true) c.loop-listed.invariant.so_far

pub returns : goal.returns
returns c =
    let past = c.loop-listed-test.false in
    before_all c.args.file c.args.files.now c.loop-listed.listed-index c.loop-listed.total (omega (arith, past)) c.loop-listed.invariant.fits c.loop-listed.invariant.so_far
