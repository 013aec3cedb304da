-- The files are added up to the last.
use Rattle.std.proofs.Common.{arith}
use Rattle.archive_commands.proofs.SumLemmas.{in_all}
use Rattle.archive_commands.proofs.progress.bytes_in.Goals as goal

pub returns : goal.returns
returns c =
    let past = c.loop-listed-test.false in
    in_all c.args.files.now c.loop-listed.listed-index c.loop-listed.total (omega (arith, past)) c.loop-listed.invariant.fits c.loop-listed.invariant.so_far
