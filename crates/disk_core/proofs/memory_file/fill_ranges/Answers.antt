use Rattle.disk_core.proofs.FillLemmas.{filled_more}
use Rattle.disk_core.proofs.memory_file.fill_ranges.Goals as goal

pub loop-at-preserved : goal.loop-at-preserved
loop-at-preserved c =
    filled_more c.args.ranges.now c.loop-at.at-index c.args.byte c.args.bytes.now c.loop-at.bytes c.fill_range.new.bytes c.loop-at-test.true
    c.loop-at.invariant c.loop-at.auto.bytes c.fill_range.ensures.inside c.fill_range.ensures.outside
