use Rattle.disk_core.specs.DiskImage.{reads}
use Rattle.disk_core.specs.Memory.{after, nothing}
use Rattle.disk_core.proofs.ChoiceLemmas.{chosen_may_leave}
use Rattle.disk_core.proofs.LogLemmas.{no_past}
use Rattle.disk_core.proofs.memory.MemoryDisk.crash.Goals as goal

pub returns-clause-past : goal.returns-clause-past
returns-clause-past c = no_past c.in_ok-change_log.change_log.log.items c.in_ok-change_log.change_log.born c.in_ok-change_log.ensures.born

pub returns-clause-may_leave : goal.returns-clause-may_leave
returns-clause-may_leave c =
    let change_log = c.args.self.now.change_log in
    chosen_may_leave change_log.log.items c.args.choice.now (reads (after nothing c.in_ok-change_log.change_log.log.items)) change_log.well c.in_ok-change_log.ensures.left.chosen
