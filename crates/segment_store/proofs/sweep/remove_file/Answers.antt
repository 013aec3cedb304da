use Rattle.disk_core.specs.Calls.{IsRemoved, IsSynced}
use Rattle.segment_store.proofs.SweepLemmas.{touched_once, touched_twice}
use Rattle.segment_store.proofs.sweep.remove_file.Goals as goal

pub returns-in_err-remove-clause-bounded : goal.returns-in_err-remove-clause-bounded
returns-in_err-remove-clause-bounded g c = touched_once c.args.file IsRemoved (g.D.Disk.life c.args.disk.now) (g.D.Disk.life c.remove.new.self) c.remove.ensures.step

pub returns-in_err-sync-clause-bounded : goal.returns-in_err-sync-clause-bounded
returns-in_err-sync-clause-bounded g c =
    touched_twice c.args.file IsSynced (g.D.Disk.life c.args.disk.now) (g.D.Disk.life c.remove.new.self) (g.D.Disk.life c.sync.new.self)
    (touched_once c.args.file IsRemoved (g.D.Disk.life c.args.disk.now) (g.D.Disk.life c.remove.new.self) c.remove.ensures.step) c.sync.ensures.step

pub returns-clause-bounded : goal.returns-clause-bounded
returns-clause-bounded g c =
    touched_twice c.args.file IsSynced (g.D.Disk.life c.args.disk.now) (g.D.Disk.life c.remove.new.self) (g.D.Disk.life c.sync.new.self)
    (touched_once c.args.file IsRemoved (g.D.Disk.life c.args.disk.now) (g.D.Disk.life c.remove.new.self) c.remove.ensures.step) c.sync.ensures.step
