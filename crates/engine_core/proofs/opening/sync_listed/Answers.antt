use Rattle.engine_core.proofs.openings.OpeningLemmas.{one_call, one_synced}
use Rattle.engine_core.proofs.opening.sync_listed.Goals as goal

pub returns-in_err-sync-in-Segment-clause-only : goal.returns-in_err-sync-in-Segment-clause-only
returns-in_err-sync-in-Segment-clause-only g c =
    one_synced c.args.file (g.D.Disk.life c.args.disk.now) (g.D.Disk.life c.sync.new.self) (g.met.D.Disk.reads_may_stay c.args.disk.now) c.sync.ensures.step

pub returns-in_ok-sync-in-Segment-clause-only : goal.returns-in_ok-sync-in-Segment-clause-only
returns-in_ok-sync-in-Segment-clause-only g c =
    one_synced c.args.file (g.D.Disk.life c.args.disk.now) (g.D.Disk.life c.sync.new.self) (g.met.D.Disk.reads_may_stay c.args.disk.now) c.sync.ensures.step

pub returns-in_err-sync-in-Segment-clause-calls : goal.returns-in_err-sync-in-Segment-clause-calls
returns-in_err-sync-in-Segment-clause-calls g c = one_call c.args.file (g.D.Disk.life c.args.disk.now) (g.D.Disk.life c.sync.new.self) c.sync.ensures.step

pub returns-in_ok-sync-in-Segment-clause-calls : goal.returns-in_ok-sync-in-Segment-clause-calls
returns-in_ok-sync-in-Segment-clause-calls g c = one_call c.args.file (g.D.Disk.life c.args.disk.now) (g.D.Disk.life c.sync.new.self) c.sync.ensures.step
