use Rattle.std.proofs.Common.{refl}
use Rattle.archive_view.proofs.LookLemmas.{asked_answers}
use Rattle.archive_view.proofs.view.ArchiveView.stale_files.Goals as goal

pub returns : goal.returns
returns g c = record {
  answers = asked_answers g.D.Disk.life c.args.self.now.disk c.stale_of.new.disk _ c.stale_of.result (g.met.D.Disk.reads_may_stay c.args.self.now.disk.disk) c.stale_of.ensures.quiet c.stale_of.ensures.files c.stale_of.ensures.refused c.stale_of.ensures.cause;
  desk = refl;
}
