use Rattle.std.proofs.Common.{refl}
use Rattle.archive_view.proofs.LookLemmas.{asked_answers}
use Rattle.archive_view.proofs.view.ArchiveView.length.Goals as goal

pub returns : goal.returns
returns g c = record {
  answers = asked_answers g.D.Disk.life c.args.self.now.disk c.measured.new.disk _ c.measured.result (g.met.D.Disk.reads_may_stay c.args.self.now.disk.disk) c.measured.ensures.quiet c.measured.ensures.bytes c.measured.ensures.refused c.measured.ensures.cause;
  desk = refl;
}
