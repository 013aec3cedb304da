use Rattle.std.proofs.Common.{refl}
use Rattle.archive_view.proofs.LookLemmas.{asked_answers}
use Rattle.archive_view.proofs.view.ArchiveView.files.Goals as goal

pub returns : goal.returns
returns g c = record {
  answers = asked_answers g.D.Disk.life c.args.self.now.disk c.listed.new.disk _ c.listed.result (g.met.D.Disk.reads_may_stay c.args.self.now.disk.disk) c.listed.ensures.quiet c.listed.ensures.files c.listed.ensures.refused c.listed.ensures.cause;
  desk = refl;
}
