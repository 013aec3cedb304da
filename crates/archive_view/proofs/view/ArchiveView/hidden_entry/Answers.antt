use Rattle.std.proofs.Common.{refl}
use Rattle.archive_view.proofs.LookLemmas.{asked_answers}
use Rattle.archive_view.proofs.view.ArchiveView.hidden_entry.Goals as goal

pub returns-clause-asked : goal.returns-clause-asked
returns-clause-asked g c = record {
  answers = asked_answers g.D.Disk.life c.args.self.now.disk c.hidden_behind.new.disk _ c.hidden_behind.result (g.met.D.Disk.reads_may_stay c.args.self.now.disk.disk) c.hidden_behind.ensures.quiet c.hidden_behind.ensures.found c.hidden_behind.ensures.refused c.hidden_behind.ensures.cause;
  desk = refl;
}
