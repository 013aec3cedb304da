use Rattle.std.proofs.Common.{rules, ◌≡◌}
use Rattle.std.specs.Prelude.{Err}
use Rattle.archive_view.proofs.LookLemmas.{moved_read}
use Rattle.archive_view.proofs.view.ArchiveView.has_moved.Goals as goal

pub returns-in_err-found-clause-answer : goal.returns-in_err-found-clause-answer
returns-in_err-found-clause-answer g c =
    let is : c.from_residual.result ≡ Err c.in_err-found.field-0.0 = search rules in
    rw is c.in_err-found.ensures.refused

pub returns-clause-answer : goal.returns-clause-answer
returns-clause-answer g c =
    moved_read g.D.Disk.life c.args.self.now.disk c.catalogue_of.new.disk c.in_ok-found.found.desk.state c.in_ok-found.found.log c.args.self.now.log c.has_other_entries.result c.has_other_entries.ensures c.in_ok-found.ensures.found
