use Rattle.std.proofs.Common.{◌∙◌, ap}
use Rattle.archive_view.specs.ReadOnly.{disk_of}
use Rattle.archive_report.proofs.DescribedLemmas.{described_on, undescribed_on}
use Rattle.archive_report.proofs.describe.describe_archive.Goals as goal

pub returns-in-Ok-clause-described : goal.returns-in-Ok-clause-described
returns-in-Ok-clause-described g c =
    let life = g.D.Disk.life in
    described_on life c.args.asked (life c.args.disk) (life c.into_disk-disk.result) c.in_ok-view.view c.described-outcome.new.view c.args.form _ _ c.in_ok-view.ensures.viewed c.in_ok-view.ensures.there c.described-outcome.ensures.look c.in-Ok.ensures.told
    (ap life (c.into_disk-disk.ensures ∙ ap disk_of c.into_disk.ensures))

pub returns-in-Err-clause-fault : goal.returns-in-Err-clause-fault
returns-in-Err-clause-fault g c =
    let life = g.D.Disk.life in
    undescribed_on life c.args.asked (life c.args.disk) c.into_disk-disk.result c.in_ok-view.view c.described-outcome.new.view c.in-Err.why _ _ c.in_ok-view.ensures.viewed c.described-outcome.ensures.look c.in-Err.ensures.fault
    (ap life (c.into_disk-disk.ensures ∙ ap disk_of c.into_disk.ensures))
