use Rattle.archive_report.proofs.DescribedLemmas.{files_shown}
use Rattle.archive_report.proofs.ReportLemmas.{asked_look, look_on}
use Rattle.archive_report.proofs.summary.Summary.of.Goals as goal

pub returns-in_err-names-clause-look : goal.returns-in_err-names-clause-look
returns-in_err-names-clause-look g c =
    let life = g.D.Disk.life in
    look_on life c.args.view.now c.stale_files.new.self c.files.new.self (asked_look life _ c.args.view.now c.stale_files.new.self c.stale_files.result c.stale_files.ensures)
    (asked_look life _ c.stale_files.new.self c.files.new.self c.files.result c.files.ensures)

pub returns-in_err-files-clause-look : goal.returns-in_err-files-clause-look
returns-in_err-files-clause-look g c =
    let life = g.D.Disk.life in
    look_on life c.args.view.now c.files.new.self c.lengths_of.new.view
    (look_on life c.args.view.now c.stale_files.new.self c.files.new.self (asked_look life _ c.args.view.now c.stale_files.new.self c.stale_files.result c.stale_files.ensures)
    (asked_look life _ c.stale_files.new.self c.files.new.self c.files.result c.files.ensures))
    c.lengths_of.ensures.look

pub returns-in_err-unknown-clause-look : goal.returns-in_err-unknown-clause-look
returns-in_err-unknown-clause-look g c =
    let life = g.D.Disk.life in
    look_on life c.args.view.now c.files.new.self c.lengths_of.new.view
    (look_on life c.args.view.now c.stale_files.new.self c.files.new.self (asked_look life _ c.args.view.now c.stale_files.new.self c.stale_files.result c.stale_files.ensures)
    (asked_look life _ c.stale_files.new.self c.files.new.self c.files.result c.files.ensures))
    c.lengths_of.ensures.look

pub returns-clause-look : goal.returns-clause-look
returns-clause-look g c =
    let life = g.D.Disk.life in
    look_on life c.args.view.now c.files.new.self c.lengths_of.new.view
    (look_on life c.args.view.now c.stale_files.new.self c.files.new.self (asked_look life _ c.args.view.now c.stale_files.new.self c.stale_files.result c.stale_files.ensures)
    (asked_look life _ c.stale_files.new.self c.files.new.self c.files.result c.files.ensures))
    c.lengths_of.ensures.look

pub returns-clause-shown : goal.returns-clause-shown
returns-clause-shown g c =
    let life = g.D.Disk.life in
    let one = asked_look life _ c.args.view.now c.stale_files.new.self c.stale_files.result c.stale_files.ensures in
    let two = asked_look life _ c.stale_files.new.self c.files.new.self c.files.result c.files.ensures in
    files_shown life c.args.view.now c.stale_files.new.self c.files.new.self c.lengths_of.new.view c.in_ok-names.names.items c.in_ok-files.files.items c.in_ok-stale.stale.items one two c.lengths_of.ensures.look
    c.in_ok-stale.ensures.answers.seen c.in_ok-names.ensures.answers.seen (rw c.as_slice.ensures.value at c.in_ok-files.ensures.measured)
