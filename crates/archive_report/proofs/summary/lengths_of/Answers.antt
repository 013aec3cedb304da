use Rattle.archive_report.proofs.DescribedLemmas.{more_measured}
use Rattle.archive_report.proofs.ReportLemmas.{look_on}
use Rattle.archive_report.proofs.summary.lengths_of.Goals as goal

pub returns-in_err-measured-clause-look : goal.returns-in_err-measured-clause-look
returns-in_err-measured-clause-look g c = look_on g.D.Disk.life c.args.view.now c.loop-file.view c.length_of.new.view c.loop-file.invariant.look c.length_of.ensures.look

pub returns-in_err-push-clause-look : goal.returns-in_err-push-clause-look
returns-in_err-push-clause-look g c = look_on g.D.Disk.life c.args.view.now c.loop-file.view c.length_of.new.view c.loop-file.invariant.look c.length_of.ensures.look

pub loop-file-preserved : goal.loop-file-preserved
loop-file-preserved g c =
    let life = g.D.Disk.life in
    record {
      look = look_on life c.args.view.now c.loop-file.view c.length_of.new.view c.loop-file.invariant.look c.length_of.ensures.look;
      measured = more_measured life c.args.view.now c.loop-file.view c.length_of.new.view c.loop-file.found.items c.push.new.self.items c.args.files.now c.loop-file.file-index _ c.in_ok-measured.measured
          c.loop-file.invariant.look c.length_of.ensures.look c.loop-file-test.true c.loop-file.invariant.measured c.in_ok-measured.ensures.measured c.in_ok-push.ensures.items;
    }
