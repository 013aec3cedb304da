-- What is seen, and what is verified behind it.
use Rattle.std.proofs.Common.{rules}
use Rattle.archive_commands.specs.Reports.{HasReported, HasReportedFirst, InTurn, InTurnAndOne, ids_asked}
use Rattle.archive_report.specs.declared.verify.Seen.{Seen}
use Rattle.archive_report.specs.Verifying.{desk_seen, seen_verifies}
use Rattle.archive_report.proofs.ReportLemmas.{verified, verified_first}
use Rattle.archive_report.proofs.verify.verify_view.Goals as goal

pub returns-in-Ok-clause-verified : goal.returns-in-Ok-clause-verified
returns-in-Ok-clause-verified g c =
    let seen : Seen _ = record { view = c.in_ok-view.view } in
    let last = c.verify_recordings-outcome.new.archive in
    let told : HasReported (InTurn (seen_verifies g.D.Disk.life)) (ids_asked c.args.asked (desk_seen seen)) seen last (g.W.Write.contents c.args.writer.now) (g.W.Write.contents c.verify_recordings-outcome.new.writer) c.in-Ok.verdict = search rules in
    record {
      seen = c.in_ok-view.view;
      shown = c.in_ok-view.ensures.viewed;
      there = c.in_ok-view.ensures.there;
      last = last.view;
      verified = verified g.D.Disk.life _ seen last _ _ _ told;
      left = search rules;
    }

pub returns-in-Err-clause-fault : goal.returns-in-Err-clause-fault
returns-in-Err-clause-fault g c =
    let seen : Seen _ = record { view = c.in_ok-view.view } in
    let last = c.verify_recordings-outcome.new.archive in
    let told : HasReportedFirst (InTurnAndOne (seen_verifies g.D.Disk.life)) (ids_asked c.args.asked (desk_seen seen)) seen last (g.W.Write.contents c.args.writer.now) (g.W.Write.contents c.verify_recordings-outcome.new.writer) c.in-Err.end = search rules in
    record {
      seen = c.in_ok-view.view;
      shown = c.in_ok-view.ensures.viewed;
      there = c.in_ok-view.ensures.there;
      last = last.view;
      verified = verified_first g.D.Disk.life _ seen last _ _ _ told;
      left = search rules;
    }
