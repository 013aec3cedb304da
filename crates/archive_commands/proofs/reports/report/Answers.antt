-- What is written of the answer, and whether it is a reply.
use Rattle.std.proofs.Common.{◌≡◌, Bool, Result, Err, rules, subst, sym}
use Rattle.tool_core.specs.declared.fault.EarlyEnd.{EarlyEnd}
use Rattle.archive_commands.specs.Reports.{HasReportedOne}
use Rattle.archive_commands.proofs.ReportLemmas.{told_one, untold_one}
use Rattle.archive_commands.proofs.reports.report.Goals as goal

pub returns-in_err-write_outcome : goal.returns-in_err-write_outcome
returns-in_err-write_outcome g c =
    let failed : c.from_residual.result ≡ Err c.in_err-write_outcome.field-0.0 = search rules in
    subst (λ (r : Result Bool EarlyEnd). HasReportedOne g.A.Verifiable.verifies c.args.archive.now c.verify-outcome.new.self c.args.recording.now (g.W.Write.contents c.args.writer.now) (g.W.Write.contents c.write_outcome.new.writer) r) (sym failed)
    (untold_one g.A.Verifiable.verifies c.args.archive.now c.verify-outcome.new.self c.args.recording.now _ _ c.verify-outcome.result c.in_err-write_outcome.field-0.0 c.verify-outcome.ensures c.in_err-write_outcome.ensures.err)

pub returns : goal.returns
returns g c =
    told_one g.A.Verifiable.verifies c.args.archive.now c.verify-outcome.new.self c.args.recording.now _ _ c.verify-outcome.result c.verify-outcome.ensures c.in_ok-write_outcome.ensures.ok c.is_ok.result c.is_ok.ensures.value
