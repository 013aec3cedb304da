-- Recording after recording is verified, and what is written of it.
use Rattle.std.proofs.Common.{◌≡◌, ◌+◌, Bool, rules, refl, sym, subst, arith, Result}
use Rattle.std.specs.Prelude.{◌&&◌, if◌then◌else◌, Err, IfErr}
use Rattle.tool_core.specs.declared.fault.EarlyEnd.{EarlyEnd}
use Rattle.tool_core.specs.declared.fault.EarlyEnd.TheVariants as ends
use Rattle.archive_commands.specs.declared.reports.Verdict.{Verdict}
use Rattle.archive_commands.specs.declared.reports.Verdict.TheVariants.{Whole, Refused}
use Rattle.archive_commands.specs.Reports.{HasReportedFirst, InTurnAndOne, ids_asked}
use Rattle.archive_commands.proofs.ReportLemmas.{HasCome, at_end, at_fault, at_start, begun, next}
use Rattle.archive_commands.proofs.reports.verify_recordings.Goals as goal

pub loop-id-init : goal.loop-id-init
loop-id-init g c = begun g.A.Verifiable.verifies c.args.archive.now c.as_slice-id-items.result.now (g.W.Write.contents c.args.writer.now)

pub returns-in_err-ids-clause-early : goal.returns-in_err-ids-clause-early
returns-in_err-ids-clause-early g c =
    let failed : c.from_residual.result ≡ Err ends.Memory = search rules in
    subst (λ (r : Result Verdict EarlyEnd). IfErr r (HasReportedFirst (InTurnAndOne g.A.Verifiable.verifies) (ids_asked c.args.asked (g.A.Verifiable.desk_of c.args.archive.now)) c.args.archive.now c.args.archive.now (g.W.Write.contents c.args.writer.now) (g.W.Write.contents c.args.writer.now))) (sym failed)
    (at_start g.A.Verifiable.verifies c.args.archive.now (ids_asked c.args.asked (g.A.Verifiable.desk_of c.args.archive.now)) (g.W.Write.contents c.args.writer.now))

pub returns-in_err-is_verified-clause-early : goal.returns-in_err-is_verified-clause-early
returns-in_err-is_verified-clause-early g c =
    let wanted = ids_asked c.args.asked (g.A.Verifiable.desk_of c.args.archive.now) in
    let are : c.as_slice-id-items.result.now ≡ wanted = search rules in
    let failed : c.from_residual-in_err-is_verified.result ≡ Err c.in_err-is_verified.field-0.0 = search rules in
    let fault = at_fault g.A.Verifiable.verifies c.args.archive.now c.loop-id.archive c.report.new.archive wanted c.as_slice-id-items.result.now c.loop-id.id-index _ (g.W.Write.contents c.args.writer.now) (g.W.Write.contents c.loop-id.writer) (g.W.Write.contents c.report.new.writer) c.loop-id.is_whole c.in_err-is_verified.field-0.0 are c.loop-id-test.true c.loop-id.invariant c.in_err-is_verified.ensures in
    subst (λ (r : Result Verdict EarlyEnd). IfErr r (HasReportedFirst (InTurnAndOne g.A.Verifiable.verifies) wanted c.args.archive.now c.report.new.archive (g.W.Write.contents c.args.writer.now) (g.W.Write.contents c.report.new.writer))) (sym failed) fault

pub loop-id-preserved : goal.loop-id-preserved
loop-id-preserved g c =
    let both : c.if-is_whole.is_whole ≡ (c.loop-id.is_whole && c.in_ok-is_verified.is_verified) = search rules in
    subst (λ (b : Bool). HasCome g.A.Verifiable.verifies c.args.archive.now c.report.new.archive c.as_slice-id-items.result.now (c.loop-id.id-index + 1) (g.W.Write.contents c.args.writer.now) (g.W.Write.contents c.report.new.writer) b) (sym both)
    (next g.A.Verifiable.verifies c.args.archive.now c.loop-id.archive c.report.new.archive c.as_slice-id-items.result.now c.loop-id.id-index _ (g.W.Write.contents c.args.writer.now) (g.W.Write.contents c.loop-id.writer) (g.W.Write.contents c.report.new.writer) c.loop-id.is_whole c.in_ok-is_verified.is_verified c.loop-id-test.true refl c.loop-id.invariant c.in_ok-is_verified.ensures)

pub returns-clause-whole : goal.returns-clause-whole
returns-clause-whole g c =
    let wanted = ids_asked c.args.asked (g.A.Verifiable.desk_of c.args.archive.now) in
    let are : c.as_slice-id-items.result.now ≡ wanted = search rules in
    let judged : c.if-is_whole-2.result ≡ (if c.loop-id.is_whole then Whole else Refused) = search rules in
    let all = c.loop-id-test.false in
    at_end g.A.Verifiable.verifies c.args.archive.now c.loop-id.archive wanted c.as_slice-id-items.result.now c.loop-id.id-index (g.W.Write.contents c.args.writer.now) (g.W.Write.contents c.loop-id.writer) c.loop-id.is_whole c.if-is_whole-2.result are (omega (arith, all)) c.loop-id.invariant judged
