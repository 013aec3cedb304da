use Rattle.std.proofs.Common.{rules, ◌≡◌, ◌≤ℤ◌, ◌<ℤ◌, true, false, to_z, of_z, w64}
use Rattle.std.specs.Prelude.{Err, Ok}
use Rattle.archive_export.specs.declared.frames.ExportFault.TheVariants.{Refused}
use Rattle.archive_export.proofs.EndLemmas.{at_end, at_once, begun, fails_midway, nowhere, past_end, there_at}
use Rattle.archive_export.proofs.frames.export.Goals as goal

pub returns-in_err-target-clause-refused : goal.returns-in_err-target-clause-refused
returns-in_err-target-clause-refused g c =
    let is : c.from_residual.result ≡ Err (Refused c.in_err-target.field-0.0) = search rules in
    rw is (at_once g.D.Disk.life c.args.view.now c.args.recording.now c.args.span.now c.in_err-target.field-0.0 c.in_err-target.ensures)

pub returns-in_err-end-clause-refused : goal.returns-in_err-end-clause-refused
returns-in_err-end-clause-refused g c =
    let life = g.D.Disk.life in
    let old = c.args.view.now in
    let mid = c.is_boundary.new.self in
    let t = c.in_ok-target.target in
    let known = c.in_ok-target.ensures in
    let first : to_z w64 (of_z w64 t.first) ≡ t.first = search rules in
    let told : c.is_boundary.result ≡ Ok true = search rules in
    let start = begun life old mid c.args.recording.now t.first known.0 known.1 (rw told at rw first at c.is_boundary.ensures) in
    let there = there_at life old mid c.args.recording.now c.args.span.now known.0 t known.1 known.2 start.look in
    let is : c.from_residual-in_err-end.result ≡ Err c.in_err-end.field-0.0 = search rules in
    rw is (fails_midway life old mid c.export_frames.new.view c.args.recording.now c.args.span.now known.0 t known.1 known.2 start c.in_err-end.field-0.0 (c.in_err-end.ensures.refused known.0 there))

pub returns-then-end-target-clause-refused : goal.returns-then-end-target-clause-refused
returns-then-end-target-clause-refused g c =
    let life = g.D.Disk.life in
    let old = c.args.view.now in
    let mid = c.is_boundary.new.self in
    let t = c.in_ok-target.target in
    let known = c.in_ok-target.ensures in
    let first : to_z w64 (of_z w64 t.first) ≡ t.first = search rules in
    let told : c.is_boundary.result ≡ Ok true = search rules in
    let start = begun life old mid c.args.recording.now t.first known.0 known.1 (rw told at rw first at c.is_boundary.ensures) in
    let there = there_at life old mid c.args.recording.now c.args.span.now known.0 t known.1 known.2 start.look in
    let past : t.last <ℤ c.in_ok-end.end = search rules in
    past_end life old mid c.export_frames.new.view c.args.recording.now c.args.span.now known.0 t known.1 known.2 start c.in_ok-end.end _ _ (c.in_ok-end.ensures.written known.0 there) past

pub returns-clause-exported : goal.returns-clause-exported
returns-clause-exported g c =
    let life = g.D.Disk.life in
    let old = c.args.view.now in
    let mid = c.is_boundary.new.self in
    let t = c.in_ok-target.target in
    let known = c.in_ok-target.ensures in
    let first : to_z w64 (of_z w64 t.first) ≡ t.first = search rules in
    let told : c.is_boundary.result ≡ Ok true = search rules in
    let start = begun life old mid c.args.recording.now t.first known.0 known.1 (rw told at rw first at c.is_boundary.ensures) in
    let there = there_at life old mid c.args.recording.now c.args.span.now known.0 t known.1 known.2 start.look in
    let within : c.in_ok-end.end ≤ℤ t.last = search rules in
    at_end life old mid c.export_frames.new.view c.args.recording.now c.args.span.now known.0 t known.1 known.2 start c.in_ok-end.end _ _ _ (rw c.file_header.ensures at c.in_ok-write.ensures.ok) (c.in_ok-end.ensures.written known.0 there) c.in_ok-end.ensures.past within

pub returns-then-not-branch-clause-refused : goal.returns-then-not-branch-clause-refused
returns-then-not-branch-clause-refused g c =
    let t = c.in_ok-target.target in
    let known = c.in_ok-target.ensures in
    let first : to_z w64 (of_z w64 t.first) ≡ t.first = search rules in
    let told : c.is_boundary.result ≡ Ok false = search rules in
    nowhere g.D.Disk.life c.args.view.now c.is_boundary.new.self c.args.recording.now t.first c.args.span.now known.0 known.1 known.2.first (rw told at rw first at c.is_boundary.ensures)
