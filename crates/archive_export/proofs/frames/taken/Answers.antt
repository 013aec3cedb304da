use Rattle.std.proofs.Common.{rules, ◌≡◌, FitsSigned, w64}
use Rattle.std.proofs.lemmas.Int.{to_z-of_z}
use Rattle.std.specs.Prelude.{Err}
use Rattle.archive_export.proofs.ExportLemmas.{frame_refused, frame_taken, frame_unfit}
use Rattle.archive_export.proofs.frames.taken.Goals as goal

pub returns-in_err-frame-clause-refused : goal.returns-in_err-frame-clause-refused
returns-in_err-frame-clause-refused g c =
    let is : c.from_residual.result ≡ Err c.in_err-frame.field-0.0 = search rules in
    let fits : FitsSigned w64 c.args.at.now = search rules in
    let shown = rw c.in_err-frame.was at simp to_z-of_z at c.frame_at.ensures in
    rw is (λ known there. frame_refused g.D.Disk.life c.args.view.now c.frame_at.new.self c.args.recording.now c.args.at.now c.args.target known c.in_err-frame.field-0.0 shown there c.requires.due)

pub returns-then-not-fits_datagram-clause-refused : goal.returns-then-not-fits_datagram-clause-refused
returns-then-not-fits_datagram-clause-refused g c known there =
    let fits : FitsSigned w64 c.args.at.now = search rules in
    let recording_fits : FitsSigned w64 c.args.target.recording = search rules in
    let shown = rw c.in_ok-frame.was at simp to_z-of_z at c.frame_at.ensures in
    simp to_z-of_z (frame_unfit g.D.Disk.life c.args.view.now c.frame_at.new.self c.args.recording.now c.args.at.now c.args.target known c.in_ok-frame.frame shown there (λ fits. let it = c.fits_datagram.ensures.1 fits in search rules))

pub returns-clause-taken : goal.returns-clause-taken
returns-clause-taken g c known there =
    let fits : FitsSigned w64 c.args.at.now = search rules in
    let shown = rw c.in_ok-frame.was at simp to_z-of_z at c.frame_at.ensures in
    frame_taken g.D.Disk.life c.args.view.now c.frame_at.new.self c.args.recording.now c.args.at.now c.args.target known c.in_ok-frame.frame shown there
