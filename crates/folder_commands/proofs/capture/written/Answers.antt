-- What was written of the watched folder, or was not.
use Rattle.host_disk.specs.ReadFolder.{folder_life}
use Rattle.folder_commands.specs.Left.{left_life}
use Rattle.folder_commands.proofs.ExportLemmas.{capture_done, capture_fails, capture_lost, exported, fails_to_capture, unread}
use Rattle.folder_commands.proofs.LookingLemmas.{inside}
use Rattle.folder_commands.proofs.capture.written.Goals as goal

pub returns-in_default-clause-failed : goal.returns-in_default-clause-failed
returns-in_default-clause-failed g c =
    let old = folder_life c.args.disk.disk in
    capture_fails old c.args.recording.now c.args.span.now (left_life c.closed.result) old _ _ c.closed.ensures c.from.ensures (tt, unread old)

pub returns-in-Err-clause-failed : goal.returns-in-Err-clause-failed
returns-in-Err-clause-failed g c =
    let old = folder_life c.args.disk.disk in
    capture_fails old c.args.recording.now c.args.span.now (left_life c.uncaptured.result.left) _ _ _ c.uncaptured.ensures.left c.uncaptured.ensures.ending
    (fails_to_capture inside old c.args.recording.now c.args.span.now c.in-Err.fault.disk c.in-Err.fault.why c.in-Err.ensures.fault)

pub returns-in-Ok-flush-clause-done : goal.returns-in-Ok-flush-clause-done
returns-in-Ok-flush-clause-done g c =
    capture_done (folder_life c.args.disk.disk) c.args.recording.now c.args.span.now (left_life c.closed-left.result) _ c.closed-left.ensures (exported _ c.in-Ok-export_view.ensures.exported)

pub returns-clause-failed : goal.returns-clause-failed
returns-clause-failed g c =
    let old = folder_life c.args.disk.disk in
    capture_lost old c.args.recording.now c.args.span.now (left_life c.closed-left.result) _
    (capture_done old c.args.recording.now c.args.span.now (left_life c.closed-left.result) _ c.closed-left.ensures (exported _ c.in-Ok-export_view.ensures.exported)) c.unwritten.ensures
