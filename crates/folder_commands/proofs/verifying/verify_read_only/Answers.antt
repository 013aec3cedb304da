-- What was seen of the watched folder, behind the listing of its files.
use Rattle.std.proofs.Common.{subst}
use Rattle.disk_core.specs.Life.{IsQuiet}
use Rattle.host_disk.specs.ReadFolder.{folder_life}
use Rattle.folder_commands.specs.Left.{ends_with, leaves, left_life}
use Rattle.folder_commands.proofs.LookingLemmas.{inside, look_unverified, look_verified}
use Rattle.folder_commands.proofs.ViewLemmas.{view_unverified, view_verified}
use Rattle.folder_commands.proofs.verifying.verify_read_only.Goals as goal

pub returns-in-Ok : goal.returns-in-Ok
returns-in-Ok g c =
    let quiet = subst (λ l. IsQuiet l (folder_life c.watched-folder.result.disk)) c.in_ok-folder_of.ensures.begun c.watched-folder.ensures in
    let contents = g.W.Write.contents c.args.writer.now in
    let written = g.W.Write.contents c.verify_view.new.writer in
    look_verified g.given contents written (leaves c.found.result) _ c.found.ensures.left _ quiet c.args.recording c.in-Ok.finding.verdict (ends_with c.found.result) c.found.ensures.ending
    (view_verified _ c.in-Ok.ensures.verified)

pub returns-in-Err : goal.returns-in-Err
returns-in-Err g c =
    let quiet = subst (λ l. IsQuiet l (folder_life c.watched-folder.result.disk)) c.in_ok-folder_of.ensures.begun c.watched-folder.ensures in
    let contents = g.W.Write.contents c.args.writer.now in
    let written = g.W.Write.contents c.verify_view.new.writer in
    look_unverified g.given contents written (left_life c.stopped.result.left) _ c.stopped.ensures.left _ quiet c.args.recording c.in-Err.fault.why c.stopped.result.exit.ending c.stopped.ensures.ending
    (view_unverified inside c.args.recording _ contents written c.in-Err.fault.disk c.in-Err.fault.why c.in-Err.ensures.fault)
