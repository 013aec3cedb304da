-- What the archive of the watched disk answered, behind the listing of its files.
use Rattle.std.proofs.Common.{subst}
use Rattle.disk_core.specs.Life.{IsQuiet}
use Rattle.host_disk.specs.HostDisk.{host_life}
use Rattle.folder_commands.specs.Left.{ends_with, leaves, left_life}
use Rattle.folder_commands.proofs.FolderLemmas.{verify_done, verify_stopped}
use Rattle.folder_commands.proofs.verifying.verify_opened.Goals as goal

pub returns-in-Ok : goal.returns-in-Ok
returns-in-Ok g c =
    let quiet = subst (λ l. IsQuiet l (host_life c.watched-disk.result.disk)) c.in_ok-disk.ensures.begun c.watched-disk.ensures in
    let contents = g.W.Write.contents c.args.writer.now in
    let written = g.W.Write.contents c.verify_archive.new.writer in
    verify_done g.given contents written (leaves c.found.result) _ c.found.ensures.left _ quiet c.args.recording c.in-Ok.verdict (ends_with c.found.result) c.found.ensures.ending c.in-Ok.ensures.verified

pub returns-in-Err : goal.returns-in-Err
returns-in-Err g c =
    let quiet = subst (λ l. IsQuiet l (host_life c.watched-disk.result.disk)) c.in_ok-disk.ensures.begun c.watched-disk.ensures in
    let contents = g.W.Write.contents c.args.writer.now in
    let written = g.W.Write.contents c.verify_archive.new.writer in
    verify_stopped g.given contents written (left_life c.stopped.result.left) _ c.stopped.ensures.left _ quiet c.args.recording c.in-Err.fault.why c.stopped.result.exit.ending c.stopped.ensures.ending c.in-Err.ensures.fault
