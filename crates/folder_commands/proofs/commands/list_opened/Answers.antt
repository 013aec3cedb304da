-- What the archive of the watched disk answered.
use Rattle.folder_commands.specs.Left.{left_life}
use Rattle.folder_commands.proofs.FolderLemmas.{list_done, list_stopped}
use Rattle.folder_commands.proofs.commands.list_opened.Goals as goal

pub returns-in-Ok : goal.returns-in-Ok
returns-in-Ok g c =
    let contents = g.W.Write.contents c.args.writer.now in
    let written = g.W.Write.contents c.list_archive.new.writer in
    list_done g.given contents written (left_life c.closed.result) _ c.closed.ensures _ c.in_ok-disk.ensures.begun c.in-Ok.ensures.listed

pub returns-in-Err : goal.returns-in-Err
returns-in-Err g c =
    let contents = g.W.Write.contents c.args.writer.now in
    let written = g.W.Write.contents c.list_archive.new.writer in
    list_stopped g.given contents written (left_life c.stopped.result.left) _ c.stopped.ensures.left _ c.in_ok-disk.ensures.begun c.in-Err.fault.why c.stopped.result.exit.ending c.stopped.ensures.ending c.in-Err.ensures.fault
