-- What the archive of the watched disk answered.
use Rattle.folder_commands.specs.Left.{left_life}
use Rattle.folder_commands.proofs.FolderLemmas.{compact_done, compact_stopped}
use Rattle.folder_commands.proofs.commands.compact.Goals as goal

pub returns-in-Ok : goal.returns-in-Ok
returns-in-Ok g c =
    let contents = g.W.Write.contents c.args.writer.now in
    let written = g.W.Write.contents c.compact_archive.new.writer in
    compact_done g.given contents written (left_life c.closed.result) _ c.closed.ensures _ c.in_ok-disk.ensures.begun c.in-Ok.ensures.compacted.0 c.in-Ok.ensures.compacted.1

pub returns-in-Err : goal.returns-in-Err
returns-in-Err g c =
    let contents = g.W.Write.contents c.args.writer.now in
    let written = g.W.Write.contents c.compact_archive.new.writer in
    compact_stopped g.given contents written (left_life c.uncompacted.result.left) _ c.uncompacted.ensures.left _ c.in_ok-disk.ensures.begun c.in-Err.fault.why c.uncompacted.result.exit.ending c.uncompacted.ensures.ending c.in-Err.ensures.fault
