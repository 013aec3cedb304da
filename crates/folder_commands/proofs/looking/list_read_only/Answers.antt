-- What was seen of the watched folder.
use Rattle.folder_commands.specs.Left.{left_life}
use Rattle.folder_commands.proofs.LookingLemmas.{inside, look_listed, look_unlisted, looks_watched}
use Rattle.folder_commands.proofs.ViewLemmas.{view_unlisted}
use Rattle.folder_commands.proofs.looking.list_read_only.Goals as goal

pub returns-in-Ok : goal.returns-in-Ok
returns-in-Ok g c =
    let begins = looks_watched g.given c.in_ok-folder_of.field-0 c.new-disk.result c.in_ok-folder_of.ensures.begun c.new-disk.ensures in
    look_listed g.given (g.W.Write.contents c.args.writer.now) (g.W.Write.contents c.list_view.new.writer) (left_life c.closed.result) _ c.closed.ensures _ begins c.in-Ok.ensures.listed

pub returns-in-Err : goal.returns-in-Err
returns-in-Err g c =
    let begins = looks_watched g.given c.in_ok-folder_of.field-0 c.new-disk.result c.in_ok-folder_of.ensures.begun c.new-disk.ensures in
    let contents = g.W.Write.contents c.args.writer.now in
    let written = g.W.Write.contents c.list_view.new.writer in
    look_unlisted g.given contents written (left_life c.stopped.result.left) _ c.stopped.ensures.left _ begins c.in-Err.fault.why c.stopped.result.exit.ending c.stopped.ensures.ending
    (view_unlisted inside _ contents written c.in-Err.fault.disk c.in-Err.fault.why c.in-Err.ensures.fault)
