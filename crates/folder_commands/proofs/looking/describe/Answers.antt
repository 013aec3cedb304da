-- What was seen of the watched folder.
use Rattle.folder_commands.specs.Left.{left_life}
use Rattle.folder_commands.proofs.LookingLemmas.{describe_done, describe_stopped, inside, looks_watched}
use Rattle.folder_commands.proofs.ViewLemmas.{view_undescribed}
use Rattle.folder_commands.proofs.looking.describe.Goals as goal

pub returns-after-still_hidden_place : goal.returns-after-still_hidden_place
returns-after-still_hidden_place g c =
    let begins = looks_watched g.given c.in_ok-folder_of.field-0 c.new-disk.result c.in_ok-folder_of.ensures.begun c.new-disk.ensures in
    let contents = g.W.Write.contents c.args.writer.now in
    let written = g.W.Write.contents c.describe_archive.new.writer in
    describe_done g.given contents written (left_life c.closed.result) _ c.closed.ensures _ begins c.args.recording c.args.json
    c.form_of-form.result c.form_of-form.ensures c.in-Ok.ensures.described

pub returns-in-Err : goal.returns-in-Err
returns-in-Err g c =
    let begins = looks_watched g.given c.in_ok-folder_of.field-0 c.new-disk.result c.in_ok-folder_of.ensures.begun c.new-disk.ensures in
    let contents = g.W.Write.contents c.args.writer.now in
    let written = g.W.Write.contents c.describe_archive.new.writer in
    describe_stopped g.given contents written (left_life c.stopped.result.left) _ c.stopped.ensures.left _ begins c.args.recording c.args.json c.in-Err.fault.why c.stopped.result.exit.ending c.stopped.ensures.ending
    (view_undescribed inside c.args.recording _ contents written c.in-Err.fault.disk c.in-Err.fault.why c.in-Err.ensures.fault)
