-- What the disk of the folder answered.
use Rattle.std.proofs.Common.{Some, ap}
use Rattle.host_disk.specs.ClosedDisk.{closed_life}
use Rattle.folder_commands.proofs.FolderLemmas.{create_done, create_stopped}
use Rattle.folder_commands.proofs.commands.create.Goals as goal

pub returns-in-Ok : goal.returns-in-Ok
returns-in-Ok g c =
    create_done g.given (g.W.Write.contents c.args.writer.now) (g.W.Write.contents c.create_archive.new.writer) (Some (closed_life c.close.result)) _ (ap Some c.close.ensures) _
    c.in_ok-disk_of.ensures.begun c.args.history c.in-Ok.ensures.created.0 c.in-Ok.ensures.created.1

pub returns-in-Err-create_archive : goal.returns-in-Err-create_archive
returns-in-Err-create_archive g c =
    create_stopped g.given (g.W.Write.contents c.args.writer.now) (g.W.Write.contents c.create_archive.new.writer) (Some (closed_life c.close-in-Err-create_archive.result)) _ (ap Some c.close-in-Err-create_archive.ensures) _
    c.in_ok-disk_of.ensures.begun c.args.history c.in-Err-create_archive.field-0.why _ c.unmade.ensures c.in-Err-create_archive.ensures.fault
