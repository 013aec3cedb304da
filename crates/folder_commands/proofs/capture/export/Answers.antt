-- How the export of the watched folder ends.
use Rattle.std.proofs.Common.{◌≡◌, ◌∙◌, Err, rules}
use Rattle.host_disk.specs.ClosedDisk.{closed_life}
use Rattle.folder_commands.specs.Left.{ends_with, leaves, left_life}
use Rattle.folder_commands.proofs.ExportLemmas.{export_ends, export_fails, export_unmade}
use Rattle.folder_commands.proofs.LookingLemmas.{looks_watched}
use Rattle.folder_commands.proofs.capture.export.Goals as goal

pub returns-in-Err : goal.returns-in-Err
returns-in-Err g c =
    export_unmade g.given c.args.recording.now c.args.span.now (g.W.Write.contents c.args.writer.now) (closed_life c.close.result) c.in-Err.exit.ending (c.close.ensures ∙ c.in_ok-disk.ensures.begun) c.in-Err.ensures

pub returns-in_err-left : goal.returns-in_err-left
returns-in_err-left g c =
    let begins = looks_watched g.given c.in_ok-disk.disk c.new-disk.result c.in_ok-disk.ensures.begun c.new-disk.ensures in
    let is : c.from_residual-in_err-left.result ≡ Err c.in_err-left.field-0.0 = search rules in
    rw is (export_fails g.given c.args.recording.now c.args.span.now (g.W.Write.contents c.args.writer.now) _ (left_life c.in_err-left.field-0.0.left) c.in_err-left.field-0.0.exit.ending begins c.in_err-left.ensures.failed)

pub returns : goal.returns
returns g c =
    let begins = looks_watched g.given c.in_ok-disk.disk c.new-disk.result c.in_ok-disk.ensures.begun c.new-disk.ensures in
    export_ends g.given c.args.recording.now c.args.span.now (g.W.Write.contents c.args.writer.now) (g.W.Write.contents c.exported.new.writer) _ _ (leaves c.leaving.result) c.exported.result (ends_with c.leaving.result)
    begins c.in_ok-left.ensures.done c.exported.ensures c.leaving.ensures.left c.leaving.ensures.ending
