-- What was answered of the watched disk.
use Rattle.std.proofs.Common.{◌∙◌}
use Rattle.folder_commands.specs.Folders.{ending_in}
use Rattle.folder_commands.specs.Left.{ends_with, leaves}
use Rattle.folder_commands.proofs.FolderLemmas.{begins_watched}
use Rattle.folder_commands.proofs.RunLemmas.{run_ends}
use Rattle.folder_commands.proofs.commands.run.Goals as goal

pub returns : goal.returns
returns g c =
    let begins = begins_watched g.given c.in_ok-disk_within.field-0 c.new-disk.result c.in_ok-disk_within.ensures.begun c.new-disk.ensures in
    run_ends c.args.checkpoints g.given (g.I.Read.remaining c.args.input) (g.W.Write.contents c.args.writer.now) (g.W.Write.contents c.run_over-disk.new.writer)
    (leaves c.leaving.result) _ _ (ending_in c.run_over-disk.result.1) (ends_with c.leaving.result) begins (c.leaving.ensures.left ∙ c.closed.ensures) c.leaving.ensures.ending c.run_over-disk.ensures
