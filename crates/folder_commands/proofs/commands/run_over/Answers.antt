-- What was answered of the disk.
use Rattle.std.proofs.Common.{subst, sym}
use Rattle.tool_core.specs.Archives.{disk_of}
use Rattle.folder_commands.specs.declared.status.Ending.{Ending}
use Rattle.folder_commands.specs.Folders.{RunsOver}
use Rattle.folder_commands.proofs.commands.run_over.Goals as goal

pub returns-in-Ok : goal.returns-in-Ok
returns-in-Ok g c = c.in-Ok.ensures.done

pub returns-in-Err : goal.returns-in-Err
returns-in-Err g c =
    let life = g.D.Disk.life in
    let contents = g.W.Write.contents c.args.writer.now in
    let written = g.W.Write.contents c.script_of.new.writer in
    subst (λ d. RunsOver c.args.checkpoints (life c.args.disk) (g.I.Read.remaining c.args.input) contents written (life d) c.cut_off-disk.result.1.ending) (sym c.cut_off-disk.ensures.disk)
    (subst (λ (e : Ending). RunsOver c.args.checkpoints (life c.args.disk) (g.I.Read.remaining c.args.input) contents written (life (disk_of c.in-Err.fault)) e) (sym c.cut_off-disk.ensures.ending)
    c.in-Err.ensures.early)
