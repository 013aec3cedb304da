-- How the server ended.
use Rattle.std.proofs.Common.{subst, sym}
use Rattle.tool_core.specs.Archives.{disk_of}
use Rattle.folder_commands.specs.declared.status.Ending.{Ending}
use Rattle.folder_commands.specs.Serving.{ServesOver}
use Rattle.folder_commands.proofs.serving.serve_disk.Goals as goal

pub returns-in-Err : goal.returns-in-Err
returns-in-Err g c =
    let life = g.D.Disk.life in
    subst (λ d. ServesOver c.args.options.now.is_strict (life c.args.disk) (life d) c.cut_off-disk.result.1.ending) (sym c.cut_off-disk.ensures.disk)
    (subst (λ (e : Ending). ServesOver c.args.options.now.is_strict (life c.args.disk) (life (disk_of c.in-Err.fault)) e) (sym c.cut_off-disk.ensures.ending) c.in-Err.ensures.early)
