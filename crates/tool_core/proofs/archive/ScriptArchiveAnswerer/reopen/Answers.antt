use Rattle.std.proofs.Common.{rules, ◌≡◌, ℤ, ap, subst, to_z, of_z, w64}
use Rattle.disk_core.specs.Life.{Life}
use Rattle.archive_model.specs.declared.reply.Reply.TheVariants.{Reopened}
use Rattle.engine_core.specs.Opened.{HasNotOpened, HasOpened}
use Rattle.engine_core.specs.Seen.{seen}
use Rattle.tool_core.proofs.archive.ScriptArchiveAnswerer.reopen.Goals as goal

pub returns-in-Ok : goal.returns-in-Ok
returns-in-Ok g c =
    let same : to_z w64 (of_z w64 c.in-Ok.recordings) ≡ c.in-Ok.recordings = search rules in
    (c.in-Ok.recordings, ap (λ (n : ℤ). Reopened n) same, subst (λ (l : Life). HasOpened l (seen g.D.Disk.life c.in-Ok.engine) c.in-Ok.recordings) c.into_disk.ensures c.in-Ok.ensures)

pub returns-in-Err : goal.returns-in-Err
returns-in-Err g c = subst (λ (l : Life). HasNotOpened l (g.D.Disk.life c.in-Err.field-0.disk) c.in-Err.field-0.refusal) c.into_disk.ensures c.in-Err.ensures
