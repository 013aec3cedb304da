-- Nothing is open, or the disk goes back.
use Rattle.tool_core.proofs.BeginLemmas.{back_then, closed_then}
use Rattle.tool_core.proofs.archive.ScriptArchive.of_disk.Goals as goal

pub returns-in-Err-clause-begun : goal.returns-in-Err-clause-begun
returns-in-Err-clause-begun g c = closed_then g.D.Disk.life (g.D.Disk.life c.args.disk) c.in-Err.field-0.refusal c.in-Err.field-0.disk c.unless_memory.result c.unless_memory.ensures c.in-Err.ensures.found

pub returns-in-Err-clause-unopened : goal.returns-in-Err-clause-unopened
returns-in-Err-clause-unopened g c = back_then g.D.Disk.life (g.D.Disk.life c.args.disk) c.in-Err.field-0.refusal c.in-Err.field-0.disk c.unless_memory.result c.unless_memory.ensures c.in-Err.ensures.found
