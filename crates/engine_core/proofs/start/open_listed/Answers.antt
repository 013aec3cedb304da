use Rattle.std.proofs.Common.{inr}
use Rattle.engine_core.proofs.calls.TouchLemmas.{still_quiet}
use Rattle.engine_core.proofs.openings.ReopenLemmas.{unlisted}
use Rattle.engine_core.proofs.start.open_listed.Goals as goal

pub returns-in-Err : goal.returns-in-Err
returns-in-Err g c =
    let life = g.D.Disk.life c.args.disk in
    unlisted life life (still_quiet life) c.in-Err.refusal (inr c.in-Err.ensures.refused)
