use Rattle.std.proofs.lemmas.Result.{IfOk-weaker, on_ok_weaker}
use Rattle.engine_core.proofs.Words.{BankB}
use Rattle.disk_core.specs.Life.{bytes_now}
use Rattle.catalogue_log.proofs.CallerLemmas.{gate_closed}
use Rattle.engine_core.proofs.openings.OpeningLemmas.{new_sound, only_fault}
use Rattle.engine_core.proofs.opening.create.Goals as goal

pub returns-clause-sound : goal.returns-clause-sound
returns-clause-sound g c = IfOk-weaker c.create.result _ _ (λ log rests. new_sound (g.D.Disk.life c.create.new.disk).now _ rests) c.create.ensures.at_rest

pub returns-clause-refused : goal.returns-clause-refused
returns-clause-refused g c = only_fault c.create.result (g.D.Disk.life c.args.disk.now) (g.D.Disk.life c.create.new.disk) c.args.history_limit c.requires.some c.requires.most c.create.ensures.range c.create.ensures.refusal

pub returns-clause-spare : goal.returns-clause-spare
returns-clause-spare g c =
    on_ok_weaker c.create.result (gate_closed (g.D.Disk.life c.create.new.disk).now BankB (bytes_now (g.D.Disk.life c.args.disk.now) BankB)) c.create.ensures.other_bank
