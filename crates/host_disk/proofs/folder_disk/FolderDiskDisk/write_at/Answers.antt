use Rattle.std.proofs.Common.{rules, ◌≡◌, ◌≤◌, ◌∷◌, List, length, subst, sym, arith}
use Rattle.disk_core.specs.Calls.{IsWritten}
use Rattle.disk_core.specs.Life.{Steps}
use Rattle.host_disk.specs.Events.{Event, wrote, write_failed}
use Rattle.host_disk.specs.Replay.{life_at}
use Rattle.host_disk.proofs.ReplayLemmas.{write_steps, failed_write_steps}
use Rattle.host_disk.proofs.folder_disk.FolderDiskDisk.write_at.Goals as goal

pub returns-else-is_err-clause-step : goal.returns-else-is_err-clause-step
returns-else-is_err-clause-step g c =
    let noted : g.F.Folder.events c.write-answer.new.self ≡ wrote c.args.file c.args.at c.args.bytes.now ∷ g.F.Folder.events c.args.self.now.folder = search rules in
    subst (λ (events : List Event). Steps c.args.file (IsWritten c.args.at (length c.args.bytes.now)) (life_at (g.F.Folder.events c.args.self.now.folder) c.args.self.now.faults) (life_at events c.args.self.now.faults)) (sym noted)
    (write_steps c.args.file c.args.at c.args.bytes.now (g.F.Folder.events c.args.self.now.folder) c.args.self.now.faults c.args.self.now.faults (omega arith))

pub returns-then-is_err-clause-step : goal.returns-then-is_err-clause-step
returns-then-is_err-clause-step g c =
    let noted : g.F.Folder.events c.write-answer.new.self ≡ write_failed c.args.file c.args.at (length c.args.bytes.now) ∷ g.F.Folder.events c.args.self.now.folder = search rules in
    let more : c.args.self.now.faults ≤ c.one_more-self.result = omega (arith, c.one_more-self.ensures, c.args.self.now.counted) in
    subst (λ (events : List Event). Steps c.args.file (IsWritten c.args.at (length c.args.bytes.now)) (life_at (g.F.Folder.events c.args.self.now.folder) c.args.self.now.faults) (life_at events c.one_more-self.result)) (sym noted)
    (failed_write_steps c.args.file c.args.at (length c.args.bytes.now) (g.F.Folder.events c.args.self.now.folder) c.args.self.now.faults c.one_more-self.result more)
