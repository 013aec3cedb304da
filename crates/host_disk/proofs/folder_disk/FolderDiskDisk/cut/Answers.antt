use Rattle.std.proofs.Common.{rules, ◌≡◌, ◌≤◌, ◌∷◌, List, subst, sym, arith}
use Rattle.disk_core.specs.Calls.{IsCut}
use Rattle.disk_core.specs.Life.{Steps}
use Rattle.host_disk.specs.Events.{Event, cut_failed}
use Rattle.host_disk.specs.Replay.{life_at}
use Rattle.host_disk.proofs.ReplayLemmas.{failed_cut_steps}
use Rattle.host_disk.proofs.folder_disk.FolderDiskDisk.cut.Goals as goal

pub returns-then-is_err-clause-step : goal.returns-then-is_err-clause-step
returns-then-is_err-clause-step g c =
    let noted : g.F.Folder.events c.cut-answer.new.self ≡ cut_failed c.args.file c.args.len ∷ g.F.Folder.events c.args.self.now.folder = search rules in
    let more : c.args.self.now.faults ≤ c.one_more-self.result = omega (arith, c.one_more-self.ensures, c.args.self.now.counted) in
    subst (λ (events : List Event). Steps c.args.file (IsCut c.args.len) (life_at (g.F.Folder.events c.args.self.now.folder) c.args.self.now.faults) (life_at events c.one_more-self.result)) (sym noted)
    (failed_cut_steps c.args.file c.args.len (g.F.Folder.events c.args.self.now.folder) c.args.self.now.faults c.one_more-self.result more)
