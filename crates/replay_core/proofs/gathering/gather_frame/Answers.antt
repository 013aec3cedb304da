use Rattle.std.proofs.Common.{subst, ℕ, List, IsTrue}
use Rattle.replay_core.specs.Gathering.{Gathers}
use Rattle.replay_core.specs.Pages.{kept}
use Rattle.replay_core.proofs.PageLemmas.{gathers_after}
use Rattle.replay_core.proofs.gathering.gather_frame.Goals as goal

pub returns-in_err-gather-clause-gathers : goal.returns-in_err-gather-clause-gathers
returns-in_err-gather-clause-gathers g c files now =
    subst (λ (bytes : List ℕ). Gathers (IsTrue (g.D.Disk.life c.gather.new.disk).obeys) files c.args.source.now c.args.from (kept c.args.pages.now) (kept c.gather.new.pages) bytes c.gather.new.pages.gathered.items)
    c.clear.ensures.items (c.gather.ensures.gathers files now)

pub returns-then-not-branch-clause-gathers : goal.returns-then-not-branch-clause-gathers
returns-then-not-branch-clause-gathers g c files now =
    subst (λ (bytes : List ℕ). Gathers (IsTrue (g.D.Disk.life c.gather.new.disk).obeys) files c.args.source.now c.args.from (kept c.args.pages.now) (kept c.gather.new.pages) bytes c.gather.new.pages.gathered.items)
    c.clear.ensures.items (c.gather.ensures.gathers files now)

pub returns-in_err-gather-2-clause-gathers : goal.returns-in_err-gather-2-clause-gathers
returns-in_err-gather-2-clause-gathers g c files now =
    subst (λ (bytes : List ℕ). Gathers (IsTrue (g.D.Disk.life c.gather-2.new.disk).obeys) files c.args.source.now c.args.from (kept c.args.pages.now) (kept c.gather-2.new.pages) bytes c.gather-2.new.pages.gathered.items)
    c.clear.ensures.items
    (gathers_after _ _ _ _ _ _ _ _ _ _ _ c.gather.ensures.quiet c.gather-2.ensures.quiet c.gather.ensures.gathers c.gather-2.ensures.gathers files now)

pub returns-clause-gathers : goal.returns-clause-gathers
returns-clause-gathers g c files now =
    subst (λ (bytes : List ℕ). Gathers (IsTrue (g.D.Disk.life c.gather-2.new.disk).obeys) files c.args.source.now c.args.from (kept c.args.pages.now) (kept c.gather-2.new.pages) bytes c.gather-2.new.pages.gathered.items)
    c.clear.ensures.items
    (gathers_after _ _ _ _ _ _ _ _ _ _ _ c.gather.ensures.quiet c.gather-2.ensures.quiet c.gather.ensures.gathers c.gather-2.ensures.gathers files now)
