use Rattle.std.proofs.Common.{◌≡◌, ◌+◌, length, subst, IsTrue}
use Rattle.replay_core.specs.Gathering.{Gathers}
use Rattle.replay_core.specs.Pages.{kept}
use Rattle.replay_core.specs.declared.cache.PageCache.{PageCache}
use Rattle.replay_core.proofs.gathering.load.Goals as goal

pub returns-clause-gathers : goal.returns-clause-gathers
returns-clause-gathers g c files from now at =
    subst (λ (cache : PageCache). from + length cache.gathered.items ≡ c.args.position →
    Gathers (IsTrue (g.D.Disk.life c.load_into-more.new.disk).obeys) files c.args.source.now from (kept cache) (kept c.load_into-more.new.pages) cache.gathered.items c.load_into-more.new.pages.gathered.items)
    c.take_window.ensures.same (c.load_into-more.ensures.gathers files from now) at
