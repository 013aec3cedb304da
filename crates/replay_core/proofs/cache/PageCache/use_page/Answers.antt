use Rattle.std.proofs.Common.{subst, Contains}
use Rattle.replay_core.specs.Pages.{kept}
use Rattle.replay_core.specs.declared.cache.PageCache.{PageCache}
use Rattle.replay_core.proofs.KeptLemmas.{promoted_kept}
use Rattle.replay_core.proofs.cache.PageCache.use_page.Goals.{in-Some+else-eq, in_default}
use Rattle.replay_core.proofs.cache.PageCache.use_page.Goals as goal

pub returns-clause-kept : goal.returns-clause-kept
returns-clause-kept c key page there =
    let before : Contains (kept c.match-peek_mru.self) (key, page) = promoted_kept _ _ _ key page c.promote.ensures.entries there in
    elim c.match-peek_mru.branch [
      | in-Some+else-eq w ↦ subst (λ (cache : PageCache). Contains (kept cache) (key, page)) w.self-is before
      | in_default w ↦ subst (λ (cache : PageCache). Contains (kept cache) (key, page)) w.self-is before
    ]
