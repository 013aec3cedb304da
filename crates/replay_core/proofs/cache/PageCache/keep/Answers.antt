use Rattle.std.proofs.Common.{subst}
use Rattle.replay_core.specs.Gathering.{KeepsOne}
use Rattle.replay_core.specs.Pages.{kept}
use Rattle.replay_core.specs.declared.cache.PageCache.{PageCache}
use Rattle.replay_core.proofs.KeptLemmas.{pushed_kept}
use Rattle.replay_core.proofs.cache.PageCache.keep.Goals as goal

pub returns-in-Some-gone-clause-kept : goal.returns-in-Some-gone-clause-kept
returns-in-Some-gone-clause-kept c =
    subst (λ (cache : PageCache). KeepsOne (kept cache) c.push.new.self.entries c.args.key c.args.bytes.now) c.page_of.ensures.same
    (pushed_kept c.page_of.new.self.pages c.push.new.self c.args.key c.in-Some.page c.args.bytes.now c.push.result c.in-Some.ensures.page c.push.ensures.entries c.push.ensures.err)

pub returns-in_default-gone-clause-kept : goal.returns-in_default-gone-clause-kept
returns-in_default-gone-clause-kept c =
    subst (λ (cache : PageCache). KeepsOne (kept cache) c.push.new.self.entries c.args.key c.args.bytes.now) c.page_of.ensures.same
    (pushed_kept c.page_of.new.self.pages c.push.new.self c.args.key c.in-Some.page c.args.bytes.now c.push.result c.in-Some.ensures.page c.push.ensures.entries c.push.ensures.err)
