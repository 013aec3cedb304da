use Rattle.std.proofs.Common.{◌≡◌, inr, sym, ap, subst, ℕ, List, Contains}
use Rattle.replay_core.specs.Gathering.{AddsPart}
use Rattle.replay_core.specs.Pages.{kept}
use Rattle.replay_core.specs.declared.cache.PageCache.{PageCache}
use Rattle.replay_core.specs.declared.cache.PageKey.{PageKey}
use Rattle.replay_core.proofs.KeptLemmas.{first_kept, key_same}
use Rattle.replay_core.proofs.cache.PageCache.gather_kept.Goals as goal

pub returns-in-Some-clause-added : goal.returns-in-Some-clause-added
returns-in-Some-clause-added c =
    let same : c.in-Some.first.now ≡ c.args.key.now = key_same c.in-Some.first.now c.args.key.now (sym c.if-eq.ensures) in
    let first : Contains (kept c.use_page.new.self) (c.in-Some.first.now, c.in-Some.page.now) = first_kept (kept c.use_page.new.self) c.in-Some.first.now c.in-Some.page.now c.in-Some.ensures in
    let there : Contains (kept c.use_page.new.self) (c.args.key.now, c.in-Some.page.now) = subst (λ (key : PageKey). Contains (kept c.use_page.new.self) (key, c.in-Some.page.now)) same first in
    let part : AddsPart c.in-Some.page.now.items c.args.offset c.use_page.new.self.gathered.items c.add_part.new.gathered.items =
    subst (λ (part : List ℕ). AddsPart part c.args.offset c.use_page.new.self.gathered.items c.add_part.new.gathered.items) c.as_slice.ensures.value c.add_part.ensures.added in
    inr (
      c.in-Some.page.now,
      c.use_page.ensures.kept c.args.key.now c.in-Some.page.now there,
      subst (λ (bytes : List ℕ). AddsPart c.in-Some.page.now.items c.args.offset bytes c.add_part.new.gathered.items) (ap (λ (cache : PageCache). cache.gathered.items) c.use_page.ensures.same) part,
    )
