use Rattle.std.proofs.Common.{rules, ◌≡◌, ◌+◌, ◌%◌, ap, subst, ℕ, length, IsTrue, arith}
use Rattle.replay_core.specs.Gathering.{AddsKept}
use Rattle.replay_core.specs.Pages.{kept}
use Rattle.replay_core.specs.declared.cache.PageKey.{PageKey}
use Rattle.replay_core.proofs.PageLemmas.{gathers_kept, gathers_twice}
use Rattle.replay_core.proofs.gathering.gather_more.Goals as goal

pub returns-then-gather_kept-clause-gathers : goal.returns-then-gather_kept-clause-gathers
returns-then-gather_kept-clause-gathers g c files now =
    let p : ℕ = c.args.from + c.len.result in
    let at : c.args.from + length c.args.pages.now.gathered.items ≡ p = search rules in
    gathers_kept files c.args.source.now c.args.from (IsTrue (g.D.Disk.life c.args.disk.now).obeys) (kept c.args.pages.now) (kept c.gather_kept.new.self) p c.args.pages.now.gathered.items c.gather_kept.new.self.gathered.items c.requires.start at c.gather_kept.ensures.kept
    (subst (λ (key : PageKey). AddsKept (kept c.args.pages.now) key (p % 4096) c.args.pages.now.gathered.items c.gather_kept.new.self.gathered.items) c.key_of-key.ensures c.gather_kept.ensures.added)

pub returns-then-count-eq0-clause-gathers : goal.returns-then-count-eq0-clause-gathers
returns-then-count-eq0-clause-gathers g c files now =
    let p : ℕ = c.args.from + c.len.result in
    let at : c.args.from + length c.args.pages.now.gathered.items ≡ p = search rules in
    gathers_kept files c.args.source.now c.args.from (IsTrue (g.D.Disk.life c.args.disk.now).obeys) (kept c.args.pages.now) (kept c.gather_kept.new.self) p c.args.pages.now.gathered.items c.gather_kept.new.self.gathered.items c.requires.start at c.gather_kept.ensures.kept
    (subst (λ (key : PageKey). AddsKept (kept c.args.pages.now) key (p % 4096) c.args.pages.now.gathered.items c.gather_kept.new.self.gathered.items) c.key_of-key.ensures c.gather_kept.ensures.added)

pub load-requires-clause-high : goal.load-requires-clause-high
load-requires-clause-high g c = c.pages_from-count.ensures.high (omega (arith, c.if-count-eq0.false))

pub load-requires-clause-few : goal.load-requires-clause-few
load-requires-clause-few g c = omega (arith, c.pages_from-count.ensures.few, c.most_ahead-most.ensures)

pub returns-clause-gathers : goal.returns-clause-gathers
returns-clause-gathers g c files now =
    let p : ℕ = c.args.from + c.len.result in
    let obeys : Type 0 = IsTrue (g.D.Disk.life c.load.new.disk).obeys in
    let at : c.args.from + length c.args.pages.now.gathered.items ≡ p = search rules in
    let still : c.args.from + length c.gather_kept.new.self.gathered.items ≡ p = omega (arith, at, ap length (c.gather_kept.ensures.none c.if-gather_kept.false)) in
    gathers_twice files c.args.source.now c.args.from obeys obeys (kept c.args.pages.now) (kept c.gather_kept.new.self) (kept c.load.new.pages) c.args.pages.now.gathered.items c.gather_kept.new.self.gathered.items c.load.new.pages.gathered.items (λ here. here)
    (gathers_kept files c.args.source.now c.args.from obeys (kept c.args.pages.now) (kept c.gather_kept.new.self) p c.args.pages.now.gathered.items c.gather_kept.new.self.gathered.items c.requires.start at c.gather_kept.ensures.kept
    (subst (λ (key : PageKey). AddsKept (kept c.args.pages.now) key (p % 4096) c.args.pages.now.gathered.items c.gather_kept.new.self.gathered.items) c.key_of-key.ensures c.gather_kept.ensures.added))
    (c.load.ensures.gathers files c.args.from now still)
