use Rattle.std.proofs.Common.{rules, ◌≡◌, subst, ℤ, pos, ◌+ℤ◌, ◌≤ℤ◌, to_z, of_z, w64, List, IsTrue}
use Rattle.std.specs.Prelude.{unsigned_abs}
use Rattle.disk_core.specs.DiskImage.{reads}
use Rattle.disk_core.specs.Life.{Life}
use Rattle.frame_core.specs.declared.frame.Frame.{Frame}
use Rattle.frame_core.specs.Block.{covered}
use Rattle.replay_core.specs.Pages.{KeepsRead, kept}
use Rattle.replay_core.specs.Poll.{AgreeOn, ArePolled, BeginBefore}
use Rattle.replay_core.proofs.TakingLemmas.{none_but_copies}
use Rattle.replay_core.proofs.replay.Replay.poll.Goals as goal

pub returns-in_err-hand_on-clause-pages : goal.returns-in_err-hand_on-clause-pages
returns-in_err-hand_on-clause-pages g c =
    let same : to_z w64 (of_z w64 c.args.recorded) ≡ c.args.recorded = search rules in
    subst (λ (recorded : ℤ). KeepsRead (IsTrue (g.D.Disk.life c.hand_on.new.store.disk.now).obeys) (reads (g.D.Disk.life c.args.store.now.disk.now).now) c.args.store.now.layout c.args.store.now.generation recorded (kept c.args.store.now.pages.now) (kept c.hand_on.new.store.pages.now)) same
    c.hand_on.ensures.pages

pub returns-clause-pages : goal.returns-clause-pages
returns-clause-pages g c =
    let same : to_z w64 (of_z w64 c.args.recorded) ≡ c.args.recorded = search rules in
    subst (λ (recorded : ℤ). KeepsRead (IsTrue (g.D.Disk.life c.hand_on.new.store.disk.now).obeys) (reads (g.D.Disk.life c.args.store.now.disk.now).now) c.args.store.now.layout c.args.store.now.generation recorded (kept c.args.store.now.pages.now) (kept c.hand_on.new.store.pages.now)) same
    c.hand_on.ensures.pages

pub returns-clause-frames : goal.returns-clause-frames
returns-clause-frames g c =
    let old : Life = g.D.Disk.life c.args.store.now.disk.now in
    let new : Life = g.D.Disk.life c.hand_on.new.store.disk.now in
    let same : to_z w64 (of_z w64 c.args.recorded) ≡ c.args.recorded = search rules in
    let handed = c.in_ok-hand_on.ensures.handed in
    let are : handed.frames ≡ c.hand_on.new.taker.frames.items = none_but_copies _ _ _ _ handed.taken c.new.ensures.items in
    subst (λ (recorded : ℤ). IsTrue new.obeys → AgreeOn (reads old.now) c.args.store.now.layout c.args.store.now.generation (kept c.args.store.now.pages.now) (unsigned_abs c.args.self.now.next) c.hand_on.new.taker.frames.items
    → ArePolled (reads old.now) c.args.store.now.layout c.args.store.now.geometry recorded c.args.self.now.bound c.args.most (unsigned_abs c.args.self.now.next) c.hand_on.new.taker.frames.items (unsigned_abs c.hand_on.new.self.next)) same
    (subst (λ (frames : List Frame). IsTrue new.obeys → AgreeOn (reads old.now) c.args.store.now.layout c.args.store.now.generation (kept c.args.store.now.pages.now) (unsigned_abs c.args.self.now.next) frames
    → ArePolled (reads old.now) c.args.store.now.layout c.args.store.now.geometry (to_z w64 (of_z w64 c.args.recorded)) c.args.self.now.bound c.args.most (unsigned_abs c.args.self.now.next) frames (unsigned_abs c.hand_on.new.self.next)) are
    handed.polled)

pub returns-clause-begins : goal.returns-clause-begins
returns-clause-begins g c =
    let handed = c.in_ok-hand_on.ensures.handed in
    let are : handed.frames ≡ c.hand_on.new.taker.frames.items = none_but_copies _ _ _ _ handed.taken c.new.ensures.items in
    subst (λ (frames : List Frame). pos 0 ≤ℤ c.args.self.now.next → BeginBefore c.args.self.now.bound (unsigned_abs c.args.self.now.next) frames) are handed.begin

pub returns-clause-covers : goal.returns-clause-covers
returns-clause-covers g c =
    let handed = c.in_ok-hand_on.ensures.handed in
    let are : handed.frames ≡ c.hand_on.new.taker.frames.items = none_but_copies _ _ _ _ handed.taken c.new.ensures.items in
    subst (λ (frames : List Frame). c.hand_on.new.self.next ≡ c.args.self.now.next +ℤ pos (covered frames)) are handed.covers
