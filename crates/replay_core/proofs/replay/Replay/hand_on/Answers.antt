use Rattle.std.proofs.Common.{rules, IsTrue, inl, inr, refl, ◌≡◌, ◌∙◌, subst, ℤ, pos, ◌+ℤ◌, ◌≤ℤ◌, to_z, of_z, w64, arith}
use Rattle.std.proofs.lemmas.Int.{ints}
use Rattle.std.specs.Prelude.{unsigned_abs}
use Rattle.disk_core.specs.DiskImage.{reads}
use Rattle.disk_core.specs.Life.{Life}
use Rattle.frame_core.specs.declared.refusal.Refusal.{Refusal}
use Rattle.segment_store.specs.declared.layout.Layout.{Layout}
use Rattle.segment_store.specs.Boundary.{IsChain}
use Rattle.segment_store.proofs.LayoutLemmas.{start_before}
use Rattle.replay_core.specs.Pages.{KeepsRead, kept}
use Rattle.replay_core.specs.Poll.{RefusesPoll}
use Rattle.replay_core.specs.Taking.{TookSome}
use Rattle.replay_core.proofs.PollLemmas.{keeps_later}
use Rattle.replay_core.proofs.TakingLemmas.{handed_more, none_handed, refuses_poll}
use Rattle.replay_core.proofs.replay.Replay.hand_on.Goals.{then-loop-taken-test+then-at-self+else-at-recorded, then-loop-taken-test+else-at-self, else-loop-taken-test}
use Rattle.replay_core.proofs.replay.Replay.hand_on.Goals as goal

pub loop-taken-init : goal.loop-taken-init
loop-taken-init g c = (none_handed _ _ _ _ _ _ _ _ _ _ _ _ (search rules), refl, refl, refl, refl, refl)

pub loop-taken-preserved : goal.loop-taken-preserved
loop-taken-preserved g c =
    let l : Layout = c.args.store.now.layout in
    let at : ℤ = to_z w64 c.loop-taken.at-bits in
    let start : pos 0 ≤ℤ c.args.self.now.next = omega (arith, ints, c.requires.from_start, c.requires.layout.start_is) in
    let end : to_z w64 (of_z w64 (at +ℤ to_z w64 c.in_ok-size.size)) ≡ at +ℤ pos c.in_ok-size.size = search rules in (
      handed_more g.T.FrameTaker.takes c.args.taker.now c.loop-taken.taker c.hand_frame.new.taker
          (g.D.Disk.life c.args.store.now.disk.now) (g.D.Disk.life c.loop-taken.store.disk.now) (g.D.Disk.life c.hand_frame.new.self.disk.now)
          l c.loop-taken.store.layout c.args.store.now.geometry c.loop-taken.store.geometry c.args.store.now.generation c.loop-taken.store.generation
          (kept c.args.store.now.pages.now) (kept c.loop-taken.store.pages.now) (kept c.hand_frame.new.self.pages.now)
          (to_z w64 (of_z w64 c.args.recorded)) c.args.self.now.bound c.args.most c.args.self.now.next at _ c.loop-taken.taken c.in_ok-size.size
          c.loop-taken.invariant.1 c.loop-taken.invariant.2 c.loop-taken.invariant.3 c.loop-taken.invariant.0
          c.in_ok-size.ensures.handed c.hand_frame.ensures.quiet c.hand_frame.ensures.pages
          start (start_before l c.args.self.now.next c.requires.layout c.requires.from_start) c.loop-taken-test.true (omega (arith, ints, c.if-at-self.true)) end,
      c.hand_frame.ensures.store.0 ∙ c.loop-taken.invariant.1,
      c.hand_frame.ensures.store.1 ∙ c.loop-taken.invariant.2,
      c.hand_frame.ensures.store.2 ∙ c.loop-taken.invariant.3,
      c.hand_frame.ensures.store.3 ∙ c.loop-taken.invariant.4,
      c.hand_frame.ensures.store.4 ∙ c.loop-taken.invariant.5,
    )

pub returns-in_err-size-clause-refused : goal.returns-in_err-size-clause-refused
returns-in_err-size-clause-refused g c =
    let old : Life = g.D.Disk.life c.args.store.now.disk.now in
    let new : Life = g.D.Disk.life c.hand_frame.new.self.disk.now in
    let recorded : ℤ = to_z w64 (of_z w64 c.args.recorded) in
    let same : recorded ≡ c.args.recorded = search rules in
    let refusal : Refusal = c.in_err-size.field-0.0 in
    let start : pos 0 ≤ℤ c.args.self.now.next = omega (arith, ints, c.requires.from_start, c.requires.layout.start_is) in
    let refuses : RefusesPoll new.obeys (reads old.now) c.args.store.now.layout c.args.store.now.geometry c.args.store.now.generation (kept c.args.store.now.pages.now) recorded c.args.self.now.bound c.args.most (unsigned_abs c.args.self.now.next) refusal =
    refuses_poll g.T.FrameTaker.takes c.args.taker.now c.loop-taken.taker
    old (g.D.Disk.life c.loop-taken.store.disk.now) new
    c.args.store.now.layout c.loop-taken.store.layout c.args.store.now.geometry c.loop-taken.store.geometry c.args.store.now.generation c.loop-taken.store.generation
    (kept c.args.store.now.pages.now) (kept c.loop-taken.store.pages.now)
    recorded c.args.self.now.bound c.args.most c.args.self.now.next (to_z w64 c.loop-taken.at-bits) c.loop-taken.taken refusal
    c.loop-taken.invariant.1 c.loop-taken.invariant.2 c.loop-taken.invariant.0 c.hand_frame.ensures.quiet c.in_err-size.ensures.refused
    start c.loop-taken-test.true (omega (arith, ints, c.if-at-self.true)) (omega (arith, ints, c.if-at-recorded.true)) in
    let refused : RefusesPoll new.obeys (reads old.now) c.args.store.now.layout c.args.store.now.geometry c.args.store.now.generation (kept c.args.store.now.pages.now) c.args.recorded c.args.self.now.bound c.args.most (unsigned_abs c.args.self.now.next) refusal =
    subst (λ (z : ℤ). RefusesPoll new.obeys (reads old.now) c.args.store.now.layout c.args.store.now.geometry c.args.store.now.generation (kept c.args.store.now.pages.now) z c.args.self.now.bound c.args.most (unsigned_abs c.args.self.now.next) refusal) same refuses in
    search rules

pub returns-in_err-size-clause-pages : goal.returns-in_err-size-clause-pages
returns-in_err-size-clause-pages g c =
    let same : to_z w64 (of_z w64 c.args.recorded) ≡ c.args.recorded = search rules in
    subst (λ (recorded : ℤ). KeepsRead (IsTrue (g.D.Disk.life c.hand_frame.new.self.disk.now).obeys) (reads (g.D.Disk.life c.args.store.now.disk.now).now) c.args.store.now.layout c.args.store.now.generation recorded (kept c.args.store.now.pages.now) (kept c.hand_frame.new.self.pages.now)) same
    (keeps_later _ _ _ _ _ _ _ _ (kept c.loop-taken.store.pages.now) _ _ c.loop-taken.invariant.1 c.loop-taken.invariant.3 c.loop-taken.invariant.0.read.quiet c.hand_frame.ensures.quiet c.loop-taken.invariant.0.read.keeps c.hand_frame.ensures.pages)

pub returns-clause-pages : goal.returns-clause-pages
returns-clause-pages g c =
    let same : to_z w64 (of_z w64 c.args.recorded) ≡ c.args.recorded = search rules in
    subst (λ (recorded : ℤ). KeepsRead (IsTrue (g.D.Disk.life c.loop-taken.store.disk.now).obeys) (reads (g.D.Disk.life c.args.store.now.disk.now).now) c.args.store.now.layout c.args.store.now.generation recorded (kept c.args.store.now.pages.now) (kept c.loop-taken.store.pages.now)) same
    c.loop-taken.invariant.0.read.keeps

pub returns-clause-handed : goal.returns-clause-handed
returns-clause-handed g c =
    let start : pos 0 ≤ℤ c.args.self.now.next = omega (arith, ints, c.requires.from_start, c.requires.layout.start_is) in
    let same : to_z w64 (of_z w64 c.args.recorded) ≡ c.args.recorded = search rules in
    let handed = c.loop-taken.invariant.0 in
    let read = handed.read in
    let at : ℤ = to_z w64 c.loop-taken.at-bits in
    let low : pos 0 ≤ℤ at = omega (arith, ints, start, read.onwards) in
    record {
      frames = handed.frames;
      taken = handed.taken;
      polled = λ obeys agree. record {
        stand = subst (λ (recorded : ℤ). IsChain (reads (g.D.Disk.life c.args.store.now.disk.now).now) c.args.store.now.layout c.args.store.now.geometry recorded (unsigned_abs c.args.self.now.next) handed.frames (unsigned_abs at)) same (read.stand obeys agree);
        before = read.before start;
        few = read.few;
        all = elim c.loop-taken-test.branch [
          | then-loop-taken-test+then-at-self+else-at-recorded w ↦ inr (inr (omega (arith, ints, w.if-at-recorded, same, low)))
          | then-loop-taken-test+else-at-self w ↦ inr (inl (omega (arith, ints, w.if-at-self, low)))
          | else-loop-taken-test w ↦ inl (omega (arith, w.loop-taken-test, handed.many, read.few))
        ];
      };
      begin = read.before;
      covers = read.covers;
    }

pub returns-in_err-size-clause-left : goal.returns-in_err-size-clause-left
returns-in_err-size-clause-left g c =
    let some : TookSome g.T.FrameTaker.takes g.T.FrameTaker.leaves c.args.taker.now c.hand_frame.new.taker c.args.self.now.next = record {
      frames = c.loop-taken.invariant.0.frames;
      last = c.loop-taken.taker;
      taken = c.loop-taken.invariant.0.taken;
      left = c.in_err-size.ensures.left;
    } in
    search rules
