use Rattle.std.proofs.Common.{rules, refl, ◌≡◌, ◌∙◌, sym, subst, ◌+ℤ◌, ◌<◌, ◌≤ℤ◌, ℤ, pos, to_z, of_z, w64, IsTrue, arith}
use Rattle.std.proofs.lemmas.Int.{ints}
use Rattle.std.specs.Prelude.{unsigned_abs}
use Rattle.frame_core.specs.Block.{covered}
use Rattle.disk_core.specs.DiskImage.{reads}
use Rattle.replay_core.specs.Pages.{KeepsRead, kept}
use Rattle.replay_core.specs.Poll as paged
use Rattle.replay_core.specs.Poll.{AgreeOn, MovesTo, ArePolled}
use Rattle.archive_model.specs.Replay.{placed}
use Rattle.archive_model.specs.State.{geometry_of}
use Rattle.recording_reads.specs.Handing.{BeginBy, TakesEach}
use Rattle.recording_reads.specs.Recording.{layout_of}
use Rattle.recording_reads.proofs.PlacedLemmas.{each_before, each_placed, placed_end, some_placed}
use Rattle.recording_reads.proofs.UnpagedLemmas.{agreed_refusal, keeps_same}
use Rattle.recording_reads.proofs.polling.hand_frames.Goals as goal

pub returns-in_err-hand_on-clause-refused : goal.returns-in_err-hand_on-clause-refused
returns-in_err-hand_on-clause-refused g c =
    let d = c.args.registration.now.descriptor in
    let replay = c.args.replay.now in
    let life = g.D.Disk.life c.args.disk.now in
    let refusal = c.in_err-hand_on.field-0.0 in
    let refuses : paged.RefusesPoll (g.D.Disk.life c.hand_on.new.store.disk.now).obeys (reads life.now) (layout_of d) (geometry_of d) c.args.generation (kept c.args.pages.now) c.args.registration.now.recorded replay.bound (unsigned_abs c.args.most) (unsigned_abs replay.next) refusal = search rules in
    let unpaged = agreed_refusal _ _ _ _ _ _ _ _ _ _ refusal (λ obeys. c.requires.agree (c.hand_on.ensures.quiet.obeyed obeys)) refuses in
    search rules

pub returns-in_err-hand_on-clause-left : goal.returns-in_err-hand_on-clause-left
returns-in_err-hand_on-clause-left g c =
    let left = some_placed g.T.FrameTaker.takes g.T.FrameTaker.leaves c.args.taker.now c.hand_on.new.taker _ c.in_err-hand_on.ensures.left in
    search rules

pub returns-clause-handed : goal.returns-clause-handed
returns-clause-handed g c =
    let d = c.args.registration.now.descriptor in
    let replay = c.args.replay.now in
    let most = unsigned_abs c.args.most in
    let image = reads (g.D.Disk.life c.args.disk.now).now in
    let handed = c.in_ok-hand_on.ensures.handed in
    let frames = handed.frames in
    let here : to_z w64 (of_z w64 replay.next) ≡ replay.next = search rules in
    let back : to_z w64 (of_z w64 c.hand_on.new.self.next) ≡ c.hand_on.new.self.next = search rules in
    let covers : to_z w64 (of_z w64 c.hand_on.new.self.next) ≡ replay.next +ℤ pos (covered frames) = search (rules, handed.covers) in
    record {
      frames = placed replay.next frames;
      taken = subst (λ (z : ℤ). TakesEach g.T.FrameTaker.takes c.args.taker.now (placed z frames) c.hand_on.new.taker) here (each_placed g.T.FrameTaker.takes frames _ c.args.taker.now c.hand_on.new.taker handed.taken);
      shown = λ obeys.
          let still : IsTrue (g.D.Disk.life c.hand_on.new.store.disk.now).obeys = search (rules, obeys) in
          let agree : AgreeOn image (layout_of d) c.args.generation (kept c.args.pages.now) (unsigned_abs replay.next) frames = c.requires.agree (c.hand_on.ensures.quiet.obeyed still) frames in
          let these = handed.polled still (search (rules, agree)) in
          let polls : ArePolled image (layout_of d) (geometry_of d) c.args.registration.now.recorded replay.bound most (unsigned_abs replay.next) frames (unsigned_abs c.hand_on.new.self.next) = search (rules, these) in
          record {
            given = frames;
            polled = subst (λ z. ArePolled image (layout_of d) (geometry_of d) c.args.registration.now.recorded replay.bound most (unsigned_abs replay.next) frames (unsigned_abs z)) (sym back) polls;
            placed = refl;
          };
      begin =
          (let low : pos 0 ≤ℤ replay.next = (let start = c.requires.laid_out.layout.start_is in omega (arith, ints, start, c.requires.from_start)) in
          let at : pos (unsigned_abs replay.next) ≡ replay.next = omega (arith, ints, low) in
          subst (λ (z : ℤ). BeginBy replay.bound (placed z frames)) at (each_before replay.bound (unsigned_abs replay.next) frames (search (rules, handed.begin, low))));
      next = covers ∙ sym (placed_end replay.next frames);
    }

pub returns-clause-moves : goal.returns-clause-moves
returns-clause-moves g c =
    let registration = c.args.registration.now in
    let replay = c.args.replay.now in
    let back : to_z w64 (of_z w64 c.hand_on.new.self.next) ≡ c.hand_on.new.self.next = search rules in
    let goes : 0 < unsigned_abs c.args.most → MovesTo registration.recorded replay.bound replay.next c.hand_on.new.self.next = search (rules, c.in_ok-hand_on.ensures.moves) in
    (omega (arith, ints, back, c.in_ok-hand_on.ensures.onwards), λ some. subst (MovesTo registration.recorded replay.bound replay.next) (sym back) (goes some))

pub returns-in_err-hand_on-clause-pages : goal.returns-in_err-hand_on-clause-pages
returns-in_err-hand_on-clause-pages g c =
    let read : KeepsRead (IsTrue (g.D.Disk.life c.hand_on.new.store.disk.now).obeys) (reads (g.D.Disk.life c.args.disk.now).now) c.layout_of.result c.args.generation (to_z w64 (of_z w64 c.args.registration.now.recorded)) (kept c.args.pages.now) (kept c.hand_on.new.store.pages.now) = c.hand_on.ensures.pages in
    keeps_same g.D.Disk.life c.hand_on.new.store.disk.now _ _ c.layout_of.result _ _ _ _ _ (kept c.hand_on.new.store.pages.now) _ (search rules) (search rules) (search rules) (search rules) read

pub returns-clause-pages : goal.returns-clause-pages
returns-clause-pages g c =
    let read : KeepsRead (IsTrue (g.D.Disk.life c.hand_on.new.store.disk.now).obeys) (reads (g.D.Disk.life c.args.disk.now).now) c.layout_of.result c.args.generation (to_z w64 (of_z w64 c.args.registration.now.recorded)) (kept c.args.pages.now) (kept c.hand_on.new.store.pages.now) = c.hand_on.ensures.pages in
    keeps_same g.D.Disk.life c.hand_on.new.store.disk.now _ _ c.layout_of.result _ _ _ _ _ (kept c.hand_on.new.store.pages.now) _ (search rules) (search rules) (search rules) (search rules) read
