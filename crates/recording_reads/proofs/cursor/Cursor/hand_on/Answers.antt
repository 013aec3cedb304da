use Rattle.std.proofs.Common.{rules, ◌≡◌, ◌≤◌, ℤ, sym, subst, IsTrue, arith, to_z, of_z, w64}
use Rattle.std.proofs.lemmas.Int.{ints}
use Rattle.std.specs.Prelude.{unsigned_abs}
use Rattle.disk_core.specs.DiskImage.{reads}
use Rattle.replay_core.specs.Pages.{KeepsRead, kept}
use Rattle.replay_core.specs.Poll.{MovesTo}
use Rattle.recording_reads.specs.Recording.{layout_of}
use Rattle.recording_reads.specs.Settled.{PagesAgree}
use Rattle.recording_reads.proofs.SettledLemmas.{agree_on}
use Rattle.recording_reads.proofs.cursor.Cursor.hand_on.Goals as goal

pub hand_frames-requires-clause-agree : goal.hand_frames-requires-clause-agree
hand_frames-requires-clause-agree g c obeys frames =
    let known = c.self.inside.known in
    let life = g.D.Disk.life c.args.disk.now in
    let agree : PagesAgree life (layout_of known.descriptor) (kept c.args.pages.now) = rw (sym c.self.view_is) at c.requires.agree in
    let start = c.self.invariant.laid_out.layout.start_is in
    let from : unsigned_abs known.descriptor.start_position ≤ unsigned_abs c.self.inside.replay.next = omega (arith, ints, start, c.self.invariant.from_start) in
    agree_on life (layout_of known.descriptor) 0 (kept c.args.pages.now) agree obeys frames (unsigned_abs c.self.inside.replay.next) from

pub returns-in_err-next-clause-pages : goal.returns-in_err-next-clause-pages
returns-in_err-next-clause-pages g c =
    let l = layout_of c.self.inside.known.descriptor in
    let image = reads (g.D.Disk.life c.args.disk.now).now in
    let obeys = IsTrue (g.D.Disk.life c.hand_frames.new.disk).obeys in
    let same : to_z w64 (of_z w64 c.args.seen) ≡ c.args.seen = search rules in
    rw (← c.self.view_is)
    (subst (λ (seen : ℤ). KeepsRead obeys image l 0 seen (kept c.args.pages.now) (kept c.hand_frames.new.pages)) same c.hand_frames.ensures.pages)

pub returns-clause-moves : goal.returns-clause-moves
returns-clause-moves g c some =
    let replay = c.self.inside.replay in
    let same : to_z w64 (of_z w64 c.args.seen) ≡ c.args.seen = search rules in
    let moves : MovesTo (to_z w64 (of_z w64 c.args.seen)) replay.bound replay.next c.in_ok-next.next = search (rules, c.in_ok-next.ensures.moves, some) in
    let back : c.in_ok-next.next ≡ to_z w64 (of_z w64 c.in_ok-next.next) = search rules in
    rw (← c.self.view_is)
    (subst (λ (seen : ℤ). MovesTo seen replay.bound replay.next (to_z w64 (of_z w64 c.in_ok-next.next))) same
    (subst (MovesTo (to_z w64 (of_z w64 c.args.seen)) replay.bound replay.next) back moves))

pub returns-clause-pages : goal.returns-clause-pages
returns-clause-pages g c =
    let l = layout_of c.self.inside.known.descriptor in
    let image = reads (g.D.Disk.life c.args.disk.now).now in
    let obeys = IsTrue (g.D.Disk.life c.hand_frames.new.disk).obeys in
    let same : to_z w64 (of_z w64 c.args.seen) ≡ c.args.seen = search rules in
    rw (← c.self.view_is)
    (subst (λ (seen : ℤ). KeepsRead obeys image l 0 seen (kept c.args.pages.now) (kept c.hand_frames.new.pages)) same c.hand_frames.ensures.pages)
