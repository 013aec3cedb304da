use Rattle.std.proofs.Common.{rules, ◌≡◌, ℤ, sym, subst, IsTrue, to_z, of_z, w64}
use Rattle.disk_core.specs.DiskImage.{reads}
use Rattle.replay_core.specs.Pages.{KeepsRead, kept}
use Rattle.recording_reads.specs.Recording.{layout_of}
use Rattle.recording_reads.specs.Settled.{CursorView, PagesAgree}
use Rattle.recording_reads.proofs.SettledLemmas.{still_agree}
use Rattle.recording_reads.proofs.settled.SettledReader.turn.Goals as goal

pub invariant_of-self : goal.invariant_of-self
invariant_of-self g c =
    let old = c.args.self.now in
    let life = g.D.Disk.life c.hand_on.new.disk in
    let pages = kept c.hand_on.new.pages in
    let agree : PagesAgree life (layout_of old.cursor.known.descriptor) pages =
    still_agree (g.D.Disk.life old.disk) life (layout_of old.cursor.known.descriptor) 0 _ (kept old.pages) pages c.hand_on.ensures.quiet old.paged c.hand_on.ensures.pages in
    record { paged = subst (λ (cursor : CursorView). PagesAgree life (layout_of cursor.known.descriptor) pages) (sym c.hand_on.ensures.cursor) agree }

pub returns-clause-pages : goal.returns-clause-pages
returns-clause-pages g c =
    let old = c.args.self.now in
    let obeys = IsTrue (g.D.Disk.life c.hand_on.new.disk).obeys in
    let same : to_z w64 (of_z w64 c.args.seen) ≡ c.args.seen = search rules in
    subst (λ (seen : ℤ). KeepsRead obeys (reads (g.D.Disk.life old.disk).now) (layout_of old.cursor.known.descriptor) 0 seen (kept old.pages) (kept c.hand_on.new.pages)) same c.hand_on.ensures.pages
