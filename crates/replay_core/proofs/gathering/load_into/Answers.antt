use Rattle.std.proofs.Common.{rules, subst, ℕ, ◌-◌, ◌≤◌, ◌*◌, ◌%◌, List, length, length-take, take, IsTrue, arith}
use Rattle.disk_core.specs.DiskImage.{Files, bytes_of, reads}
use Rattle.disk_core.specs.declared.file_id.FileId.{FileId}
use Rattle.segment_store.specs.declared.layout.Layout.{Layout}
use Rattle.segment_store.specs.Layout.{file_of, offset_of}
use Rattle.segment_store.specs.Reading.{AreReadAt}
use Rattle.segment_store.proofs.ReadLemmas.{read_is}
use Rattle.replay_core.specs.Gathering.{AddsPart}
use Rattle.replay_core.specs.Pages.{kept}
use Rattle.replay_core.proofs.PageLemmas.{gathers_loaded, page_inside}
use Rattle.replay_core.proofs.gathering.load_into.Goals as goal

pub overflow_sub-spot : goal.overflow_sub-spot
overflow_sub-spot g c = omega (arith, page_inside c.args.source.now.layout c.args.position c.requires.layout c.requires.start, c.spot_of-spot.ensures.offset)

pub returns-clause-gathers : goal.returns-clause-gathers
returns-clause-gathers g c files from now at =
    let l : Layout = c.args.source.now.layout in
    let p : ℕ = c.args.position in
    let window : List ℕ = take c.in_ok-count.count c.read_at.new.into in
    let old : Files = (g.D.Disk.life c.args.disk.now).now in
    let read : IsTrue (g.D.Disk.life c.read_at.new.self).obeys → AreReadAt (bytes_of (reads files (file_of l p))) (offset_of l p - p % 4096) window =
    λ obeys.
    subst (λ (fs : Files). AreReadAt (bytes_of (reads fs (file_of l p))) (offset_of l p - p % 4096) window) now
    (subst (λ (n : ℕ). AreReadAt (bytes_of (reads old (file_of l p))) (n - p % 4096) window) c.spot_of-spot.ensures.offset
    (subst (λ (file : FileId). AreReadAt (bytes_of (reads old file)) (c.spot_of-spot.result.offset - p % 4096) window) c.spot_of-spot.ensures.file
    (record {
      asked = length c.args.window.now;
      are = read_is (bytes_of (reads old c.spot_of-spot.result.file)) c.args.window.now c.read_at.new.into (c.spot_of-spot.result.offset - p % 4096) c.in_ok-count.count (c.in_ok-count.ensures.exact obeys);
    }))) in
    let few : length window ≤ 4096 * c.requires.pages.0 = omega (arith, length-take c.in_ok-count.count c.read_at.new.into, c.in_ok-count.ensures.within, c.requires.pages.2) in
    let adds : AddsPart window (p % 4096) c.args.pages.now.gathered.items c.add_part.new.gathered.items = search rules in
    gathers_loaded files c.args.source.now from (IsTrue (g.D.Disk.life c.read_at.new.self).obeys) (kept c.args.pages.now) (kept c.keep_pages.new.pages) p c.requires.pages.0 window
    c.args.pages.now.gathered.items c.add_part.new.gathered.items c.requires.layout c.requires.start at c.requires.pages.1 few read c.keep_pages.ensures.kept adds
