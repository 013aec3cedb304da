use Rattle.std.proofs.Common.{◌≡◌, ◌∙◌, sym, ap, subst, List, slice_get}
use Rattle.disk_core.specs.declared.file_id.FileId.{FileId}
use Rattle.disk_core.specs.DiskImage.{reads}
use Rattle.segment_store.specs.Stale.{IsFirst}
use Rattle.segment_store.proofs.SweepLemmas.{first_of}
use Rattle.segment_store.proofs.sweep.first_stale.Goals as goal

pub returns-clause-first : goal.returns-clause-first
returns-clause-first g c =
    let is : c.copied.result ≡ slice_get c.in_ok-stale.stale.items 0 = c.copied.ensures ∙ c.first.ensures.value ∙ ap (λ (files : List FileId). slice_get files 0) c.deref.ensures.value in
    subst (IsFirst (g.D.Disk.life c.stale_files.new.disk).obeys (reads (g.D.Disk.life c.args.disk.now).now) c.args.keeps.now) (sym is)
    (first_of (g.D.Disk.life c.stale_files.new.disk).obeys (reads (g.D.Disk.life c.args.disk.now).now) c.args.keeps.now c.in_ok-stale.stale.items c.in_ok-stale.ensures.each c.in_ok-stale.ensures.stale)
