use Rattle.std.proofs.Common.{◌≢◌, List, Contains, get_or, subst, sym, ap, ◌∙◌}
use Rattle.host_disk.specs.declared.system.OpenFile.{OpenFile}
use Rattle.host_disk.specs.OpenFiles.{entries_of}
use Rattle.host_disk.proofs.OpenFileLemmas.{stays_removed, index_shows}
use Rattle.host_disk.proofs.open_files.OpenFiles.close.Goals as goal

pub loop-index-preserved : goal.loop-index-preserved
loop-index-preserved c file differs marked =
    let kept = c.loop-index.invariant file differs marked in
    let shown = index_shows (λ (one : OpenFile). one.file) (entries_of c.loop-index.self) c.in-Some.index kept.0 c.args.file c.in-Some.ensures.found in
    let other : get_or (entries_of c.loop-index.self) c.in-Some.index kept.0 ≢ kept.0 = (λ is. differs (sym kept.2 ∙ sym (ap (λ (one : OpenFile). one.file) is) ∙ shown.1)) in (
      kept.0,
      subst (λ (items : List OpenFile). Contains items kept.0) (sym c.remove.ensures.items) (stays_removed (entries_of c.loop-index.self) c.in-Some.index kept.0 shown.0 other kept.1),
      kept.2,
      kept.3,
    )
