use Rattle.std.proofs.Common.{◌≡◌, ◌≢◌, true, false, List, Contains, get_or, subst, sym, ap, ◌∙◌}
use Rattle.host_disk.specs.declared.system.OpenFile.{OpenFile}
use Rattle.host_disk.specs.OpenFiles.{entries_of}
use Rattle.host_disk.proofs.OpenFileLemmas.{stays_removed, index_shows}
use Rattle.host_disk.proofs.open_files.OpenFiles.make_room.Goals as goal

pub returns-in-Some-clause-marks : goal.returns-in-Some-clause-marks
returns-in-Some-clause-marks c file marked =
    let shown = index_shows (λ (one : OpenFile). one.is_unsynced) (entries_of c.args.self.now) c.in-Some.index marked.0 false c.in-Some.ensures.found in
    let other : get_or (entries_of c.args.self.now) c.in-Some.index marked.0 ≢ marked.0 =
    (λ is. let told : true ≡ false = sym marked.3 ∙ sym (ap (λ (one : OpenFile). one.is_unsynced) is) ∙ shown.1 in absurd (cc)) in (
      marked.0,
      subst (λ (items : List OpenFile). Contains items marked.0) (sym c.remove.ensures.items) (stays_removed (entries_of c.args.self.now) c.in-Some.index marked.0 shown.0 other marked.1),
      marked.2,
      marked.3,
    )
