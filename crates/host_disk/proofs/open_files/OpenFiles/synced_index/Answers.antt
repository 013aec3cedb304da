use Rattle.std.proofs.Common.{◌<◌, true, Bool, Some, length, ap, ◌∙◌, arith}
use Rattle.std.proofs.lemmas.List.{length-map}
use Rattle.host_disk.specs.declared.system.OpenFile.{OpenFile}
use Rattle.host_disk.specs.OpenFiles.{entries_of, unsynced}
use Rattle.host_disk.proofs.OpenFileLemmas.{all_more, all_in, shown_of_map}
use Rattle.host_disk.proofs.open_files.OpenFiles.synced_index.Goals as goal

pub loop-i-preserved : goal.loop-i-preserved
loop-i-preserved c =
    let inside : c.loop-i.i < length (entries_of c.args.self.now) = omega (arith, c.args.self.now.entries.ok.0) in
    all_more _ _ _ c.loop-i.invariant
    (shown_of_map (λ (entry : OpenFile). entry.is_unsynced) (entries_of c.args.self.now) c.loop-i.i c.index.result.now inside c.index.ensures ∙ ap (λ (b : Bool). Some b) c.if-not-index.false)

pub returns-clause-none : goal.returns-clause-none
returns-clause-none c k d inside =
    all_in (unsynced c.args.self.now) true c.loop-i.i k d c.loop-i.invariant
    (omega (arith, inside, length-map (entries_of c.args.self.now) (λ (entry : OpenFile). entry.is_unsynced), c.args.self.now.entries.ok.0))
