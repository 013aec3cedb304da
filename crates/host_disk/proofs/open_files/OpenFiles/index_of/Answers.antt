use Rattle.std.proofs.Common.{rules, ◌≡◌, ◌≢◌, ◌<◌, Some, length, slice_get, arith}
use Rattle.std.proofs.lemmas.List.{length-map}
use Rattle.host_disk.specs.declared.system.OpenFile.{OpenFile}
use Rattle.host_disk.specs.OpenFiles.{entries_of, held}
use Rattle.host_disk.proofs.OpenFileLemmas.{none_more, none_in, shown_of_map}
use Rattle.host_disk.proofs.open_files.OpenFiles.index_of.Goals as goal

pub loop-i-preserved : goal.loop-i-preserved
loop-i-preserved c = none_more _ _ _ c.loop-i.invariant (λ found.
    let inside : c.loop-i.i < length (entries_of c.args.self.now) = omega (arith, c.args.self.now.entries.ok.0) in
    let here : slice_get (held c.args.self.now) c.loop-i.i ≡ Some c.index.result.now.file = shown_of_map (λ (entry : OpenFile). entry.file) (entries_of c.args.self.now) c.loop-i.i c.index.result.now inside c.index.ensures in
    let same : c.index.result.now.file ≡ c.args.file = (cc) in
    let differ : c.index.result.now.file ≢ c.args.file = search rules in
    differ same)

pub returns-clause-none : goal.returns-clause-none
returns-clause-none c = none_in _ _ _ c.loop-i.invariant (omega (arith, length-map (entries_of c.args.self.now) (λ (entry : OpenFile). entry.file), c.args.self.now.entries.ok.0))
