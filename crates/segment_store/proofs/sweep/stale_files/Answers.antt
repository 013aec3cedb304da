use Rattle.std.proofs.Common.{rules, ◌≡◌, true}
use Rattle.std.proofs.lemmas.Fn.{filter_same, All-from_retain}
use Rattle.disk_core.specs.DiskImage.{reads}
use Rattle.segment_store.specs.Stale.{is_stale}
use Rattle.segment_store.proofs.SweepLemmas.{stale_filter}
use Rattle.segment_store.proofs.sweep.stale_files.Goals as goal

pub returns-clause-stale : goal.returns-clause-stale
returns-clause-stale g c obeys =
    stale_filter (reads (g.D.Disk.life c.args.disk.now).now) c.args.keeps.now c.in_ok-files.files.items c.retain.new.self.items (c.in_ok-files.ensures.files obeys)
    (filter_same _ (is_stale c.args.keeps.now) _ (λ x b f' k. search rules) _ _ c.retain.ensures.filtered)

pub returns-clause-each : goal.returns-clause-each
returns-clause-each g c = All-from_retain _ (λ file. is_stale c.args.keeps.now file ≡ true) _ (λ x b f' k. search rules) _ _ c.retain.ensures.filtered
