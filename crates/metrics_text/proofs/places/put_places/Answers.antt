-- The families are put one after another.
use Rattle.std.proofs.Common.{rules, ◌≡◌, ◌++◌, ℕ, List, codes, flat_map}
use Rattle.std.proofs.lemmas.Result.{on_ok_weaker}
use Rattle.std.specs.Prelude.{OnOk, string_bytes}
use Rattle.metrics_text.specs.MetricsText.{counter, family_text, ranks_family, recording_families, refusals_family}
use Rattle.metrics_text.proofs.MetricsLemmas.{put_first}
use Rattle.metrics_text.proofs.places.put_places.Goals as goal

pub returns : goal.returns
returns c =
    let p = c.args.places.now in
    let who : List ℕ = c.args.who.now in
    let end : List ℕ = string_bytes c.put_recordings.new.out in
    let recordings : List ℕ = flat_map family_text (recording_families who p) in
    let ranks : List ℕ = family_text (ranks_family who p) in
    let refusals : List ℕ = family_text (refusals_family who p.refused) in
    let foreign : List ℕ = family_text (counter who (codes "aeron_recorder_datagrams_foreign_total") (codes "Datagrams of another address or network.") p.foreign) in
    let last : OnOk c.put_recordings.result (end ≡ string_bytes c.put_ranks.new.out ++ recordings) = search rules in
    on_ok_weaker c.put_recordings.result (λ written.
    put_first (string_bytes c.args.out.now) foreign (string_bytes c.put_counter.new.out) (refusals ++ (ranks ++ recordings)) end c.in_ok-put_counter.ensures
    (put_first (string_bytes c.put_counter.new.out) refusals (string_bytes c.put_refusals.new.out) (ranks ++ recordings) end c.in_ok-put_refusals.ensures
    (put_first (string_bytes c.put_refusals.new.out) ranks (string_bytes c.put_ranks.new.out) recordings end c.in_ok-put_ranks.ensures written)))
    last
