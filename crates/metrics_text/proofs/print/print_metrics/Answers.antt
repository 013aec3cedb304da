use Rattle.std.proofs.Common.{◌++◌, ◌∙◌, ap, ℕ, List, flat_map}
use Rattle.std.specs.Prelude.{string_bytes}
use Rattle.metrics_text.specs.MetricsText.{about_families, family_text, measures_text, metrics_text}
use Rattle.metrics_text.proofs.MetricsLemmas.{put_first}
use Rattle.metrics_text.proofs.print.print_metrics.Goals as goal

pub returns : goal.returns
returns c =
    let a = c.args.about.now in
    let m = c.args.measures.now in
    put_first (string_bytes c.new-out.result) (flat_map family_text (about_families a)) (string_bytes c.put_about.new.out) (measures_text a.name.now m) (string_bytes c.put_measures.new.out) c.in_ok-put_about.ensures c.in_ok-put_measures.ensures
    ∙ ap (λ (front : List ℕ). front ++ metrics_text a m) c.new-out.ensures.bytes
