use Rattle.std.proofs.Common.{rules, ◌≡◌, ◌++◌, ℕ, List, codes}
use Rattle.std.proofs.lemmas.Result.{on_ok_weaker}
use Rattle.std.specs.Prelude.{OnOk, string_bytes}
use Rattle.metrics_text.specs.MetricsText.{image_labels, image_metric_line, image_name, image_number}
use Rattle.metrics_text.proofs.MetricsLemmas.{put_first}
use Rattle.metrics_text.proofs.print.put_image_line.Goals as goal

pub returns : goal.returns
unfolding image_metric_line
returns c =
    let name : List ℕ = image_name c.args.family in
    let labels : List ℕ = image_labels c.args.who.now c.args.image.now in
    let number : List ℕ = image_number c.args.family c.args.image.now in
    let end : List ℕ = string_bytes c.push_str-3.new.self in
    let last : OnOk c.push_str-3.result (end ≡ string_bytes c.put_image_number.new.out ++ codes "\n") = search rules in
    on_ok_weaker c.push_str-3.result (λ written.
    put_first (string_bytes c.args.out.now) name (string_bytes c.push_str.new.self) (labels ++ (codes " " ++ (number ++ codes "\n"))) end (rw c.name.ensures at c.in_ok-push_str.ensures.bytes)
    (put_first (string_bytes c.push_str.new.self) labels (string_bytes c.put_image_labels.new.out) (codes " " ++ (number ++ codes "\n")) end c.in_ok-put_image_labels.ensures
    (put_first (string_bytes c.put_image_labels.new.out) (codes " ") (string_bytes c.push_str-2.new.self) (number ++ codes "\n") end c.in_ok-push_str-2.ensures.bytes
    (put_first (string_bytes c.push_str-2.new.self) number (string_bytes c.put_image_number.new.out) (codes "\n") end c.in_ok-put_image_number.ensures written))))
    last
