use Rattle.std.proofs.Common.{rules, ◌≡◌, ◌++◌, ℕ, List, codes}
use Rattle.std.proofs.lemmas.Result.{on_ok_weaker}
use Rattle.std.specs.Prelude.{OnOk, string_bytes}
use Rattle.metrics_text.specs.MetricsText.{send_labels, send_metric_line, send_name, send_number}
use Rattle.metrics_text.proofs.MetricsLemmas.{put_first}
use Rattle.metrics_text.proofs.sends.put_send_line.Goals as goal

pub returns : goal.returns
unfolding send_metric_line
returns c =
    let name : List ℕ = send_name c.args.family in
    let labels : List ℕ = send_labels c.args.who.now c.args.send.now in
    let number : List ℕ = send_number c.args.family c.args.send.now in
    let end : List ℕ = string_bytes c.push_str-3.new.self in
    let last : OnOk c.push_str-3.result (end ≡ string_bytes c.put_send_number.new.out ++ codes "\n") = search rules in
    on_ok_weaker c.push_str-3.result (λ written.
    put_first (string_bytes c.args.out.now) name (string_bytes c.push_str.new.self) (labels ++ (codes " " ++ (number ++ codes "\n"))) end (rw c.name.ensures at c.in_ok-push_str.ensures.bytes)
    (put_first (string_bytes c.push_str.new.self) labels (string_bytes c.put_send_labels.new.out) (codes " " ++ (number ++ codes "\n")) end c.in_ok-put_send_labels.ensures
    (put_first (string_bytes c.put_send_labels.new.out) (codes " ") (string_bytes c.push_str-2.new.self) (number ++ codes "\n") end c.in_ok-push_str-2.ensures.bytes
    (put_first (string_bytes c.push_str-2.new.self) number (string_bytes c.put_send_number.new.out) (codes "\n") end c.in_ok-put_send_number.ensures written))))
    last
