use Rattle.std.proofs.Common.{◌≡◌, ◌∙◌, true, false, ap, sym, rules}
use Rattle.std.specs.Prelude.{nat_lt, count_by}
use Rattle.server_recorder.specs.Grouping.{due_seats, with_near}
use Rattle.server_recorder.proofs.SettlesLemmas.{chosen_first, chosen_second}
use Rattle.server_recorder.proofs.grouping.settling_seats.Goals as goal

pub returns-then-count-gt1 : goal.returns-then-count-gt1
returns-then-count-gt1 c =
    let s = c.args.settling.now in
    let due = due_seats c.args.block_waits c.args.taken.now s in
    let counted = c.count.ensures ∙ ap (count_by (λ is. is)) c.due_seats-due.ensures in
    let test : nat_lt 1 c.count.result ≡ true = search rules in
    let several : nat_lt 1 (count_by (λ is. is) due) ≡ true = ap (nat_lt 1) (sym counted) ∙ test in
    c.with_near.ensures ∙ (ap (with_near s) c.due_seats-due.ensures ∙ chosen_first (nat_lt 1 (count_by (λ is. is) due)) (with_near s due) due several)

pub returns-else-count-gt1 : goal.returns-else-count-gt1
returns-else-count-gt1 c =
    let s = c.args.settling.now in
    let due = due_seats c.args.block_waits c.args.taken.now s in
    let counted = c.count.ensures ∙ ap (count_by (λ is. is)) c.due_seats-due.ensures in
    let test : nat_lt 1 c.count.result ≡ false = search rules in
    let few : nat_lt 1 (count_by (λ is. is) due) ≡ false = ap (nat_lt 1) (sym counted) ∙ test in
    c.due_seats-due.ensures ∙ chosen_second (nat_lt 1 (count_by (λ is. is) due)) (with_near s due) due few
