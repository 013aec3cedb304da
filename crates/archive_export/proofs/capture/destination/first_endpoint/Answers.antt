use Rattle.std.proofs.Common.{rules, ◌≡◌, ◌∙◌, ap, sym, ℕ, ◌+◌, ◌-◌, ◌<◌, List, Bool, true, false, length, take, drop, get_or, length-drop, lit<, arith}
use Rattle.std.specs.Prelude.{Some, codes, nat_eq, ◌==◌, if◌then◌else◌}
use Rattle.std.specs.List.{slice_split, starts_with}
use Rattle.std.proofs.lemmas.List.{at_drop_more, at_drop_all, length_push, take_all}
use Rattle.std.proofs.lemmas.Iterator.Consumers.{YieldsList-turn, YieldsList-end}
use Rattle.std.proofs.lemmas.Iterator.Splits.{YieldsList-from_str_split}
use Rattle.archive_export.specs.Destination.{first_endpoint}
use Rattle.archive_export.proofs.capture.destination.first_endpoint.Goals as goal

-- the endpoint from a parameter on
from_part : (parts : List (List ℕ)) (i : ℕ) (part : List ℕ) (begins : Bool) → (i < length parts) × (part ≡ get_or parts i part)
    → starts_with nat_eq part (codes "endpoint=") ≡ begins
    → first_endpoint (drop i parts) ≡ (if begins then Some (drop 9 part) else first_endpoint (drop (i + 1) parts))
from_part parts i part begins (within, is) starts =
    at_drop_more first_endpoint parts i part within ∙ ap (λ (p : List ℕ). if starts_with nat_eq p (codes "endpoint=") then Some (drop 9 p) else first_endpoint (drop (i + 1) parts)) (sym is)
    ∙ ap (λ (b : Bool). if b then Some (drop 9 part) else first_endpoint (drop (i + 1) parts)) starts

pub returns-then-starts_with : goal.returns-then-starts_with
returns-then-starts_with c =
    let parts = slice_split (λ b. b == 124) c.args.parameters.now in
    let part = c.in-Some.parameter.now in
    let text = c.as_bytes-text.result.now in
    let chain = YieldsList-from_str_split {s = c.into_iter-parameter-iterator.result} 124 c.args.parameters.now (lit< tt) (search rules) (search rules) (search rules) in
    let turn = YieldsList-turn chain c.loop-parameter.yielded _ c.loop-parameter.yielded_by _ _ c.in-Some.parameter c.in-Some.is c.next.ensures.steps in
    let starts : starts_with nat_eq part (codes "endpoint=") ≡ true = ap (λ (t : List ℕ). starts_with nat_eq t (codes "endpoint=")) (sym c.as_bytes-text.ensures.value) ∙ sym c.starts_with.ensures.value ∙ c.if-starts_with.true in
    let whole : take (length text - 9) (drop 9 text) ≡ drop 9 text = take_all _ (drop 9 text) (omega (arith, length-drop 9 text)) in
    ap Some (whole ∙ ap (λ (t : List ℕ). drop 9 t) c.as_bytes-text.ensures.value) ∙ sym (from_part parts (length c.loop-parameter.yielded) part true turn starts) ∙ c.loop-parameter.invariant

pub loop-parameter-preserved : goal.loop-parameter-preserved
loop-parameter-preserved c =
    let parts = slice_split (λ b. b == 124) c.args.parameters.now in
    let part = c.in-Some.parameter.now in
    let chain = YieldsList-from_str_split {s = c.into_iter-parameter-iterator.result} 124 c.args.parameters.now (lit< tt) (search rules) (search rules) (search rules) in
    let turn = YieldsList-turn chain c.loop-parameter.yielded _ c.loop-parameter.yielded_by _ _ c.in-Some.parameter c.in-Some.is c.next.ensures.steps in
    let starts : starts_with nat_eq part (codes "endpoint=") ≡ false = ap (λ (t : List ℕ). starts_with nat_eq t (codes "endpoint=")) (sym c.as_bytes-text.ensures.value) ∙ sym c.starts_with.ensures.value ∙ c.if-starts_with.false in
    ap (λ (n : ℕ). first_endpoint (drop n parts)) (length_push c.loop-parameter.yielded c.in-Some.parameter)
    ∙ sym (from_part parts (length c.loop-parameter.yielded) part false turn starts) ∙ c.loop-parameter.invariant

pub returns : goal.returns
returns c =
    let parts = slice_split (λ b. b == 124) c.args.parameters.now in
    let chain = YieldsList-from_str_split {s = c.into_iter-parameter-iterator.result} 124 c.args.parameters.now (lit< tt) (search rules) (search rules) (search rules) in
    let end = YieldsList-end chain c.loop-parameter.yielded _ c.loop-parameter.yielded_by _ _ c.in-None.is c.next.ensures.steps in
    sym (at_drop_all first_endpoint parts (length c.loop-parameter.yielded) (omega (arith, end.1))) ∙ c.loop-parameter.invariant
