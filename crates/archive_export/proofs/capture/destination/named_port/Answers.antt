use Rattle.std.proofs.Common.{◌≡◌, ℕ, ◌*◌, ◌+◌, ◌≤◌, List, [], ◌∷◌, drop, arith}
use Rattle.std.proofs.lemmas.List.{at_drop_more}
use Rattle.std.specs.Str.Parse.{digits_value, digits_value_after}
use Rattle.std.specs.Char.{digit_value}
use Rattle.archive_export.proofs.capture.destination.named_port.Goals as goal

-- digits behind a number make it no less
at_least : (n : ℕ) (digits : List ℕ) → n ≤ digits_value_after 10 n digits
at_least n [] = omega arith
at_least n (c ∷ cs) = omega (arith, at_least (n * 10 + digit_value c) cs)

pub returns-then-port-gt65535 : goal.returns-then-port-gt65535
returns-then-port-gt65535 c port has =
    let text = c.args.text.now in
    let i = c.loop-byte.byte-index in
    let so_far = c.loop-byte.port * 10 + c.in_ok-digit.digit in
    let next : digits_value_after 10 so_far (drop (i + 1) text) ≡ digits_value 10 text = grind (arith, at_drop_more (digits_value_after 10 c.loop-byte.port) text i 0 c.loop-byte-test.true, c.loop-byte.invariant, c.in_ok-digit.ensures.value, c.from.ensures) in
    let most = at_least so_far (drop (i + 1) text) in
    omega (arith, next, most, has.is, has.few, c.if-port-gt65535.true)
