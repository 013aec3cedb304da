use Rattle.std.proofs.Common.{rules, ◌≡◌, ◌∙◌, ap, ℤ, ◌+ℤ◌, ◌-ℤ◌, FitsSigned, w32, arith}
use Rattle.std.specs.Int.{int_wrap}
use Rattle.std.proofs.lemmas.Int.{wraps, ints, int_wrap-add_left, int_wrap_fits}
use Rattle.frame_core.proofs.positions.term_after.Goals as goal
use lib.IntN.{neg_ℤ}

-- wrapping twice is wrapping once, and what fits is not changed
after : (a n t : ℤ) → FitsSigned w32 n → t ≡ int_wrap w32 (a +ℤ n) → int_wrap w32 (t -ℤ a) ≡ n
after a n t fits wrapped =
    ap (λ z. int_wrap w32 (z -ℤ a)) wrapped ∙ int_wrap-add_left w32 (a +ℤ n) (neg_ℤ a) ∙ ap (int_wrap w32) (omega (arith, ints)) ∙ int_wrap_fits w32 n fits

pub returns : goal.returns
returns c = after c.args.geometry.now.initial_term_id c.args.terms _ (search rules) (search (rules, wraps))
