-- A state all of whose recordings have stopped.
use Rattle.std.proofs.Common.{◌≡◌, ◌∙◌, ◌+◌, ℕ, ℤ, pos, negsuc, Bool, true, false, List, [], ◌∷◌, ap, ap₂, refl, cond, arith}
use Rattle.std.proofs.lemmas.Int.{ints}
use Rattle.std.specs.Prelude.{◌+ℤ◌, ◌≤ℤ◌, count_by, map}
use Rattle.std.specs.Ordering.{int_eq}
use Rattle.std.proofs.lemmas.List.Sums.{sum_by-cons}
use Rattle.archive_model.specs.declared.command.Command.TheVariants.{Restart}
use Rattle.archive_model.specs.Commands.{after, restarted, stopped}
use Rattle.archive_model.specs.Keyed.{Each}
use Rattle.archive_model.specs.Register as register
use Rattle.archive_model.specs.State.{Recording, State, is_active, register_of, registration_of}
use Rattle.archive_model.specs.WellFormed.{IsKept, IsWell}
use Rattle.frame_core.specs.Block.{covered}

-- a position from 0 on is not that of an active recording
not_negative : (z : ℤ) (n : ℕ) → pos 0 ≤ℤ z → int_eq (z +ℤ pos n) (negsuc 0) ≡ false
not_negative (pos m) n from = refl
not_negative (negsuc m) n from = absurd (omega (arith, ints, from))

-- a restart leaves no recording active
is_stopped : (r : Recording) → IsKept r → is_active (restarted r) ≡ false
is_stopped r kept = by (is_active r) refl
  where
    by : (b : Bool) → is_active r ≡ b → is_active (cond b (stopped (negsuc 0) r) r) ≡ false
    by true is = not_negative r.descriptor.start_position (covered r.frames) kept.start
    by false is = is

stopped_once : (rs : List Recording) → Each IsKept rs → map restarted (map restarted rs) ≡ map restarted rs
stopped_once [] kept = refl
stopped_once (r ∷ rs) kept =
    ap₂ (λ (x : Recording) (xs : List Recording). x ∷ xs) (ap (λ (b : Bool). cond b (stopped (negsuc 0) (restarted r)) (restarted r)) (is_stopped r kept.0)) (stopped_once rs kept.1)

none_counted : (rs : List Recording) → Each IsKept rs → count_by register.is_active (map registration_of (map restarted rs)) ≡ 0
none_counted [] kept = refl
none_counted (r ∷ rs) kept =
    sum_by-cons (λ g. cond (register.is_active g) 1 0) (registration_of (restarted r)) (map registration_of (map restarted rs))
    ∙ ap₂ (λ (b : Bool) (n : ℕ). cond b 1 0 + n) (is_stopped r kept.0) (none_counted rs kept.1)

-- it is its own restart
pub restart_again : (s : State) → IsWell s → after (after s Restart) Restart ≡ after s Restart
restart_again s well = ap (λ (rs : List Recording). let x : State = record { recordings = rs; next = s.next } in x) (stopped_once s.recordings well.kept)

pub none_active : (s : State) → IsWell s → register.active_count (register_of (after s Restart)) ≡ 0
none_active s well = none_counted s.recordings well.kept
