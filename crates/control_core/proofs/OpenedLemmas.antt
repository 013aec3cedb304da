-- Where a replay is opened.
use Rattle.std.proofs.Common.{◌≡◌, sym, subst, ℤ, ◌≤ℤ◌, true, true≢false, ◌||◌, ◌++◌, [], Option, None, Some}
use Rattle.std.specs.Prelude.{IsSomeAnd, Result, Ok, int_le}
use Rattle.frame_core.specs.declared.refusal.Refusal.{Refusal}
use Rattle.frame_core.specs.declared.refusal.Refusal.TheVariants.{BadPosition}
use Rattle.archive_model.specs.declared.registration.Registration.{Registration}
use Rattle.archive_model.specs.Checks.{Tests, block_checks, checked, first_checks, is_boundary_by, is_of, last_checks}
use Rattle.archive_model.specs.Register.{is_end, is_within, registration_in}
use Rattle.archive_model.proofs.WellLemmas.{both}
use Rattle.control_core.specs.declared.turns.Opening.{Opening}
use Rattle.control_core.specs.Desk.{DeskState}
use Rattle.control_core.specs.Orderly.{BeginsBy}
use Rattle.control_core.specs.Turns.{begins_at, open_decision, open_tests, opened_at, opening_in, opening_of}
use Rattle.control_core.proofs.AllowedLemmas.{before_position, passes_at}
use Rattle.control_core.proofs.CallLemmas.{opened_behind, opened_front}
use Rattle.control_core.proofs.DecidedLemmas.{held}
use Rattle.control_core.proofs.LaidLemmas.{le_true}

-- a boundary of a recording is not before its start
boundary_low : (o : Option Registration) (next : ℤ) → is_of o (is_boundary_by true next) ≡ true → IsSomeAnd o (λ known. known.descriptor.start_position ≤ℤ next)
boundary_low None next is = absurd (true≢false (sym is))
boundary_low (Some r) next is =
    let parts : (is_within next r ≡ true) × ((is_end next r || true) ≡ true) = both is in
    let ends : (int_le r.descriptor.start_position next ≡ true) × (int_le next r.recorded ≡ true) = both parts.0 in
    le_true r.descriptor.start_position next ends.0

-- nor is where a replay is opened
pub opens_from_start : (d : DeskState) (id position size : ℤ) (o : Opening) → opening_in (open_decision d id position size) ≡ Some o → BeginsBy o.next d.register o.recording
opens_from_start d id position size o leads =
    let tests : Tests = open_tests d id position size true in
    let found : Option Registration = registration_in d.register id in
    let next : ℤ = begins_at position found in
    let behind : Result Opening Refusal = checked tests (block_checks ++ last_checks) (Ok (opening_of d id position size)) in
    let first = opened_front tests first_checks (opened_at found behind next) o leads in
    let made = (held tests (block_checks ++ last_checks) (opening_of d id position size) o (opened_behind found behind next o first.1)).1 in
    let low : IsSomeAnd found (λ known. known.descriptor.start_position ≤ℤ next) = boundary_low found next (passes_at tests before_position [] BadPosition first.0) in
    subst (λ (x : Opening). BeginsBy x.next d.register x.recording) made low
