use Rattle.std.proofs.Common.{◌≡◌, ◌&&◌, ◌||◌, negsuc, Bool, true, false, Some, refl, rules, FitsSigned, w64}
use Rattle.std.proofs.lemmas.Int.{to_z-of_z}
use Rattle.std.specs.Prelude.{int_le}
use Rattle.archive_model.specs.Register.{is_end, is_within, registration_in}
use Rattle.control_core.specs.Turns.{begins_at}
use Rattle.control_core.proofs.turns.decide_open.Goals as goal

or_true : (b : Bool) → (b || true) ≡ true
or_true true = refl
or_true false = refl

pub returns-clause-decided : goal.returns-clause-decided
returns-clause-decided c =
    let known = c.in-Some.known.now in
    let next = begins_at c.args.position.now (Some known) in
    let found : registration_in c.args.desk.now.state.register c.args.recording.now ≡ Some known = search rules in
    let numbers : (int_le (negsuc 0) c.args.position.now && int_le (negsuc 0) c.args.length.now) ≡ true = search rules in
    let within : is_within next known ≡ true = search rules in
    let fits : FitsSigned w64 c.begins_at-next.result = search rules in
    rw (c.opened_at.ensures.decided, c.behind_boundary-decided.ensures, to_z-of_z w64 c.begins_at-next.result fits, c.begins_at-next.ensures, found, numbers, within, or_true (is_end next known)) refl
