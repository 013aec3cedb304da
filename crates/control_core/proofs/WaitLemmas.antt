-- A session's part of its recording lies in it.
use Rattle.std.proofs.Common.{◌≡◌, true, subst, ℤ, ◌<◌, ◌≤◌, ◌≤ℤ◌, ◌^◌, Option, Some, None, unsigned_abs, arith, ap}
use Rattle.std.proofs.Math.Pow.{pow_mono}
use Rattle.std.proofs.lemmas.Int.{ints}
use Rattle.std.specs.Prelude.{IfSome, IsSomeAnd}
use Rattle.frame_core.specs.Limits.{is_term_length}
use Rattle.frame_core.proofs.LimitsLemmas.{is_power}
use Rattle.archive_model.specs.declared.registration.Registration.{Registration}
use Rattle.archive_model.specs.Register.{id_of, registration_in}
use Rattle.archive_model.proofs.StateLemmas.{each_found}
use Rattle.record_core.specs.Writing.{IsPartOf}
use Rattle.control_core.specs.declared.callers.RecorderSession.{RecorderSession}
use Rattle.control_core.specs.declared.callers.Written.{Written}
use Rattle.control_core.specs.Callers.{session_number, written_to}
use Rattle.control_core.specs.Desk.{DeskState}
use Rattle.control_core.specs.Orderly.{IsLaid, KeepsDesk, LiesBehind, WroteBehind}
use Rattle.control_core.specs.Turns.{part_of, session_in}

-- a term or segment is some bytes long
some_length : (z : ℤ) → is_term_length z ≡ true → 0 < unsigned_abs z
some_length z is =
    let power = is_power z is in
    let least : 2 ^ 16 ≤ 2 ^ power.0 = pow_mono power.1 in
    let whole : unsigned_abs z ≡ 2 ^ power.0 = ap unsigned_abs power.3 in omega (arith, whole, least)

-- what a session wrote ends where its recording does or behind it
ends_behind : (o : Option Written) (known : Registration) → IfSome o (λ w. IsSomeAnd (Some known) (LiesBehind w)) → known.recorded ≤ℤ written_to o known.recorded
ends_behind None known lies = omega (arith, ints)
ends_behind (Some w) known lies = omega (arith, ints, lies.behind, lies.forward)

pub part_lies : (d : DeskState) (number : ℤ) (s : RecorderSession) (known : Registration) → KeepsDesk d.register d.callers → session_in d number ≡ Some s → registration_in d.register s.recording ≡ Some known → IsPartOf known.descriptor (part_of known s)
part_lies d number s known keeps found there =
    let laid : IsLaid known = each_found id_of IsLaid s.recording d.register.recordings known keeps.orderly.register there in
    let behind : WroteBehind d.register s = each_found session_number (WroteBehind d.register) number d.callers.sessions s keeps.orderly.sessions found in
    let here : IfSome s.written (λ w. IsSomeAnd (Some known) (LiesBehind w)) = subst (λ (o : Option Registration). IfSome s.written (λ w. IsSomeAnd o (LiesBehind w))) there behind in
    let more : known.recorded ≤ℤ written_to s.written known.recorded = ends_behind s.written known here in
    let layout = laid.laid_out.layout in
    let start = layout.start_is in
    record {
      term = some_length known.descriptor.term_length layout.term;
      segment = some_length known.descriptor.segment_length layout.segment;
      committed = omega (arith, ints, start, laid.from_start);
      written = omega (arith, ints, start, laid.from_start, more);
    }
