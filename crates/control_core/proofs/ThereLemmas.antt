-- The recording of an open session is there, and that of an open replay.
use Rattle.std.proofs.Common.{◌≡◌, ℤ, true, Option, None, Some, subst, sym, true≢false}
use Rattle.archive_model.specs.Checks.{is_of}
use Rattle.archive_model.specs.Keyed.{find}
use Rattle.archive_model.specs.Register.{RegisterState, is_active, registration_in}
use Rattle.archive_model.proofs.StateLemmas.{each_found}
use Rattle.archive_model.specs.declared.registration.Registration.{Registration}
use Rattle.control_core.specs.declared.callers.OpenReplay.{OpenReplay}
use Rattle.control_core.specs.declared.callers.RecorderSession.{RecorderSession}
use Rattle.control_core.specs.Callers.{CallersState, replay_number, session_number}
use Rattle.control_core.specs.Orderly.{KeepsDesk}
use Rattle.control_core.specs.Seats.{IsReading, IsWriting}

pub writes_there : (g : RegisterState) (c : CallersState) (n : ℤ) (s : RecorderSession) → KeepsDesk g c → find session_number n c.sessions ≡ Some s
    → registration_in g s.recording ≡ None → ⊥
writes_there g c n s keeps found none =
    let writing : is_of (registration_in g s.recording) is_active ≡ true = each_found session_number (IsWriting g) n c.sessions s keeps.seats.sessions.writing found in
    let is : is_of None is_active ≡ true = subst (λ (o : Option Registration). is_of o is_active ≡ true) none writing in
    absurd (true≢false (sym is))

pub reads_there : (g : RegisterState) (c : CallersState) (n : ℤ) (r : OpenReplay) → KeepsDesk g c → find replay_number n c.replays ≡ Some r
    → registration_in g r.recording ≡ None → ⊥
reads_there g c n r keeps found none =
    let reading : is_of (registration_in g r.recording) (λ known. true) ≡ true = each_found replay_number (IsReading g) n c.replays r keeps.seats.replays.reading found in
    let is : is_of None (λ known. true) ≡ true = subst (λ (o : Option Registration). is_of o (λ known. true) ≡ true) none reading in
    absurd (true≢false (sym is))
