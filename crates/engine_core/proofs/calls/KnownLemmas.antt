-- What a desk knows of a recording, and the files are asked of it.
use Rattle.std.proofs.Common.{◌≡◌, ◌∙◌, sym, ap, subst, refl, ℤ, pos, ◌≤ℤ◌, Bool, true, true≢false, List, [], ◌∷◌, Option, Some, None, All, map, arith}
use Rattle.std.proofs.lemmas.Int.{ints}
use Rattle.std.proofs.lemmas.List.Elements.{All-cons, All-nil}
use Rattle.std.proofs.lemmas.Simd.{map-map}
use Rattle.std.specs.Prelude.{IfSome, IsSomeAnd, IsTrue, option_map}
use Rattle.engine_core.proofs.Words.{Archive, Below, DeskState, Each, HoldsRecording, IsCrashConsistent, IsFromStart, IsKept, IsLaid, IsLayout, IsWriting, Keep, KeepsDesk, LiesBehind, Life, LogState, MayLeave, OpenReplay, RecorderSession, Recording, RecordingIsRead, RegisterState, Registration, State, Written, each_found, geometry_of, id_of, is_of, keeps_of, layout_of, open_replay_in, reads, recording_at, register_of, registered_keeps, registration_in, registration_of, replay_number, session_in, session_number, written_to}
use Rattle.segment_store.specs.Layout.{IsGeometryOf}
use Rattle.segment_store.specs.Stale.{IsKeep}
use Rattle.archive_model.specs.Register as register
use Rattle.archive_model.specs.Register.{is_active}
use Rattle.archive_model.proofs.StateLemmas.{found_registration}
use Rattle.control_core.specs.Agreement.{Agrees}
use Rattle.control_core.specs.Changes.{next_position, recorded_of}
use Rattle.control_core.specs.Orderly.{IsLaidOut, ReadsFromStart, WroteBehind}
use Rattle.control_core.specs.Seats.{KeepsSeats}
use Rattle.control_core.specs.Turns.{continues}
use Rattle.engine_core.specs.Moves.{registered_keep}
use Rattle.engine_core.proofs.files.RecoveryLemmas.{durable_hold}
use Rattle.std.proofs.lemmas.Bool.Decides.{Decides-int_eq}

-- ---- the desk and the state

-- what the desk knows of a recording is what the state has
pub record IsKnown (a : Archive) (id : ℤ) (g : Registration) : Type 0 where
  pub recording : Recording
  pub found : recording_at a id ≡ Some recording
  pub is : g ≡ registration_of recording

pub known_recording : (a : Archive) (id : ℤ) (g : Registration) → Agrees a.desk a.state
    → registration_in a.desk.register id ≡ Some g → IsKnown a id g
known_recording a id g agrees found = by (recording_at a id) refl (sym (found_registration id a.state.recordings) ∙ ap (λ (r : RegisterState). registration_in r id) (sym agrees) ∙ found)
  where
    none : None ≡ Some g → ⊥
    none e = cc

    by : (o : Option Recording) → recording_at a id ≡ o → option_map registration_of o ≡ Some g
        → IsKnown a id g
    by None is known = absurd (none known)
    by (Some r) is known = record { recording = r; found = is; is = cc }

pub registered_of : (a : Archive) (id : ℤ) (r : Recording) → Agrees a.desk a.state
    → recording_at a id ≡ Some r → registration_in a.desk.register id ≡ Some (registration_of r)
registered_of a id r agrees found = ap (λ (g : RegisterState). registration_in g id) agrees ∙ found_registration id a.state.recordings ∙ ap (option_map registration_of) found

pub one_known : (g h : Registration) → Some g ≡ Some h → g ≡ h
one_known g h is = cc

-- a recording of a crash-consistent archive is read as it is recorded
pub is_read : (old new : Life) (log : LogState) (a : Archive) (id : ℤ) (g : Registration) (r : Recording) → MayLeave old.now (reads old.now) → IsCrashConsistent old log a → Some g ≡ registration_in a.desk.register id
    → recording_at a id ≡ Some r → IsTrue new.obeys → RecordingIsRead old new g r
is_read old new log a id g r stays was known found obeys = record {
  obeys = obeys;
  is = one_known g (registration_of r) (known ∙ registered_of a id r was.archive.agrees found);
  kept = each_found id_of IsKept id a.state.recordings r was.archive.well.kept found;
  stands = each_found id_of (HoldsRecording (reads old.now)) id a.state.recordings r (durable_hold old.now (reads old.now) a.state.recordings stays was.frames) found;
}

pub read_known : (old new : Life) (log : LogState) (a : Archive) (id : ℤ) (g : Registration) → MayLeave old.now (reads old.now) → IsCrashConsistent old log a → Some g ≡ registration_in a.desk.register id → IsTrue new.obeys
    → (r : Recording) × (recording_at a id ≡ Some r) × RecordingIsRead old new g r
read_known old new log a id g stays was found obeys =
    let same = known_recording a id g was.archive.agrees (sym found) in
    (same.recording, same.found, is_read old new log a id g same.recording stays was found same.found obeys)

-- ---- what is there

pub is_there : (o : Option Registration) (test : Registration → Bool) → is_of o test ≡ true
    → (r : Registration) × (o ≡ Some r)
is_there None test is = absurd (true≢false (sym is))
is_there (Some r) test is = (r, refl)

pub test_of : (o : Option Registration) (test : Registration → Bool) (r : Registration)
    → o ≡ Some r → is_of o test ≡ true → test r ≡ true
test_of o test r found is = ap (λ (x : Option Registration). is_of x test) (sym found) ∙ is

-- a recording that is laid out
pub layout_laid : (g : Registration) → IsLaidOut g → IsLayout (layout_of g.descriptor)
layout_laid g laid = record {
  term = laid.layout.term;
  segment = laid.layout.segment;
  no_less = laid.layout.no_less;
  start = laid.layout.start;
  start_is = laid.layout.start_is;
  in_terms = laid.layout.in_terms;
}

pub geometry_laid : (g : Registration) → IsLaidOut g
    → IsGeometryOf (layout_of g.descriptor) (geometry_of g.descriptor)
geometry_laid g laid = record { term = refl; mtu = laid.mtu }

-- a recording that is found is laid
pub laid_found : (d : DeskState) (id : ℤ) (g : Registration) → KeepsDesk d.register d.callers
    → Some g ≡ registration_in d.register id → IsLaid g
laid_found d id g keeps found = each_found register.id_of IsLaid id d.register.recordings g keeps.orderly.register (sym found)

-- its positions are from 0 on
pub laid_low : (r : Registration) → IsLaid r
    → (pos 0 ≤ℤ r.descriptor.start_position) × (pos 0 ≤ℤ r.recorded)
laid_low r laid =
    let layout = laid.laid_out.layout in
    let low : pos 0 ≤ℤ r.descriptor.start_position = omega (arith, ints, layout.start_is) in
    (low, omega (arith, ints, low, laid.from_start))

-- what a register keeps of the files is as a sweep asks for it, and is what the state keeps

keeps_laid : (rs : List Registration) → Each IsLaid rs → All IsKeep (map registered_keep rs)
keeps_laid [] laid = All-nil IsKeep
keeps_laid (r ∷ rs) laid = All-cons IsKeep (registered_keep r) (map registered_keep rs) (layout_laid r laid.0.laid_out, laid.0.from_start) (keeps_laid rs laid.1)

pub keeps_are : (d : DeskState) → KeepsDesk d.register d.callers
    → All IsKeep (registered_keeps d.register)
keeps_are d keeps = All-cons IsKeep (Below d.register.next) (map registered_keep d.register.recordings) tt (keeps_laid d.register.recordings keeps.orderly.register)

pub keeps_same : (s : State) → registered_keeps (register_of s) ≡ keeps_of s
keeps_same s = ap (λ (ks : List Keep). Below s.next ∷ ks) (map-map registered_keep registration_of s.recordings)

-- ---- sessions

-- the recording that an open session writes is there, and active
pub session_recording : (d : DeskState) (number : ℤ) (s : RecorderSession) → KeepsSeats d.register d.callers → session_in d number ≡ Some s → (r : Registration) × (registration_in d.register s.recording ≡ Some r) × (is_active r ≡ true)
session_recording d number s seats found =
    let writing : IsWriting d.register s = each_found session_number (IsWriting d.register) number d.callers.sessions s seats.sessions.writing found in
    let there = is_there (registration_in d.register s.recording) is_active writing in
    (there.0, there.1, test_of (registration_in d.register s.recording) is_active there.0 there.1 writing)

-- what a session wrote lies behind what is recorded
pub written_behind : (d : DeskState) (number : ℤ) (s : RecorderSession) (r : Registration) (w : Written) → KeepsDesk d.register d.callers → session_in d number ≡ Some s → registration_in d.register s.recording ≡ Some r → s.written ≡ Some w → LiesBehind w r
written_behind d number s r w keeps found there has =
    let wrote : WroteBehind d.register s = each_found session_number (WroteBehind d.register) number d.callers.sessions s keeps.orderly.sessions found in
    subst (λ (o : Option Registration). IsSomeAnd o (LiesBehind w)) there (subst (λ (o : Option Written). IfSome o (λ x. IsSomeAnd (registration_in d.register s.recording) (LiesBehind x))) has wrote)

pub written_from_start : (d : DeskState) (number : ℤ) (s : RecorderSession) (r : Registration) (w : Written) → KeepsDesk d.register d.callers → session_in d number ≡ Some s → registration_in d.register s.recording ≡ Some r → s.written ≡ Some w
    → IsFromStart (layout_of r.descriptor) w.first
written_from_start d number s r w keeps found there has =
    let laid = laid_found d s.recording r keeps (sym there) in
    let lies = written_behind d number s r w keeps found there has in omega (arith, ints, laid.from_start, lies.behind)

-- where a session's next block begins
pub begins_behind : (d : DeskState) (s : RecorderSession) (r : Registration) (o : Option Written) (w : Written) → registration_in d.register s.recording ≡ Some r → s.written ≡ o → continues d (Some s) w ≡ true → w.first ≡ written_to o r.recorded
begins_behind d s r o w there has is =
    (Decides-int_eq w.first (next_position d s)).0 is ∙ ap (λ (x : Option Written). written_to x (recorded_of (registration_in d.register s.recording))) has
    ∙ ap (λ (x : Option Registration). written_to o (recorded_of x)) there

-- a block that goes on where a session writes begins behind what is recorded, and so behind the start
pub block_behind : (d : DeskState) (number : ℤ) (s : RecorderSession) (r : Registration) (w : Written) → KeepsDesk d.register d.callers → session_in d number ≡ Some s → registration_in d.register s.recording ≡ Some r → continues d (Some s) w ≡ true → r.recorded ≤ℤ w.first
block_behind d number s r w keeps found there goes_on = by s.written refl
  where
    by : (o : Option Written) → s.written ≡ o → r.recorded ≤ℤ w.first
    by None has = let at : w.first ≡ r.recorded = begins_behind d s r None w there has goes_on in omega (arith, ints, at)
    by (Some v) has =
        let at : w.first ≡ v.last = begins_behind d s r (Some v) w there has goes_on in
        let lies = written_behind d number s r v keeps found there has in omega (arith, ints, at, lies.behind, lies.forward)

pub block_from_start : (d : DeskState) (number : ℤ) (s : RecorderSession) (r : Registration) (w : Written) → KeepsDesk d.register d.callers → session_in d number ≡ Some s → registration_in d.register s.recording ≡ Some r → continues d (Some s) w ≡ true
    → IsFromStart (layout_of r.descriptor) w.first
block_from_start d number s r w keeps found there goes_on =
    let laid = laid_found d s.recording r keeps (sym there) in
    let behind = block_behind d number s r w keeps found there goes_on in omega (arith, ints, laid.from_start, behind)

-- ---- replays

-- what is found has it
found_some : (o : Option Registration) (P : Registration → Type 0) → IsSomeAnd o P
    → (r : Registration) × (o ≡ Some r) × P r
found_some None P has = absurd has
found_some (Some r) P has = (r, refl, has)

-- the recording that an open replay gives is there, and it goes on at its start or behind it
pub replay_recording : (d : DeskState) (number : ℤ) (replay : OpenReplay) → KeepsDesk d.register d.callers → open_replay_in d number ≡ Some replay → (r : Registration) × (registration_in d.register replay.recording ≡ Some r) × IsFromStart (layout_of r.descriptor) replay.next
replay_recording d number replay keeps found =
    let reads : ReadsFromStart d.register replay = each_found replay_number (ReadsFromStart d.register) number d.callers.replays replay keeps.orderly.replays found in
    found_some (registration_in d.register replay.recording) (λ known. known.descriptor.start_position ≤ℤ replay.next) reads
