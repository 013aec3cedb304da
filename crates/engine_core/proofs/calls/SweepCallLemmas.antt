-- How a sweep of an archive ends.
use Rattle.std.proofs.Common.{◌≡◌, ◌∙◌, inl, inr, sym, ap, subst, refl, ℕ, ℤ, pos, ◌+◌, ◌≤◌, Bool, true, true≢false, false, List, Option, Some, arith}
use Rattle.std.proofs.lemmas.Int.{ints}
use Rattle.std.specs.Prelude.{◌⊎◌, IsTrue, IsErrOf, Result, Ok, Err, not}
use Rattle.engine_core.proofs.Words.{Archive, CallEnded, CallEnds, Content, DeskState, DeviceFault, Each, EndsAs, EndsEvent, EngineState, Event, FileState, HasFailed, IsCrashConsistent, IsEither, IsKept, IsOutside, IsQuiet, IsSound, IsWell, IsWriting, Keep, Life, NoMemory, RecorderSession, Recording, RecoversTo, Refusal, Registration, Reply, StandsBehind, State, Stepped, archive_of, asked_of, both, checked, checks, covered, each_found, file_of, find, first_of, frames_of, held, id_of, is_active, is_of, keeps_of, last_of, layout_of, passes, reads, recorded_position, recording_at, registered_keeps, told_of, weaker}
use Rattle.segment_store.specs.Stale.{HasSwept}
use Rattle.archive_model.specs.declared.reply.Reply.TheVariants as replies
use Rattle.archive_model.specs.Register as register
use Rattle.control_core.specs.declared.asked.Asked.TheVariants as calls
use Rattle.control_core.specs.declared.asked.Told.TheVariants as told
use Rattle.control_core.specs.declared.event.Event.TheVariants as events
use Rattle.control_core.specs.ByDecision.{SweepsBy}
use Rattle.control_core.specs.Exact.{SweepEnds}
use Rattle.control_core.specs.Turns.{sweep_tests}
use Rattle.control_core.proofs.StepLemmas.{sweep_step}
use Rattle.engine_core.specs.Moves.{SparesKept, StaysSound}
use Rattle.engine_core.proofs.calls.EndedLemmas.{as_before, bank_told, done, no_doubt, quiet_goes_on, quiet_life, recovers_as, renews, same_bank, sound_consistent, spared, still}
use Rattle.engine_core.proofs.files.FrameLemmas.{each_both, each_then}
use Rattle.engine_core.proofs.calls.KnownLemmas.{keeps_same, registered_of}
use Rattle.engine_core.proofs.calls.StandLemmas.{frames_behind}

-- ---- a call that leaves everything as it was

-- one answer is one refusal
pub one_refusal : (answer : Result Reply Refusal) (x y : Refusal) → answer ≡ Err x → answer ≡ Err y
    → x ≡ y
one_refusal answer x y this that = cc

pub unmoved : (old : EngineState) (event : Event) (outcome : Result Reply Refusal) → renews event ≡ false → (IsErrOf outcome DeviceFault → ⊥) → ((removed : Bool) → event ≡ events.Sweep → outcome ≡ Ok (replies.Swept removed) → ⊥) → Stepped old.desk (asked_of event) (told_of old.desk event outcome) old.desk
    → ((c : Content) → IsCrashConsistent old.life old.log (archive_of old c) → EndsAs old.life old.life event (archive_of old c) outcome (archive_of old c)) → EndsEvent old old event outcome
unmoved old event outcome beside no_fault no_sweep step ends = record {
  goes_on = quiet_goes_on old.life old.life (quiet_life old.life);
  bank = bank_told event old old.log outcome beside (same_bank old.log old.log refl);
  cause = λ fault. absurd (no_fault fault);
  machine = step;
  kept = spared _ old old outcome (as_before old);
  swept = λ removed sweep is. absurd (no_sweep removed sweep is);
  ended = λ c was cut. still old old (archive_of old c) (EndsAs old.life old.life event (archive_of old c) outcome) (quiet_life old.life) refl refl was (ends c was);
}

-- ---- what is decided on a sweep

abbrev pub sweep_decision : DeskState → Result (Unit {0}) Refusal
sweep_decision d = checked (sweep_tests d) checks (Ok tt)

pub sweep_passes : (d : DeskState) (x : Unit {0}) → Ok x ≡ sweep_decision d
    → passes (sweep_tests d) checks ≡ true
sweep_passes d x is = (held (sweep_tests d) checks tt x (sym is)).0

is_not : (b : Bool) → not b ≡ true → b ≡ false
is_not false is = refl
is_not true is = absurd (true≢false (sym is))

-- nothing has failed where it is let through
pub sweep_works : (d : DeskState) (x : Unit {0}) → Ok x ≡ sweep_decision d → d.is_broken ≡ false
sweep_works d x is = is_not d.is_broken (both (sweep_passes d x is)).0

-- ---- what sessions wrote

-- the files of an active recording, from its start on, are as before
abbrev KeepsActive : Life → Life → State → Type 0
KeepsActive old new s = (id : ℤ) (r : Recording) (p : ℕ) → find id_of id s.recordings ≡ Some r → is_active r ≡ true → first_of r ≤ p → new.now (file_of (layout_of r.descriptor) p) ≡ old.now (file_of (layout_of r.descriptor) p)

first_last : (r : Recording) → IsKept r → first_of r ≤ last_of r
first_last r kept =
    let start : pos (first_of r) ≡ r.descriptor.start_position = omega (arith, ints, kept.start) in
    let whole : pos (last_of r) ≡ recorded_position r = omega (arith, ints, start) in
    omega (arith, ints, start, whole)

module _ (old new : EngineState) (c : Content) (was : IsCrashConsistent old.life old.log (archive_of old c)) (kept : KeepsActive old.life new.life c.state) where
  abbrev a : Archive
  a = archive_of old c

  writes_active : (s : RecorderSession) (r : Recording) → IsWriting a.desk.register s
      → recording_at a s.recording ≡ Some r → is_active r ≡ true
  writes_active s r writing found = subst (λ (o : Option Registration). is_of o register.is_active ≡ true) (registered_of a s.recording r was.archive.agrees found) writing

  session_stands : (s : RecorderSession) → IsWriting a.desk.register s
      → StandsBehind (reads old.life.now) a s → StandsBehind (reads new.life.now) a s
  session_stands s writing stands = λ r found.
      let before = stands r found in
      let frames = frames_of (a.blocks s.number) in
      let active : is_active r ≡ true = writes_active s r writing found in
      let well : IsKept r = each_found id_of IsKept s.recording a.state.recordings r was.archive.well.kept found in
      record {
        holds = frames_behind (reads old.life.now) (reads new.life.now) (layout_of r.descriptor) frames (first_of r) (last_of r) (last_of r + covered frames) (first_last r well)
            (λ p from. ap (λ (file : FileState). file.reads) (kept s.recording r p found active from)) before.holds;
        lie = before.lie;
      }

  sessions_stand : Each (StandsBehind (reads new.life.now) a) a.desk.callers.sessions
  sessions_stand =
      each_then (λ s. IsWriting a.desk.register s × StandsBehind (reads old.life.now) a s) (StandsBehind (reads new.life.now) a) a.desk.callers.sessions
      (each_both (IsWriting a.desk.register) (StandsBehind (reads old.life.now) a) a.desk.callers.sessions was.archive.seats.sessions.writing was.stand)
      (λ s both. session_stands s both.0 both.1)

  -- the files that are needed, and so the archive, are as before
  archive_stays : (Ends : Archive → Type 0) → new.desk ≡ old.desk → (IsTrue new.life.obeys → IsTrue old.life.obeys) → StaysSound old.life new.life new.log c.state → Ends a → CallEnded old new a Ends
  archive_stays Ends desk obeyed stays ends =
      done old new a a Ends
      (weaker old.life new.life (RecoversTo (IsEither a.state a.state)) (RecoversTo (λ x. x ≡ a.state)) stays.1 (λ image. recovers_as (λ x. x ≡ a.state) (IsEither a.state a.state) image (λ s is. inl is)))
      (sound_consistent new.life new.log a stays.0 was.archive sessions_stand (λ obeys. was.boundaries (obeyed obeys))) desk ends

-- ---- a sweep that was let through

-- what it did to the files
pub record SweepsFiles (old new : EngineState) (keeps : List Keep) : Type 0 where
  pub asked : keeps ≡ registered_keeps old.desk.register
  pub decided : (x : Unit {0}) × (Ok x ≡ sweep_decision old.desk)
  pub active : (s : State) (id : ℤ) (r : Recording) (p : ℕ) → IsWell s → keeps ≡ keeps_of s → find id_of id s.recordings ≡ Some r → is_active r ≡ true → first_of r ≤ p → new.life.now (file_of (layout_of r.descriptor) p) ≡ old.life.now (file_of (layout_of r.descriptor) p)
  pub stays : (s : State) → IsSound old.life.now old.log s → keeps ≡ keeps_of s
      → StaysSound old.life new.life new.log s
  pub spares : SparesKept keeps old.life new.life
  pub desk : new.desk ≡ old.desk
  pub log : new.log ≡ old.log

-- so the archive stays as it is, however the sweep ends
sweep_ended : (old new : EngineState) (keeps : List Keep) (c : Content) (Ends : Archive → Type 0) → SweepsFiles old new keeps → IsCrashConsistent old.life old.log (archive_of old c) → Ends (archive_of old c) → CallEnded old new (archive_of old c) Ends
sweep_ended old new keeps c Ends did was ends =
    let works : old.desk.is_broken ≡ false = sweep_works old.desk did.decided.0 did.decided.1 in
    let same : keeps ≡ keeps_of c.state = did.asked ∙ ap registered_keeps was.archive.agrees ∙ keeps_same c.state in
    archive_stays old new c was (λ id r p. did.active c.state id r p was.archive.well same) Ends did.desk did.spares.obeyed (did.stays c.state (was.sound (no_doubt (archive_of old c) was.archive works)) same) ends

-- it tells whether there was a stale file
swept_step : (d : DeskState) (removed : Bool) (x : Unit {0}) → Ok x ≡ sweep_decision d
    → Stepped d calls.Sweep (Ok (told.Reply (replies.Swept removed))) d
swept_step d removed x decided = sweep_step d (Ok (told.Reply (replies.Swept removed))) d (subst (λ (o : Result (Unit {0}) Refusal). SweepsBy d o (Ok (told.Reply (replies.Swept removed))) d) decided (inl (removed, (refl, refl))))

sweep_told : (a : Archive) (faulted : Type 0) (removed : Bool) (x : Unit {0})
    → Ok x ≡ sweep_decision a.desk → CallEnds a events.Sweep faulted (Ok (replies.Swept removed)) a
sweep_told a faulted removed x decided = subst (λ (o : Result (Unit {0}) Refusal). SweepEnds a o (Ok (replies.Swept removed)) a) decided (removed, (refl, refl))

one_swept : (answer : Result Reply Refusal) (x y : Bool) → answer ≡ Ok (replies.Swept x)
    → answer ≡ Ok (replies.Swept y) → x ≡ y
one_swept answer x y this that = cc

pub swept_answers : (old new : EngineState) (keeps : List Keep) (removed : Bool) → SweepsFiles old new keeps → HasSwept keeps old.life new.life removed → EndsEvent old new events.Sweep (Ok (replies.Swept removed))
swept_answers old new keeps removed did swept = record {
  goes_on = record { obeyed = did.spares.obeyed; faults = did.spares.faults };
  bank = same_bank old.log new.log did.log;
  cause = λ fault. absurd (let clash = fault in cc);
  machine = subst (λ (d : DeskState). Stepped old.desk calls.Sweep (Ok (told.Reply (replies.Swept removed))) d) (sym did.desk) (swept_step old.desk removed did.decided.0 did.decided.1);
  kept = tt;
  swept = λ other sweep is. subst (λ (b : Bool). HasSwept (registered_keeps old.desk.register) old.life new.life b) (one_swept _ removed other refl is) (subst (λ (ks : List Keep). HasSwept ks old.life new.life removed) did.asked swept);
  ended = λ c was cut. sweep_ended old new keeps c (EndsAs old.life new.life events.Sweep (archive_of old c) (Ok (replies.Swept removed))) did was
      ((λ reads. sweep_told (archive_of old c) (HasFailed old.life new.life) removed did.decided.0 did.decided.1), refl);
}

-- or it fails
unswept_step : (d : DeskState) (x : Unit {0}) (refusal : Refusal) → Ok x ≡ sweep_decision d
    → IsOutside refusal → Stepped d calls.Sweep (Err refusal) d
unswept_step d x refusal decided (inl fault) =
    subst (λ (r : Refusal). Stepped d calls.Sweep (Err r) d) (sym fault) (inl (sweep_step d (Err DeviceFault) d (subst (λ (o : Result (Unit {0}) Refusal). SweepsBy d o (Err DeviceFault) d) decided (inr (refl, refl)))))
unswept_step d x refusal decided (inr memory) = subst (λ (r : Refusal). Stepped d calls.Sweep (Err r) d) (sym memory) (inr refl)

unswept_ends : (a : Archive) (faulted : Type 0) (x : Unit {0}) (refusal : Refusal) → Ok x ≡ sweep_decision a.desk → (refusal ≡ DeviceFault → faulted) → IsOutside refusal → CallEnds a events.Sweep faulted (Err refusal) a
unswept_ends a faulted x refusal decided cause (inl fault) = subst (λ (r : Refusal). CallEnds a events.Sweep faulted (Err r) a) (sym fault) (inr (cause fault, inl (sweep_passes a.desk x decided, refl)))
unswept_ends a faulted x refusal decided cause (inr memory) = subst (λ (r : Refusal). CallEnds a events.Sweep faulted (Err r) a) (sym memory) (inr refl)

memory_other : NoMemory ≡ DeviceFault → ⊥
memory_other is = cc

-- why it failed, and what that left
abbrev pub HowUnswept : EngineState → EngineState → Refusal → Type 0
HowUnswept old new refusal = ((refusal ≡ DeviceFault) × HasFailed old.life new.life)
    ⊎ ((refusal ≡ NoMemory) × IsQuiet old.life new.life)

unswept_outside : (old new : EngineState) (refusal : Refusal) → HowUnswept old new refusal → IsOutside refusal
unswept_outside old new refusal (inl fault) = inl fault.0
unswept_outside old new refusal (inr memory) = inr memory.0

unswept_cause : (old new : EngineState) (refusal : Refusal) → HowUnswept old new refusal
    → refusal ≡ DeviceFault → HasFailed old.life new.life
unswept_cause old new refusal (inl fault) is = fault.1
unswept_cause old new refusal (inr memory) is = absurd (memory_other (sym memory.0 ∙ is))

pub unswept_answers : (old new : EngineState) (keeps : List Keep) (outcome : Result Reply Refusal) (refusal : Refusal) → outcome ≡ Err refusal → SweepsFiles old new keeps → HowUnswept old new refusal → EndsEvent old new events.Sweep outcome
unswept_answers old new keeps outcome refusal is did how = subst (EndsEvent old new events.Sweep) (sym is) (record {
  goes_on = record { obeyed = did.spares.obeyed; faults = did.spares.faults };
  bank = same_bank old.log new.log did.log;
  cause = λ fault. unswept_cause old new refusal how (one_refusal _ refusal DeviceFault refl fault);
  machine = subst (λ (d : DeskState). Stepped old.desk calls.Sweep (Err refusal) d) (sym did.desk) (unswept_step old.desk did.decided.0 refusal did.decided.1 (unswept_outside old new refusal how));
  kept = λ harmless. elim how [
    | inl fault ↦ absurd ((harmless fault.0).0 refl)
    | inr memory ↦ record { files = memory.1; log = did.log; desk = did.desk }
  ];
  swept = λ removed sweep told. absurd (let clash = told in cc);
  ended = λ c was cut. sweep_ended old new keeps c (EndsAs old.life new.life events.Sweep (archive_of old c) (Err refusal)) did was
      ((λ reads. unswept_ends (archive_of old c) (HasFailed old.life new.life) did.decided.0 refusal did.decided.1 (unswept_cause old new refusal how) (unswept_outside old new refusal how)), refl);
})

-- ---- a sweep that was not

-- for want of memory
pub unkept_answers : (old : EngineState) (outcome : Result Reply Refusal) (refusal : Refusal)
    → outcome ≡ Err refusal → refusal ≡ NoMemory → EndsEvent old old events.Sweep outcome
unkept_answers old outcome refusal is memory = subst (EndsEvent old old events.Sweep) (sym (is ∙ ap Err memory)) (unmoved old events.Sweep (Err NoMemory) refl
    (λ fault. memory_other (let same = fault in cc)) (λ removed sweep told. let clash = told in cc) (inr refl) (λ c was. ((λ reads. inr refl), refl)))

-- refused where a write has failed
sweep_fault : (d : DeskState) → Err DeviceFault ≡ sweep_decision d → ⊥
sweep_fault d is = by d.is_broken is
  where
    by : (b : Bool) → Err DeviceFault ≡ sweep_decision (record d { is_broken = b }) → ⊥
    by true is = let clash = is in cc
    by false is = let clash = is in cc

pub sweep_refused : (old : EngineState) (outcome : Result Reply Refusal) (refusal : Refusal) → outcome ≡ Err refusal → Err refusal ≡ sweep_decision old.desk → EndsEvent old old events.Sweep outcome
sweep_refused old outcome refusal is decided = subst (EndsEvent old old events.Sweep) (sym is) (unmoved old events.Sweep (Err refusal) refl
    (λ fault. sweep_fault old.desk (ap Err (sym (one_refusal _ refusal DeviceFault refl fault)) ∙ decided)) (λ removed sweep told. let clash = told in cc)
    (inl (sweep_step old.desk (Err refusal) old.desk (subst (λ (o : Result (Unit {0}) Refusal). SweepsBy old.desk o (Err refusal) old.desk) decided (refl, refl))))
    (λ c was. ((λ reads. inl (subst (λ (o : Result (Unit {0}) Refusal). SweepEnds (archive_of old c) o (Err refusal) (archive_of old c)) decided (refl, refl))), refl)))
