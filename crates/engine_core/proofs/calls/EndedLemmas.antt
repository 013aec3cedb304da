-- How a call of an archive ends: nothing has changed, or an operation on its files has succeeded, or has failed.
use Rattle.std.proofs.Common.{◌≡◌, ◌∙◌, sym, ap, subst, refl, IsTrue, true≢false, Bool, true, false, Option, Some, None, inl, inr, arith}
use Rattle.std.specs.Prelude.{◌≢◌, ◌⊎◌, IsFalse, Result, Ok, Err, is_some}
use Rattle.engine_core.proofs.Words.{Archive, CallEnded, DeskState, DeviceFault, DiskGoesOn, DiskImage, Each, EngineState, Event, Files, IsConsistent, IsCrashConsistent, IsDurable, IsEither, IsQuiet, IsSound, KeepsBank, LeavesOnly, Life, LogState, MayLeave, MayStandIn, NoMemory, RecoversTo, Refusal, Reply, StandsBehind, State, after_failure, broken, broken_desk, content_of, goes_quiet, now_leaves, reads, started, weaker}
use Rattle.control_core.specs.Consistent.{AreAtBoundaries}
use Rattle.control_core.specs.declared.event.Event.TheVariants as events
use Rattle.control_core.specs.Runs.{MayStand}
use Rattle.control_core.proofs.ConsistentLemmas.{breaks}
use Rattle.engine_core.specs.Calls.{TellsBank}
use Rattle.engine_core.specs.Engine.{IsAsBefore, IsSpared}
use Rattle.engine_core.proofs.files.RecoveryLemmas.{sound_recovers}

pub recovers_as : (P Q : State → Type 0) (image : DiskImage) → ((s : State) → P s → Q s)
    → RecoversTo P image → RecoversTo Q image
recovers_as P Q image follows to = record { state = to.state; is = follows to.state to.is; recovers = to.recovers }

-- nothing is in doubt while no write has failed
pub no_doubt : (a : Archive) → IsConsistent a → a.desk.is_broken ≡ false → a.doubt ≡ None
no_doubt a consistent works = by a.doubt (sym works ∙ consistent.broken)
  where
    by : (o : Option State) → false ≡ is_some o → o ≡ None
    by None e = refl
    by (Some u) e = absurd (true≢false (sym e))

-- the archive that a call leaves, whose desk the engine has
pub ended_at : (old new : EngineState) (a b : Archive) (Ends : Archive → Type 0) → new.desk ≡ b.desk → Ends b → IsCrashConsistent new.life new.log b → LeavesOnly old.life new.life (RecoversTo (MayStandIn a b)) → CallEnded old new a Ends
ended_at old new a b Ends desk ends consistent any =
    let E : DeskState → Type 0 = λ d. CallEnded old (record { life = new.life; log = new.log; desk = d }) a Ends in
    let made : E b.desk = record { after = content_of b; ends = ends; consistent = consistent; any_moment = any } in
    subst E (sym desk) made

-- a call that ends in a narrower way
pub ended_as : (old new : EngineState) (a : Archive) (P Q : Archive → Type 0)
    → ((b : Archive) → P b → Q b) → CallEnded old new a P → CallEnded old new a Q
ended_as old new a P Q to ended = record { after = ended.after; ends = to _ ended.ends; consistent = ended.consistent; any_moment = ended.any_moment }

-- ---- the disk's calls

pub quiet_life : (life : Life) → IsQuiet life life
quiet_life life = record { obeyed = λ obeys. obeys; past = refl; now = refl; faults = omega arith }

pub quiet_goes_on : (old new : Life) → IsQuiet old new → DiskGoesOn old new
quiet_goes_on old new quiet = record { obeyed = quiet.obeyed; faults = quiet.faults }

pub goes_on_here : (life : Life) → DiskGoesOn life life
goes_on_here life = record { obeyed = λ obeys. obeys; faults = omega arith }

-- ---- what the log adds to

pub same_bank : (old new : LogState) → new ≡ old → KeepsBank old new
same_bank old new same = record { bank = ap (λ (log : LogState). log.bank) same; header = ap (λ (log : LogState). log.header) same; spare = ap (λ (log : LogState). log.spare) same }

-- a checkpoint alone changes the banks
abbrev pub renews : Event → Bool
renews events.Checkpoint = true
renews _ = false

pub bank_told : (event : Event) (old : EngineState) (log : LogState) (result : Result Reply Refusal) → renews event ≡ false → KeepsBank old.log log → TellsBank event old log result
bank_told events.Checkpoint old log result other keeps = absurd (true≢false other)
bank_told event old log result other keeps = keeps

-- ---- what a refusal left

pub as_before : (e : EngineState) → IsAsBefore e e
as_before e = record { files = quiet_life e.life; log = refl; desk = refl }

pub spared : (harmless : Type 0) (old new : EngineState) (result : Result Reply Refusal)
    → IsAsBefore old new → IsSpared harmless old new result
spared harmless old new (Ok reply) same = tt
spared harmless old new (Err refusal) same = λ fault. same

pub spared_by : (G H : Type 0) (old new : EngineState) (result : Result Reply Refusal) → (G → H)
    → IsSpared H old new result → IsSpared G old new result
spared_by G H old new (Ok reply) to is = tt
spared_by G H old new (Err refusal) to is = λ fault. is (λ at. to (fault at))

-- a fault broke the archive, and want of memory has changed nothing
pub spared_unbroken : (old new : EngineState) (refusal : Refusal) → IsFalse old.desk.is_broken → new.desk ≡ after_failure refusal old.desk → (refusal ≡ DeviceFault) ⊎ (refusal ≡ NoMemory) → (refusal ≢ DeviceFault → new.life ≡ old.life)
    → (refusal ≢ DeviceFault → new.log ≡ old.log) → IsSpared (new.desk.is_broken ≡ old.desk.is_broken) old new (Err refusal)
spared_unbroken old new refusal works desk outside life log = λ harmless. elim outside [
  | inl fault ↦ absurd (true≢false (sym (ap (λ (d : DeskState). d.is_broken) (desk ∙ ap (λ (r : Refusal). after_failure r old.desk) fault)) ∙ harmless fault ∙ works))
  | inr memory ↦ (let other : refusal ≢ DeviceFault = λ is. absurd cc in record {
    files = subst (IsQuiet old.life) (sym (life other)) (quiet_life old.life);
    log = log other;
    desk = desk ∙ ap (λ (r : Refusal). after_failure r old.desk) memory;
  })
]

-- ---- archives that are crash-consistent

pub sound_consistent : (life : Life) (log : LogState) (a : Archive) → IsSound life.now log a.state → IsConsistent a → Each (StandsBehind (reads life.now) a) a.desk.callers.sessions → (IsTrue life.obeys → AreAtBoundaries a) → IsCrashConsistent life log a
sound_consistent life log a sound archive stand boundaries = record {
  archive = archive;
  images = λ image left. record { state = a.state; is = inl refl; recovers = sound_recovers life.now log a.state image sound left };
  sound = λ none. sound;
  frames = sound.frames;
  stand = stand;
  boundaries = boundaries;
}

pub quiet_consistent : (old new : Life) (log : LogState) (a : Archive) → IsQuiet old new
    → IsCrashConsistent old log a → IsCrashConsistent new log a
quiet_consistent old new log a quiet was = record {
  archive = was.archive;
  images = λ image left. was.images image (subst (λ (files : Files). MayLeave files image) quiet.now left);
  sound = λ none. subst (λ (files : Files). IsSound files log a.state) (sym quiet.now) (was.sound none);
  frames = subst (λ (files : Files). Each (IsDurable files) a.state.recordings) (sym quiet.now) was.frames;
  stand = subst (λ (files : Files). Each (StandsBehind (reads files) a) a.desk.callers.sessions) (sym quiet.now) was.stand;
  boundaries = λ obeys. was.boundaries (quiet.obeyed obeys);
}

pub quiet_moments : (old new : Life) (log : LogState) (a b : Archive) → IsQuiet old new
    → IsCrashConsistent old log a → LeavesOnly old new (RecoversTo (MayStandIn a b))
quiet_moments old new log a b quiet was =
    goes_quiet old old new (RecoversTo (MayStandIn a b))
    (started old (RecoversTo (MayStandIn a b)) (λ image left. recovers_as (MayStand a) (MayStandIn a b) image (λ s is. inl is) (was.images image left))) quiet

-- ---- nothing but the count of faults has changed

-- a call that leaves the archive as it was
pub still : (old new : EngineState) (a : Archive) (Ends : Archive → Type 0) → IsQuiet old.life new.life → new.log ≡ old.log → new.desk ≡ a.desk → IsCrashConsistent old.life old.log a → Ends a → CallEnded old new a Ends
still old new a Ends quiet log desk was ends =
    ended_at old new a a Ends desk ends (subst (λ (l : LogState). IsCrashConsistent new.life l a) (sym log) (quiet_consistent old.life new.life old.log a quiet was))
    (quiet_moments old.life new.life old.log a a quiet was)

-- a call that only reads, and changes the desk, but not what sessions wrote
pub reread : (old new : EngineState) (a b : Archive) (Ends : Archive → Type 0) → IsQuiet old.life new.life → new.log ≡ old.log → new.desk ≡ b.desk → b.state ≡ a.state → b.doubt ≡ a.doubt
    → Each (StandsBehind (reads old.life.now) b) b.desk.callers.sessions → IsConsistent b → (IsTrue new.life.obeys → AreAtBoundaries b) → IsCrashConsistent old.life old.log a → Ends b → CallEnded old new a Ends
reread old new a b Ends quiet log desk state doubt stand archive boundaries was ends =
    ended_at old new a b Ends desk ends (subst (λ (l : LogState). IsCrashConsistent new.life l b) (sym log) (record {
      archive = archive;
      images = λ image left. recovers_as (MayStand a) (MayStand b) image stands (was.images image (subst (λ (files : Files). MayLeave files image) quiet.now left));
      sound = λ none. subst (λ (s : State). IsSound new.life.now old.log s) (sym state) (subst (λ (files : Files). IsSound files old.log a.state) (sym quiet.now) (was.sound (sym doubt ∙ none)));
      frames = subst (λ (s : State). Each (IsDurable new.life.now) s.recordings) (sym state) (subst (λ (files : Files). Each (IsDurable files) a.state.recordings) (sym quiet.now) was.frames);
      stand = subst (λ (files : Files). Each (StandsBehind (reads files) b) b.desk.callers.sessions) (sym quiet.now) stand;
      boundaries = boundaries;
    })) (quiet_moments old.life new.life old.log a b quiet was)
  where
    stands : (s : State) → MayStand a s → MayStand b s
    stands s (inl now) = inl (now ∙ sym state)
    stands s (inr is) = inr (doubt ∙ is)

-- ---- an operation on the files has succeeded

either_stands : (a b : Archive) (s : State) → IsEither a.state b.state s → MayStandIn a b s
either_stands a b s is = elim is [ inl this ↦ inl (inl this) | inr that ↦ inr (inl that) ]

pub done : (old new : EngineState) (a b : Archive) (Ends : Archive → Type 0) → LeavesOnly old.life new.life (RecoversTo (IsEither a.state b.state)) → IsCrashConsistent new.life new.log b → new.desk ≡ b.desk → Ends b → CallEnded old new a Ends
done old new a b Ends any consistent desk ends =
    ended_at old new a b Ends desk ends consistent
    (weaker old.life new.life (RecoversTo (MayStandIn a b)) (RecoversTo (IsEither a.state b.state)) any (λ image. recovers_as (IsEither a.state b.state) (MayStandIn a b) image (either_stands a b)))

-- ---- it has failed, and the archive is broken

pub failed : (old new : EngineState) (a : Archive) (u : State) (Ends : Archive → Type 0) → IsConsistent a → LeavesOnly old.life new.life (RecoversTo (IsEither a.state u)) → Each (IsDurable new.life.now) a.state.recordings
    → Each (StandsBehind (reads new.life.now) a) a.desk.callers.sessions → (IsTrue new.life.obeys → AreAtBoundaries a) → new.desk ≡ broken_desk a.desk → Ends (broken u a) → CallEnded old new a Ends
failed old new a u Ends archive any frames stand boundaries desk ends =
    ended_at old new a (broken u a) Ends desk ends (record {
      archive = (breaks a u archive).consistent;
      images = λ image left. recovers_as (IsEither a.state u) (MayStand (broken u a)) image stands (now_leaves old.life new.life (RecoversTo (IsEither a.state u)) any image left);
      sound = λ none. absurd cc;
      frames = frames;
      stand = stand;
      boundaries = boundaries;
    })
    (weaker old.life new.life (RecoversTo (MayStandIn a (broken u a))) (RecoversTo (IsEither a.state u)) any
    (λ image. recovers_as (IsEither a.state u) (MayStandIn a (broken u a)) image (λ s is. inr (stands s is))))
  where
    stands : (s : State) → IsEither a.state u s → MayStand (broken u a) s
    stands s is = elim is [ inl this ↦ inl this | inr that ↦ inr (ap Some (sym that)) ]
