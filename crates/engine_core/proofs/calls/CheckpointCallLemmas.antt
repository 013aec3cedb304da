-- How a checkpoint of an archive ends.
use Rattle.std.proofs.Common.{◌≡◌, ◌≢◌, ◌⊎◌, ◌∙◌, inl, inr, sym, ap, subst, refl, List, Some, None, true, false, true≢false}
use Rattle.std.specs.Prelude.{IsErrOf, IsFalse, IsTrue, IfErr, Result, Ok, Err}
use Rattle.engine_core.proofs.Words.{Archive, ArchiveEnds, BankVersion, CallEnds, ChangesBank, CommitEnds, Content, DeskState, DeviceFault, EndsAs, EndsEvent, EngineState, Entry, Event, HasFailed, IsAtRest, IsCatalogued, IsConsistent, IsCrashConsistent, IsSound, IsTied, KeepsBank, LeavesOnly, Life, LogState, MayStandIn, Moves, NoMemory, RecoversTo, Refusal, RegisterState, Reply, State, StaysConsistent, after_entries, after_failure, archive_of, no_recordings, register_of, rest_left, started, weaker, with_desk}
use Rattle.frame_core.specs.declared.refusal.Refusal.TheVariants.{Broken, HistoryFull, NotCatalogue}
use Rattle.archive_model.specs.declared.reply.Reply.TheVariants as replies
use Rattle.archive_model.specs.declared.version.BankVersion.TheVariants.{Two}
use Rattle.catalogue_entries.specs.Snapshot.{checkpoint_of}
use Rattle.catalogue_log.specs.Checkpointing.{LeavesLog, MayCheckpoint, MayNotCheckpoint, RefusesCheckpoint, log_on}
use Rattle.catalogue_log.specs.Compacting.{next_header}
use Rattle.control_core.specs.declared.event.Event.TheVariants as events
use Rattle.control_core.specs.Changes.{checkpointed}
use Rattle.control_core.specs.Exact.{CheckpointEnds, LeftByFault}
use Rattle.control_core.proofs.CallLemmas.{refused_unchanged}
use Rattle.control_core.proofs.ConsistentLemmas.{consistent_call}
use Rattle.control_core.proofs.FaultLemmas.{call_is_allowed, other_cause}
use Rattle.engine_core.specs.Calls.{AnswersEvent, TellsBank}
use Rattle.engine_core.specs.Catalogued.{MakesRegister, RenewsEntries, RenewsFound}
use Rattle.engine_core.proofs.calls.CommitCallLemmas.{commit_done, commit_refused, exact_commit}
use Rattle.engine_core.proofs.calls.EndedLemmas.{ended_as, no_doubt, recovers_as, same_bank, spared_by, spared_unbroken}
use Rattle.engine_core.proofs.calls.KeepLemmas.{EndsDesk}
use Rattle.engine_core.proofs.calls.MakeLemmas.{bank_keeps}
use Rattle.engine_core.proofs.calls.SettleCallLemmas.{answered_still, blank, commit_call, commit_cause}
use Rattle.engine_core.proofs.calls.SweepCallLemmas.{one_refusal, sweep_decision, sweep_passes, sweep_works}

-- the archive after a checkpoint
abbrev pub anew : Archive → Archive
anew a = with_desk (checkpointed a.desk) a

-- what it may end with, where it is let through
anew_ends : (a : Archive) (x : Unit {0}) → Ok x ≡ sweep_decision a.desk → ArchiveEnds a events.Checkpoint (Ok replies.Checkpointed) (anew a)
anew_ends a x decided = subst (λ (o : Result (Unit {0}) Refusal). CheckpointEnds a o (Ok replies.Checkpointed) (anew a)) decided (inl (refl, refl))

-- what it did to the files
pub record RenewsFiles (old new : EngineState) (result : Result (Unit {0}) Refusal) : Type 0 where
  pub decided : (x : Unit {0}) × (Ok x ≡ sweep_decision old.desk)
  pub changes : ChangesBank old.life new.life
  pub moves : (s : State) → IsSound old.life.now old.log s → old.desk.register ≡ register_of s → Moves old.life new.life new.log s s result

-- ---- log and desk

-- they count alike
pub tied_anew : (log new_log : LogState) (d : DeskState) → IsTied log d → IsFalse d.is_broken → new_log ≡ log_on log d.register → IsTied new_log (checkpointed d)
tied_anew log new_log d tied works is = subst (λ (l : LogState). IsTied l (checkpointed d)) (sym is) (record {
  works = λ on. tied.works works;
  counted = λ on. refl;
  limit = λ on. tied.limit works;
  version = λ on. refl;
})

-- a log that is tied to a desk that works
works_alike : (log : LogState) (d : DeskState) → IsTied log d → IsFalse d.is_broken → record log { is_broken = d.is_broken } ≡ log
works_alike log d tied works = ap (λ b. record log { is_broken = b }) (works ∙ sym (tied.works works))

-- ---- it was let through

module _ (old new : EngineState) (result : Result (Unit {0}) Refusal) (did : RenewsFiles old new result) where
  worked : IsFalse old.desk.is_broken
  worked = sweep_works old.desk did.decided.0 did.decided.1

  moved : (c : Content) → IsCrashConsistent old.life old.log (archive_of old c) → Moves old.life new.life new.log c.state c.state result
  moved c was = did.moves c.state (was.sound (no_doubt (archive_of old c) was.archive worked)) was.archive.agrees

  stays_anew : (a : Archive) → a.desk ≡ old.desk → IsConsistent a → StaysConsistent a (anew a)
  stays_anew a same consistent = consistent_call a events.Checkpoint (Ok replies.Checkpointed) (anew a) consistent (anew_ends a did.decided.0 (did.decided.1 ∙ ap sweep_decision (sym same)))

  -- what the commit of it may end with, the call may
  committed_ends : (outcome : Result Reply Refusal) (c : Content) (after : Archive) → CommitEnds (archive_of old c) replies.Checkpointed (anew (archive_of old c)) (HasFailed old.life new.life) outcome after
      → CallEnds (archive_of old c) events.Checkpoint (HasFailed old.life new.life) outcome after
  committed_ends outcome c after ends =
      commit_call (archive_of old c) events.Checkpoint replies.Checkpointed (anew (archive_of old c)) (HasFailed old.life new.life) outcome after (sweep_passes old.desk did.decided.0 did.decided.1) (anew_ends (archive_of old c) did.decided.0 did.decided.1) ends

  -- so it ends, by what became of the bank and of the desk
  module _ (outcome : Result Reply Refusal) (bank : TellsBank events.Checkpoint old new.log outcome)
      (made : (after : Content) × CommitEnds (archive_of old blank) replies.Checkpointed (anew (archive_of old blank)) (HasFailed old.life new.life) outcome (archive_of new after)) where
    machine_of : CallEnds (archive_of old blank) events.Checkpoint (Unit {0}) outcome (archive_of new made.0)
    machine_of = other_cause (archive_of old blank) events.Checkpoint (HasFailed old.life new.life) (Unit {0}) outcome (archive_of new made.0) (λ failed. tt) (committed_ends outcome blank (archive_of new made.0) made.1)

pub renewed_answers : (old new : EngineState) → MayCheckpoint old.log → RenewsFiles old new (Ok tt) → new.log ≡ log_on old.log old.desk.register → new.desk ≡ checkpointed old.desk → EndsEvent old new events.Checkpoint (Ok replies.Checkpointed)
renewed_answers old new may did log desk =
    let outcome : Result Reply Refusal = Ok replies.Checkpointed in
    let went : Result (Unit {0}) Refusal = Ok tt in
    let made = exact_commit old new replies.Checkpointed anew went outcome blank (λ done is. (refl, desk)) (λ refusal is. absurd cc) in
    record {
      goes_on = record { obeyed = did.changes.obeyed; faults = did.changes.faults };
      cause = λ fault. absurd (let clash = fault in cc);
      bank = (may, log);
      machine = call_is_allowed (archive_of old blank) events.Checkpoint outcome (archive_of new made.0) (λ poll. absurd (true≢false (sym poll))) (machine_of old new went did outcome (may, log) made);
      kept = tt;
      swept = λ removed is. absurd cc;
      ended = λ c was cut.
          ended_as old new (archive_of old c) (CommitEnds (archive_of old c) replies.Checkpointed (anew (archive_of old c)) (HasFailed old.life new.life) outcome) (EndsAs old.life new.life events.Checkpoint (archive_of old c) outcome)
          (λ b ends. ((λ reads. committed_ends old new went did outcome c b ends), tt))
          (commit_done old new c was (anew (archive_of old c)) replies.Checkpointed (bank_keeps old.life new.life did.changes) (stays_anew old new went did (archive_of old c) refl was.archive) was.stand desk (moved old new went did c was));
    }

-- a bank that the log keeps, whatever it was refused by
kept_bank : (old new : Life) (log new_log : LogState) (refusal : Refusal) → (refusal ≡ DeviceFault) ⊎ (refusal ≡ NoMemory) → LeavesLog old new log new_log refusal → KeepsBank log new_log
kept_bank old new log new_log refusal (inl fault) left = let is = left.broken fault in record {
  bank = ap (λ (l : LogState). l.bank) is;
  header = ap (λ (l : LogState). l.header) is;
  spare = ap (λ (l : LogState). l.spare) is;
}
kept_bank old new log new_log refusal (inr memory) left = same_bank log new_log (left.unchanged (λ fault. absurd (let clash : NoMemory ≡ DeviceFault = sym memory ∙ fault in cc))).0

refused_so : (log : LogState) (refusal : Refusal) → MayCheckpoint log → (refusal ≡ DeviceFault) ⊎ (refusal ≡ NoMemory) → RefusesCheckpoint log refusal
refused_so log refusal may (inl fault) = subst (RefusesCheckpoint log) (sym fault) may
refused_so log refusal may (inr memory) = subst (RefusesCheckpoint log) (sym memory) tt

pub unrenewed_answers : (old new : EngineState) (refusal told : Refusal) → told ≡ refusal → IsTied old.log old.desk → MayCheckpoint old.log → RenewsFiles old new (Err refusal) → (refusal ≡ DeviceFault) ⊎ (refusal ≡ NoMemory) → LeavesLog old.life new.life old.log new.log refusal
    → new.desk ≡ after_failure refusal old.desk → EndsEvent old new events.Checkpoint (Err told)
unrenewed_answers old new refusal told same tied may did outside left desk =
    let outcome : Result Reply Refusal = Err refusal in
    let went : Result (Unit {0}) Refusal = Err refusal in
    let cause : refusal ≡ DeviceFault → HasFailed old.life new.life = left.fault in
    let Told : Refusal → Type 0 = λ x. (outcome ≡ Err x) × (new.desk ≡ after_failure x old.desk) × ((x ≡ DeviceFault) ⊎ (x ≡ NoMemory)) × (x ≡ DeviceFault → HasFailed old.life new.life) in
    let made = exact_commit old new replies.Checkpointed anew went outcome blank (λ done is. absurd cc) (λ r is. let one : refusal ≡ r = cc in subst Told one (refl, desk, outside, cause)) in
    let on = worked old new went did in
    let bank : TellsBank events.Checkpoint old new.log outcome =
    (kept_bank old.life new.life old.log new.log refusal outside left, refused_so (record old.log { is_broken = old.desk.is_broken }) refusal (subst MayCheckpoint (sym (works_alike old.log old.desk tied on)) may) outside) in
    subst (λ (r : Refusal). EndsEvent old new events.Checkpoint (Err r)) (sym same) (record {
      goes_on = record { obeyed = did.changes.obeyed; faults = did.changes.faults };
      cause = λ fault. cause (one_refusal outcome refusal DeviceFault refl fault);
      bank = bank;
      machine = call_is_allowed (archive_of old blank) events.Checkpoint outcome (archive_of new made.0) (λ poll. absurd (true≢false (sym poll))) (machine_of old new went did outcome bank made);
      kept = spared_by _ _ old new outcome (λ harmless. harmless.1) (spared_unbroken old new refusal on desk outside (λ other. (left.unchanged other).1) (λ other. (left.unchanged other).0));
      swept = λ removed is. absurd cc;
      ended = λ c was cut.
          ended_as old new (archive_of old c) (CommitEnds (archive_of old c) replies.Checkpointed (anew (archive_of old c)) (HasFailed old.life new.life) outcome) (EndsAs old.life new.life events.Checkpoint (archive_of old c) outcome)
          (λ b ends. ((λ reads. committed_ends old new went did outcome c b ends), tt))
          (commit_refused old new c was (anew (archive_of old c)) replies.Checkpointed (bank_keeps old.life new.life did.changes) refusal cause desk (moved old new went did c was));
    })

-- ---- it was not

-- refused where a write has failed
pub broken_answers : (e : EngineState) (outcome : Result Reply Refusal) (refusal : Refusal) → outcome ≡ Err refusal → Err refusal ≡ sweep_decision e.desk → EndsEvent e e events.Checkpoint outcome
broken_answers e outcome refusal is decided =
    let told : Result Reply Refusal = Err refusal in
    subst (EndsEvent e e events.Checkpoint) (sym is)
    (answered_still e events.Checkpoint told blank (same_bank e.log e.log refl, by e.desk.is_broken refusal decided) refl (λ sweep. absurd cc) (λ fault. no_fault_so e.desk.is_broken (ap Err (sym (one_refusal told refusal DeviceFault refl fault)) ∙ decided)) (ends blank) (λ c was. ends c) (λ a. tt))
  where
    ends : (c : Content) → ArchiveEnds (archive_of e c) events.Checkpoint (Err refusal) (archive_of e c)
    ends c = subst (λ (o : Result (Unit {0}) Refusal). CheckpointEnds (archive_of e c) o (Err refusal) (archive_of e c)) decided (refl, refl)

    by : (b : _) (r : Refusal) → Err r ≡ sweep_decision (record e.desk { is_broken = b }) → RefusesCheckpoint (record e.log { is_broken = b }) r
    by true r so = let one : r ≡ Broken = cc in subst (RefusesCheckpoint (record e.log { is_broken = true })) (sym one) refl
    by false r so = absurd (let clash = so in cc)

    no_fault_so : (b : _) → Err DeviceFault ≡ sweep_decision (record e.desk { is_broken = b }) → ⊥
    no_fault_so true so = let clash = so in cc
    no_fault_so false so = let clash = so in cc

-- refused by the banks
pub banks_answer : (e : EngineState) (x : Unit {0}) (outcome : Result Reply Refusal) (refusal : Refusal) → outcome ≡ Err refusal → Ok x ≡ sweep_decision e.desk → IsTied e.log e.desk → MayNotCheckpoint e.log refusal → EndsEvent e e events.Checkpoint outcome
banks_answer e x outcome refusal is decided tied may_not = subst (EndsEvent e e events.Checkpoint) (sym is) (by refusal may_not)
  where
    on : IsFalse e.desk.is_broken
    on = sweep_works e.desk x decided

    alike : record e.log { is_broken = e.desk.is_broken } ≡ e.log
    alike = works_alike e.log e.desk tied on

    ends : (r : Refusal) → ((c : Content) → CheckpointEnds (archive_of e c) (Ok x) (Err r) (archive_of e c)) → (c : Content) → ArchiveEnds (archive_of e c) events.Checkpoint (Err r) (archive_of e c)
    ends r those c = subst (λ (o : Result (Unit {0}) Refusal). CheckpointEnds (archive_of e c) o (Err r) (archive_of e c)) decided (those c)

    by : (r : Refusal) → MayNotCheckpoint e.log r → EndsEvent e e events.Checkpoint (Err r)
    by Broken broke = absurd (true≢false (sym broke ∙ tied.works on))
    by NotCatalogue spare =
        let all = ends NotCatalogue (λ c. inr (inl (refl, refl))) in
        answered_still e events.Checkpoint (Err NotCatalogue) blank (same_bank e.log e.log refl, subst (λ (l : LogState). RefusesCheckpoint l NotCatalogue) (sym alike) spare) refl (λ sweep. absurd cc) (λ fault. absurd cc) (all blank) (λ c was. all c) (λ a. tt)
    by HistoryFull last =
        let all = ends HistoryFull (λ c. inr (inr (refl, refl))) in
        answered_still e events.Checkpoint (Err HistoryFull) blank (same_bank e.log e.log refl, subst (λ (l : LogState). RefusesCheckpoint l HistoryFull) (sym alike) last) refl (λ sweep. absurd cc) (λ fault. absurd cc) (all blank) (λ c was. all c) (λ a. tt)
    by r none = absurd none

-- ---- the state alone

-- the archive's state stays, and what is in doubt is that state
record Stays (a b : Archive) : Type 0 where
  state : b.state ≡ a.state
  doubt : (u : State) → b.doubt ≡ Some u → u ≡ a.state

module _ (a : Archive) (sure : a.doubt ≡ None) where
  -- it is as it was, or its desk is another
  same_stays : (b : Archive) → b.state ≡ a.state → b.doubt ≡ a.doubt → Stays a b
  same_stays b state doubt = record { state = state; doubt = λ u is. absurd (let clash : Some u ≡ None = sym is ∙ doubt ∙ sure in cc) }

  as_it_was : (b : Archive) → b ≡ a → Stays a b
  as_it_was b is = same_stays b (ap (λ (x : Archive). x.state) is) (ap (λ (x : Archive). x.doubt) is)

  answered_stays : (d : Result (Unit {0}) Refusal) (reply : Reply) (b : Archive) → CheckpointEnds a d (Ok reply) b → Stays a b
  answered_stays (Err r) reply b h = absurd (let clash = h.0 in cc)
  answered_stays (Ok done) reply b (inl h) = same_stays b (ap (λ (x : Archive). x.state) h.1) (ap (λ (x : Archive). x.doubt) h.1)
  answered_stays (Ok done) reply b (inr (inl h)) = absurd (let clash = h.0 in cc)
  answered_stays (Ok done) reply b (inr (inr h)) = absurd (let clash = h.0 in cc)

  fault_stays : (b : Archive) → LeftByFault a events.Checkpoint b → Stays a b
  fault_stays b (inl (reads, is)) = as_it_was b is
  fault_stays b (inr (writes, (u, (reply, (x, ends, made)), is))) =
      let same : u ≡ a.state = sym made ∙ (answered_stays (sweep_decision a.desk) reply x ends).state in
      subst (Stays a) (sym is) (record { state = refl; doubt = λ v some. (let one : v ≡ u = cc in one ∙ same) })

  call_stays : (outcome : Result Reply Refusal) (faulted : Type 0) (b : Archive) → CallEnds a events.Checkpoint faulted outcome b → Stays a b
  call_stays (Ok reply) faulted b ends = answered_stays (sweep_decision a.desk) reply b ends
  call_stays (Err NoMemory) faulted b ends = elim ends [ inl exact ↦ as_it_was b (refused_unchanged a events.Checkpoint NoMemory b exact) | inr same ↦ as_it_was b same ]
  call_stays (Err DeviceFault) faulted b ends = elim ends [ inl exact ↦ as_it_was b (refused_unchanged a events.Checkpoint DeviceFault b exact) | inr out ↦ fault_stays b out.1 ]
  call_stays (Err refusal) faulted b ends = elim ends [ inl exact ↦ as_it_was b (refused_unchanged a events.Checkpoint refusal b exact) | inr out ↦ absurd out ]

  stands_alone : (b : Archive) (x : State) → Stays a b → MayStandIn a b x → x ≡ a.state
  stands_alone b x stays (inl (inl now)) = now
  stands_alone b x stays (inl (inr doubt)) = absurd (let clash : Some x ≡ None = sym doubt ∙ sure in cc)
  stands_alone b x stays (inr (inl now)) = now ∙ stays.state
  stands_alone b x stays (inr (inr doubt)) = stays.doubt x doubt

pub left_alone : (old new : EngineState) (c : Content) (result : Result Reply Refusal) → AnswersEvent old new events.Checkpoint result → IsCrashConsistent old.life old.log (archive_of old c) → IsFalse old.desk.is_broken → LeavesOnly old.life new.life (RecoversTo (λ x. x ≡ c.state))
left_alone old new c result answers was on =
    let a : Archive = archive_of old c in
    let ended = answers.ends.ended c was (λ cut. absurd (true≢false (sym cut))) in
    let b : Archive = archive_of new ended.after in
    let sure = no_doubt a was.archive on in
    let stays = call_stays a sure result (HasFailed old.life new.life) b (ended.ends.0 (λ reads. absurd (true≢false (sym reads)))) in
    weaker old.life new.life (RecoversTo (λ x. x ≡ c.state)) (RecoversTo (MayStandIn a b)) ended.any_moment (λ image. recovers_as (MayStandIn a b) (λ x. x ≡ c.state) image (λ x. stands_alone a sure b x stays))

-- ---- the catalogue, whatever the segment files hold

-- nothing was done
pub renews_nothing : (e : EngineState) → RenewsFound e e
renews_nothing e found on = record {
  any_moment = started e.life (λ image. MakesRegister e.log.header e.desk.register image ⊎ MakesRegister (next_header e.log.header) e.desk.register image)
      (λ image left. inl (record { entries = found.entries; catalogue = rest_left e.life.now e.log found.entries image found.rests left; makes = found.makes }));
  rests = λ unbroken. found;
}

abbrev RenewsOn : EngineState → EngineState → Result (Unit {0}) Refusal → Type 0
RenewsOn old new result = (es : List Entry) → IsAtRest old.life.now old.log es → after_entries no_recordings es ≡ old.desk.register → RenewsEntries old.life new.life old.log new.log old.desk.register result

pub renews_done : (old new : EngineState) → RenewsOn old new (Ok tt) → new.desk.register ≡ old.desk.register → RenewsFound old new
renews_done old new did register found on =
    let made = did found.entries found.rests found.makes in
    record { any_moment = made.any_moment; rests = λ unbroken. record { entries = checkpoint_of old.desk.register; rests = made.rests; makes = made.makes ∙ sym register } }

pub renews_refused : (old new : EngineState) (refusal : Refusal) → RenewsOn old new (Err refusal) → (refusal ≡ DeviceFault) ⊎ (refusal ≡ NoMemory) → LeavesLog old.life new.life old.log new.log refusal → new.desk ≡ after_failure refusal old.desk → RenewsFound old new
renews_refused old new refusal did outside left desk found on =
    record { any_moment = (did found.entries found.rests found.makes).any_moment; rests = by outside }
  where
    by : (refusal ≡ DeviceFault) ⊎ (refusal ≡ NoMemory) → IsFalse new.desk.is_broken → IsCatalogued new
    by (inl fault) unbroken = absurd (true≢false (sym (ap (λ (d : DeskState). d.is_broken) (desk ∙ ap (λ (r : Refusal). after_failure r old.desk) fault)) ∙ unbroken))
    by (inr memory) unbroken =
        let same = left.unchanged (λ fault. absurd (let clash : NoMemory ≡ DeviceFault = sym memory ∙ fault in cc)) in
        record {
          entries = found.entries;
          rests = subst (λ (life : Life). IsAtRest life.now new.log found.entries) (sym same.1) (subst (λ (l : LogState). IsAtRest old.life.now l found.entries) (sym same.0) found.rests);
          makes = found.makes ∙ sym (ap (λ (d : DeskState). d.register) (desk ∙ ap (λ (r : Refusal). after_failure r old.desk) memory));
        }
