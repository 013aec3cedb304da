-- How an operation ends that adds an entry for a command.
use Rattle.std.proofs.Common.{◌≡◌, ◌≢◌, ◌⊎◌, ◌∙◌, ◌+◌, ◌<◌, sym, ap, subst, refl, ℕ, false, true≢false, IsTrue, inl, inr, arith, List}
use Rattle.std.specs.Prelude.{Result, Ok, Err}
use Rattle.engine_core.proofs.Words.{Allows, Archive, CallEnded, Command, CommitEnds, Content, DeskState, DeviceFault, Each, EngineState, Entry, HasEntryRoom, HasFailed, IsCrashConsistent, IsEither, IsTied, KeepsSegments, LogState, Moves, NoMemory, RecorderSession, RecoversTo, Refusal, Reply, Segment, StandsBehind, StaysConsistent, after_failure, archive_of, broken, broken_desk, content_of, counts, reads, weaker}
use Rattle.archive_model.specs.declared.command.Command.TheVariants as commands
use Rattle.archive_model.specs.Acceptance as acceptance
use Rattle.control_core.proofs.AllowedLemmas.{room_of}
use Rattle.engine_core.proofs.calls.EndedLemmas.{done, failed, recovers_as, sound_consistent}
use Rattle.engine_core.proofs.calls.StandLemmas.{stand_on}

-- ---- log and desk

-- they count alike behind an entry for which a desk that works has room
pub tied_behind : (log new_log : LogState) (d new_d : DeskState) (n : ℕ) → IsTied log d → d.is_broken ≡ false → new_log.header ≡ log.header → new_log.is_broken ≡ log.is_broken → new_log.counted ≡ log.counted + n
    → new_d.counted ≡ d.counted + n → new_d.limit ≡ d.limit → new_d.version ≡ d.version → IsTied new_log new_d
tied_behind log new_log d new_d n tied works header broke counted desk limit version = record {
  works = λ is_yes. broke ∙ tied.works works;
  counted = λ is_yes. counted ∙ ap (λ (m : ℕ). m + n) (tied.counted works) ∙ sym desk;
  limit = λ is_yes. ap (λ h. h.history_limit) header ∙ tied.limit works ∙ sym limit;
  version = λ is_yes. ap (λ h. h.version) header ∙ tied.version works ∙ sym version;
}

-- where it was refused
pub tied_refused : (log new_log : LogState) (d : DeskState) (refusal : Refusal) → IsTied log d
    → (refusal ≢ DeviceFault → new_log ≡ log) → IsTied new_log (after_failure refusal d)
tied_refused log new_log d DeviceFault tied same = record { works = λ is_yes. absurd (true≢false is_yes); counted = λ is_yes. absurd (true≢false is_yes); limit = λ is_yes. absurd (true≢false is_yes); version = λ is_yes. absurd (true≢false is_yes) }
tied_refused log new_log d refusal tied same = subst (λ (l : LogState). IsTied l d) (sym (same (λ is. absurd cc))) tied

-- the log has room for the entry of a command that the desk allows
pub room_for : (log : LogState) (d : DeskState) (c : Command) (e : Entry) → IsTied log d
    → d.is_broken ≡ false → Allows d c → counts e ≡ acceptance.counts c → HasEntryRoom log e
room_for log d c e tied works allows alike counted = by c allows (sym alike ∙ counted)
  where
    low : d.counted < d.limit → log.counted < log.header.history_limit
    low less = let has = tied.counted works in let most = tied.limit works in omega (arith, less, has, most)

    by : (c : Command) → Allows d c → IsTrue (acceptance.counts c)
        → log.counted < log.header.history_limit
    by (commands.Start f) allows is_yes = low (room_of d (commands.Start f) refl allows)
    by (commands.Append id blocks) allows is_yes = low (room_of d (commands.Append id blocks) refl allows)
    by (commands.Stop id timestamp) allows is_yes = low (room_of d (commands.Stop id timestamp) refl allows)
    by (commands.Extend f) allows is_yes = low (room_of d (commands.Extend f) refl allows)
    by (commands.Truncate id position) allows is_yes = low (room_of d (commands.Truncate id position) refl allows)
    by (commands.PurgeSegments id position) allows is_yes = low (room_of d (commands.PurgeSegments id position) refl allows)
    by (commands.PurgeRecording id) allows is_yes = low (room_of d (commands.PurgeRecording id) refl allows)
    by commands.Restart allows is_yes = absurd (true≢false (sym is_yes))

-- ---- an operation on the files, by its result

-- whatever the archive is
pub exact_commit : (old new : EngineState) (reply : Reply) (to : Archive → Archive) (result : Result (Unit {0}) Refusal) (told : Result Reply Refusal) (c : Content)
    → ((done : Unit {0}) → result ≡ Ok done → (told ≡ Ok reply) × (new.desk ≡ (to (archive_of old c)).desk))
    → ((refusal : Refusal) → result ≡ Err refusal → (told ≡ Err refusal) × (new.desk ≡ after_failure refusal old.desk) × ((refusal ≡ DeviceFault) ⊎ (refusal ≡ NoMemory)) × (refusal ≡ DeviceFault → HasFailed old.life new.life))
    → (after : Content) × CommitEnds (archive_of old c) reply (to (archive_of old c)) (HasFailed old.life new.life) told (archive_of new after)
exact_commit old new reply to (Ok done) told c went refused =
    let is = went done refl in
    let b : Archive = to (archive_of old c) in
    let E : DeskState → Type 0 = λ d. (after : Content) × CommitEnds (archive_of old c) reply b (HasFailed old.life new.life) (Ok reply) (archive_of (record { life = new.life; log = new.log; desk = d }) after) in
    let made : E b.desk = (content_of b, (refl, refl)) in
    subst (λ (o : Result Reply Refusal). (after : Content) × CommitEnds (archive_of old c) reply b (HasFailed old.life new.life) o (archive_of new after)) (sym is.0) (subst E (sym is.1) made)
exact_commit old new reply to (Err refusal) told c went refused =
    let is = refused refusal refl in
    let b : Archive = to (archive_of old c) in
    subst (λ (o : Result Reply Refusal). (after : Content) × CommitEnds (archive_of old c) reply b (HasFailed old.life new.life) o (archive_of new after)) (sym is.0) (elim is.2 [
      | inl fault ↦
          let desk : new.desk ≡ broken_desk old.desk = is.1 ∙ ap (λ (r : Refusal). after_failure r old.desk) fault in
          let F : DeskState → Type 0 = λ d. (after : Content) × CommitEnds (archive_of old c) reply b (HasFailed old.life new.life) (Err DeviceFault) (archive_of (record { life = new.life; log = new.log; desk = d }) after) in
          let made : F (broken_desk old.desk) = (content_of (broken b.state (archive_of old c)), (is.3 fault, refl)) in
          subst (λ (r : Refusal). (after : Content) × CommitEnds (archive_of old c) reply b (HasFailed old.life new.life) (Err r) (archive_of new after)) (sym fault) (subst F (sym desk) made)
      | inr memory ↦
          let desk : new.desk ≡ old.desk = is.1 ∙ ap (λ (r : Refusal). after_failure r old.desk) memory in
          let F : DeskState → Type 0 = λ d. (after : Content) × CommitEnds (archive_of old c) reply b (HasFailed old.life new.life) (Err NoMemory) (archive_of (record { life = new.life; log = new.log; desk = d }) after) in
          let made : F old.desk = (c, refl) in
          subst (λ (r : Refusal). (after : Content) × CommitEnds (archive_of old c) reply b (HasFailed old.life new.life) (Err r) (archive_of new after)) (sym memory) (subst F (sym desk) made)
    ])

-- of a crash-consistent archive, where what it leads to is consistent, and what its sessions wrote stands
module _ (old new : EngineState) (c : Content) (was : IsCrashConsistent old.life old.log (archive_of old c)) (b : Archive) (reply : Reply) (keeps : KeepsSegments old.life new.life) where
  abbrev a : Archive
  a = archive_of old c

  stand_here : (x : Archive) (ss : List RecorderSession) → Each (StandsBehind (reads old.life.now) x) ss → Each (StandsBehind (reads new.life.now) x) ss
  stand_here x ss all = stand_on (reads old.life.now) (reads new.life.now) x ss (λ id base. keeps.same (Segment id base) (λ is. absurd cc) (λ is. absurd cc)) all

  pub commit_done : StaysConsistent a b → Each (StandsBehind (reads old.life.now) b) b.desk.callers.sessions → new.desk ≡ b.desk → Moves old.life new.life new.log a.state b.state (Ok tt)
      → CallEnded old new a (CommitEnds a reply b (HasFailed old.life new.life) (Ok reply))
  commit_done stays stand desk moves =
      done old new a b _ moves.any_moment
      (sound_consistent new.life new.log b moves.rests stays.consistent (stand_here b b.desk.callers.sessions stand) (λ obeys. stays.boundaries (was.boundaries (keeps.obeyed obeys)))) desk (refl, refl)

  pub commit_refused : (refusal : Refusal) → (refusal ≡ DeviceFault → HasFailed old.life new.life) → new.desk ≡ after_failure refusal old.desk → Moves old.life new.life new.log a.state b.state (Err refusal)
      → CallEnded old new a (CommitEnds a reply b (HasFailed old.life new.life) (Err refusal))
  commit_refused NoMemory cause desk moves =
      done old new a a _
      (weaker old.life new.life (RecoversTo (IsEither a.state a.state)) (RecoversTo (λ x. x ≡ a.state)) moves.rests.1 (λ image. recovers_as (λ x. x ≡ a.state) (IsEither a.state a.state) image (λ s same. inl same)))
      (sound_consistent new.life new.log a moves.rests.0 was.archive (stand_here a a.desk.callers.sessions was.stand) (λ obeys. was.boundaries (keeps.obeyed obeys))) desk refl
  commit_refused DeviceFault cause desk moves =
      failed old new a b.state _ was.archive moves.any_moment moves.frames (stand_here a a.desk.callers.sessions was.stand) (λ obeys. was.boundaries (keeps.obeyed obeys)) desk (cause refl, refl)
  commit_refused refusal cause desk moves = absurd moves.rests
