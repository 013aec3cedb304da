-- How a call ends that settles what a session wrote.
use Rattle.std.proofs.Common.{rules, ◌≡◌, ◌≢◌, ◌⊎◌, ◌∙◌, ◌+◌, ◌<◌, sym, ap, subst, refl, ℤ, pos, ◌+ℤ◌, ◌&&◌, ◌||◌, not, Bool, true, false, cond, true≢false, inl, inr, List, [], ◌∷◌, Option, Some, Result, Ok, Err, unsigned_abs, arith}
use Rattle.std.specs.Prelude.{IsFalse, IsTrue, is_some}
use Rattle.engine_core.proofs.Words.{AddsEntry, Archive, ArchiveEnds, Block, CallEnded, CallEnds, Command, CommitEnds, CommitsEntry, Content, DeskState, DeviceFault, DiskImage, Each, EndsAs, EndsEvent, EngineState, Enters, Entry, Event, FileId, HasBlocks, HasEntryRoom, HasFailed, IsConsistent, IsCrashConsistent, IsFromStart, IsLayout, IsSound, IsTied, KeepsDesk, KeepsSegments, Layout, Life, LogState, Moves, NoMemory, RecorderSession, Recording, Refusal, Registration, Reply, SettlesAt, Stands, StandsBehind, State, StaysConsistent, StaysOpen, Tests, Written, after, after_failure, archive_of, bank_file, book_of, both, call_is_allowed, checked, checks, content_of, counts, covered, each_found, empty, entry_of, file_of, find, found_number, frames_of, held, id_of, last_of, layout_of, opened_archive, reads, recorded_position, recording_at, registration_in, session_in, session_number, settle_decision, settled}
use Rattle.archive_model.specs.declared.version.BankVersion.TheVariants.{Two}
use Rattle.archive_model.specs.declared.command.Command.TheVariants as commands
use Rattle.archive_model.specs.declared.reply.Reply.TheVariants as replies
use Rattle.archive_model.specs.Commands.{recorded_in}
use Rattle.catalogue_entries.specs.declared.entry.Entry.TheVariants as entries
use Rattle.control_core.specs.declared.callers.Writer.{Writer}
use Rattle.control_core.specs.declared.event.Event.TheVariants as events
use Rattle.control_core.specs.declared.turns.Settling.{Settling}
use Rattle.control_core.specs.declared.turns.Settling.TheVariants as settling
use Rattle.control_core.specs.Changes.{settled_by}
use Rattle.control_core.specs.Consistent.{SettlesByAppend, Wrote, WroteNothing}
use Rattle.control_core.specs.Desk.{has_room}
use Rattle.control_core.specs.Exact.{SettlingEnds, has_blocks, is_poll, settled_archive, writes_files}
use Rattle.control_core.specs.Seats.{IsWriter}
use Rattle.control_core.specs.Turns.{has_written, settle_tests, settling_of}
use Rattle.control_core.proofs.ConsistentLemmas.{consistent_call, settling_sessions}
use Rattle.control_core.proofs.DecidedLemmas.{IsSettled, settling_accepted, settling_session}
use Rattle.control_core.proofs.FaultLemmas.{other_cause}
use Rattle.engine_core.specs.Calls.{Keeps, TellsBank}
use Rattle.engine_core.proofs.calls.CommitCallLemmas.{commit_done, commit_refused, exact_commit, tied_behind}
use Rattle.engine_core.proofs.calls.EndedLemmas.{as_before, ended_as, goes_on_here, no_doubt, quiet_life, same_bank, spared, spared_by, spared_unbroken, still}
use Rattle.engine_core.proofs.files.FrameLemmas.{each_then}
use Rattle.engine_core.proofs.calls.KnownLemmas.{IsKnown, known_recording, laid_found, layout_laid, written_from_start}
use Rattle.engine_core.proofs.calls.StandLemmas.{stands_nothing, stands_open}
use Rattle.engine_core.proofs.files.StayLemmas.{enters}
use Rattle.engine_core.specs.Touching.{IsSegmentAt, IsSettledFile, SettlesBlocks, written_by}
use Rattle.std.proofs.Common.{IsSomeAnd}

-- ---- what is decided

-- there are blocks to settle, no write has failed, and the history has room
pub record Settles (d : DeskState) (n id : ℤ) (w : Written) : Type 0 where
  pub of : IsSettled d n id w
  pub works : d.is_broken ≡ false
  pub room : d.counted < d.limit

pub not_so : (b : Bool) → not b ≡ true → b ≡ false
not_so true is = absurd (true≢false (sym is))
not_so false is = refl

pub settles : (d : DeskState) (n id : ℤ) (w : Written)
    → settle_decision d n ≡ Ok (settling.Blocks id w) → Settles d n id w
settles d n id w told =
    let is = held (settle_tests d n) checks (settling_of d (session_in d n)) (settling.Blocks id w) told in
    let of = settling_session d n id w (session_in d n) refl is.1 in
    let unsettled : Bool = not (has_written (session_in d n)) || has_room d in
    let whole : (not d.is_broken ≡ true) × ((is_some (session_in d n) && (unsettled && true)) ≡ true) = both is.0 in
    let there : (is_some (session_in d n) ≡ true) × ((unsettled && true) ≡ true) = both whole.1 in
    let full : (unsettled ≡ true) × (true ≡ true) = both there.1 in
    let wrote : has_written (session_in d n) ≡ true = ap has_written of.found ∙ ap is_some of.written in
    let room : has_room d ≡ true = ap (λ t. not t || has_room d) (sym wrote) ∙ full.0 in
    record { of = of; works = not_so d.is_broken whole.0; room = search (rules, room) }

-- ---- the recording whose blocks are settled

-- it is the one that was found with the session
pub settled_known : (d : DeskState) (n id : ℤ) (w : Written) (writer : Writer) → settle_decision d n ≡ Ok (settling.Blocks id w) → IsWriter n d writer → Some writer.known.now ≡ registration_in d.register id
settled_known d n id w writer told is =
    let of = (settles d n id w told).of in
    let same : Some writer.found.session ≡ Some of.session = sym is.found.session ∙ of.found in
    let one : writer.found.session ≡ of.session = cc in
    sym is.known ∙ ap (λ (s : RecorderSession). registration_in d.register s.recording) one ∙ ap (λ (z : ℤ). registration_in d.register z) of.recording

-- the files that are touched are those of the session
pub blocks_touch : (e : EngineState) (n id : ℤ) (w : Written) (known : Registration) (layout : Layout) (new : Life) → settle_decision e.desk n ≡ Ok (settling.Blocks id w) → Some known ≡ registration_in e.desk.register id → layout ≡ layout_of known.descriptor
    → SettlesAt e.life new (file_of layout (unsigned_abs w.first)) (bank_file e.log.bank) → SettlesBlocks e n new
blocks_touch e n id w known layout new told there is at =
    let of = (settles e.desk n id w told).of in
    let writes : written_by e.desk (session_in e.desk n) ≡ Some known = ap (written_by e.desk) of.found ∙ ap (registration_in e.desk.register) of.recording ∙ sym there in
    let own : (file : FileId) → file ≡ file_of layout (unsigned_abs w.first) → IsSettledFile e.desk n file = λ file same.
    subst (λ (o : Option RecorderSession). IsSomeAnd o (λ s. IsSomeAnd s.written (λ (v : Written). IsSegmentAt e.desk n v.first file))) (sym of.found)
    (subst (λ (o : Option Written). IsSomeAnd o (λ (v : Written). IsSegmentAt e.desk n v.first file)) (sym of.written)
    (subst (λ (o : Option Registration). IsSomeAnd o (λ g. file ≡ file_of (layout_of g.descriptor) (unsigned_abs w.first))) (sym writes) (same ∙ ap (λ (l : Layout). file_of l (unsigned_abs w.first)) is))) in
    record {
      changes = record {
        others = λ file none. at.changes.others file (λ either. none (elim either [ inl segment ↦ inl (own file segment) | inr bank ↦ inr bank ]));
        calls = at.changes.calls;
      };
      segments = at.segments;
    }

module _ (d : DeskState) (n id : ℤ) (w : Written) (r : Registration) (keeps : KeepsDesk d.register d.callers) (told : settle_decision d n ≡ Ok (settling.Blocks id w)) (there : Some r ≡ registration_in d.register id) where
  -- it is laid out
  pub settled_layout : IsLayout (layout_of r.descriptor)
  settled_layout = layout_laid r (laid_found d id r keeps there).laid_out

  -- its blocks lie behind its start
  pub settled_start : IsFromStart (layout_of r.descriptor) w.first
  settled_start =
      let of = (settles d n id w told).of in
      let known : registration_in d.register of.session.recording ≡ Some r = ap (λ (z : ℤ). registration_in d.register z) of.recording ∙ sym there in
      written_from_start d n of.session r w keeps of.found known of.written

-- the log works, and has room for an entry
pub settling_works : (log : LogState) (d : DeskState) (n id : ℤ) (w : Written) → IsTied log d
    → settle_decision d n ≡ Ok (settling.Blocks id w) → IsFalse log.is_broken
settling_works log d n id w tied told = tied.works (settles d n id w told).works

pub settling_room : (log : LogState) (d : DeskState) (n id : ℤ) (w : Written) (e : Entry)
    → IsTied log d → settle_decision d n ≡ Ok (settling.Blocks id w) → HasEntryRoom log e
settling_room log d n id w e tied told = λ is_yes.
    let decided = settles d n id w told in
    let less = decided.room in
    let has = tied.counted decided.works in
    let most = tied.limit decided.works in omega (arith, less, has, most)

-- ---- what the files are asked for once blocks are to be settled

pub record IsAsked (d : DeskState) (n id : ℤ) (w : Written) (layout : Layout) (position : ℤ) (entry : Entry) : Type 0 where
  pub told : settle_decision d n ≡ Ok (settling.Blocks id w)
  pub registration : Registration
  pub there : Some registration ≡ registration_in d.register id
  pub layout_is : layout ≡ layout_of registration.descriptor
  pub position_is : position ≡ w.first
  pub entry_is : entry ≡ entries.Settle id w.last

-- numbers are as the files are told them
pub asked : (d : DeskState) (n id : ℤ) (w : Written) (layout : Layout) (first last number : ℤ) (r : Registration) → settle_decision d n ≡ Ok (settling.Blocks id w) → Some r ≡ registration_in d.register id → layout ≡ layout_of r.descriptor
    → w.first ≡ first → w.last ≡ last → id ≡ number → IsAsked d n id w layout first (entries.Settle number last)
asked d n id w layout first last number r told there layout_is same_first same_last same_id = record {
  told = told;
  registration = r;
  there = there;
  layout_is = layout_is;
  position_is = sym same_first;
  entry_is = ap (λ (z : ℤ). entries.Settle z last) (sym same_id) ∙ ap (λ (z : ℤ). entries.Settle id z) (sym same_last);
}

module _ (log : LogState) (d : DeskState) (n id : ℤ) (w : Written) (layout : Layout) (position : ℤ) (entry : Entry) (tied : IsTied log d) (asks : IsAsked d n id w layout position entry) where
  -- log and desk count it alike
  pub settled_tied : (new_log : LogState) (new_d : DeskState) → new_log.header ≡ log.header → new_log.is_broken ≡ log.is_broken → new_log.counted ≡ log.counted + (cond (counts entry) 1 0) → new_d ≡ settled (session_in d n) d → IsTied new_log new_d
  settled_tied new_log new_d header broke counted is =
      let decided = settles d n id w asks.told in
      let s = decided.of.session in
      let one : new_log.counted ≡ log.counted + 1 = subst (λ (e : Entry). new_log.counted ≡ log.counted + (cond (counts e) 1 0)) asks.entry_is counted in
      let desk : new_d ≡ settled_by s (Some w) d = is ∙ ap (λ (o : Option RecorderSession). settled o d) decided.of.found ∙ ap (λ (o : Option Written). settled_by s o d) decided.of.written in
      subst (IsTied new_log) (sym desk) (tied_behind log new_log d (settled_by s (Some w) d) 1 tied decided.works header broke one refl refl refl)

-- ---- of a crash-consistent archive

-- what its sessions wrote stands on
pub stands_settled : (image : DiskImage) (a : Archive) (n id : ℤ) (w : Written) → IsConsistent a → Each (StandsBehind image a) a.desk.callers.sessions → settle_decision a.desk n ≡ Ok (settling.Blocks id w) → Each (StandsBehind image (settled_archive a n id)) (settled_archive a n id).desk.callers.sessions
stands_settled image a n id w was stand told =
    let b = settled_archive a n id in
    each_then (λ s. WroteNothing b s ⊎ (StaysOpen a b.state s × (b.blocks s.number ≡ a.blocks s.number))) (StandsBehind image b) b.desk.callers.sessions (settling_sessions a n id w was told)
    (λ s goes. elim goes [
      | inl nothing ↦ stands_nothing image b s nothing.1
      | inr stays ↦ stands_open image a b s was stays.0 stays.1 (λ r found. each_found session_number (StandsBehind image a) s.number a.desk.callers.sessions s stand stays.0.was r found)
    ])

-- what the call of the files says of every state
abbrev pub SettlesFiles : EngineState → EngineState → Layout → ℤ → Entry → Result (Unit {0}) Refusal → Type 0
SettlesFiles old new layout position entry result =
    (x : State) (y : Recording) (blocks : List Block) → IsSound old.life.now old.log x
    → find id_of layout.recording x.recordings ≡ Some y → layout ≡ layout_of y.descriptor →
    Stands (reads old.life.now) (file_of layout (unsigned_abs position)) y (frames_of blocks) → Enters x (after x (commands.Append layout.recording blocks)) entry →
    Moves old.life new.life new.log x (after x (commands.Append layout.recording blocks)) result

module _ (old new : EngineState) (content : Content) (n id : ℤ) (w : Written) (layout : Layout) (position : ℤ) (entry : Entry) (was : IsCrashConsistent old.life old.log (archive_of old content)) (tied : IsTied old.log old.desk)
    (asks : IsAsked old.desk n id w layout position entry) where
  abbrev a : Archive
  a = archive_of old content

  abbrev of : IsSettled old.desk n id w
  of = (settles old.desk n id w asks.told).of

  abbrev s : RecorderSession
  s = of.session

  number_is : s.number ≡ n
  number_is = found_number session_number n old.desk.callers.sessions s of.found

  known : IsKnown a id asks.registration
  known = known_recording a id asks.registration was.archive.agrees (sym asks.there)

  abbrev r : Recording
  r = known.recording

  layout_same : layout ≡ layout_of r.descriptor
  layout_same = asks.layout_is ∙ ap (λ (g : Registration). layout_of g.descriptor) known.is

  id_same : layout.recording ≡ id
  id_same = ap (λ (x : Layout). x.recording) layout_same ∙ found_number id_of id a.state.recordings r known.found

  -- ---- the blocks, and the recording that they go on

  wrote : Wrote a s w
  wrote = subst (HasBlocks a s) of.written (each_found session_number (λ x. HasBlocks a x x.written) n a.desk.callers.sessions s was.archive.blocks of.found)

  first_is : position ≡ recorded_position r
  first_is = asks.position_is ∙ wrote.first ∙ ap (λ (z : ℤ). recorded_in (recording_at a z)) of.recording ∙ ap recorded_in known.found

  stands : Stands (reads old.life.now) (file_of layout (unsigned_abs position)) r (frames_of (a.blocks n))
  stands =
      let there : recording_at a s.recording ≡ Some r = ap (λ (z : ℤ). recording_at a z) of.recording ∙ known.found in
      let here : Stands (reads old.life.now) (file_of (layout_of r.descriptor) (last_of r)) r (frames_of (a.blocks s.number)) = each_found session_number (StandsBehind (reads old.life.now) a) n a.desk.callers.sessions s was.stand of.found r there in
      subst (λ (m : ℤ). Stands (reads old.life.now) (file_of layout (unsigned_abs position)) r (frames_of (a.blocks m))) number_is
      (subst (λ (l : Layout). Stands (reads old.life.now) (file_of l (unsigned_abs position)) r (frames_of (a.blocks s.number))) (sym layout_same)
      (subst (λ (p : ℤ). Stands (reads old.life.now) (file_of (layout_of r.descriptor) (unsigned_abs p)) r (frames_of (a.blocks s.number))) (sym first_is) here))

  -- ---- the command that the settling makes

  abbrev c : Command
  c = commands.Append id (a.blocks n)

  by_append : SettlesByAppend a n id
  by_append = settling_accepted a n id w was.archive asks.told

  end_is : w.last ≡ recorded_in (find id_of id a.state.recordings) +ℤ pos (covered (frames_of (a.blocks n)))
  end_is = wrote.last ∙ ap (λ (z : ℤ). recorded_in (recording_at a z) +ℤ pos (covered (frames_of (a.blocks s.number)))) of.recording ∙ ap (λ (m : ℤ). recorded_in (recording_at a id) +ℤ pos (covered (frames_of (a.blocks m)))) number_is

  entry_same : entry ≡ entry_of a.state c
  entry_same = asks.entry_is ∙ ap (λ (p : ℤ). entries.Settle id p) end_is

  entered_by : Enters a.state (after a.state c) entry
  entered_by = subst (Enters a.state (after a.state c)) (sym entry_same) (enters (book_of a) c was.archive.well by_append.acceptable.accepted)

  -- what the call of the files did
  settled_moves : (result : Result (Unit {0}) Refusal) → SettlesFiles old new layout position entry result → Moves old.life new.life new.log a.state (after a.state c) result
  settled_moves result does =
      let there : find id_of layout.recording a.state.recordings ≡ Some r = ap (λ (z : ℤ). find id_of z a.state.recordings) id_same ∙ known.found in
      let goes : Enters a.state (after a.state (commands.Append layout.recording (a.blocks n))) entry = subst (λ (z : ℤ). Enters a.state (after a.state (commands.Append z (a.blocks n))) entry) (sym id_same) entered_by in
      let doubtless = no_doubt a was.archive (settles old.desk n id w asks.told).works in
      subst (λ (z : ℤ). Moves old.life new.life new.log a.state (after a.state (commands.Append z (a.blocks n))) result) id_same
      (does a.state r (a.blocks n) (was.sound doubtless) there layout_same stands goes)

  -- ---- it went well, or failed

  module _ (keeps : KeepsSegments old.life new.life) where
    settled_stays : StaysConsistent a (settled_archive a n id)
    settled_stays =
        let ends : SettlingEnds a n (settle_decision a.desk n) (Ok (replies.Settled w.last)) (settled_archive a n id) =
        subst (λ (o : Result Settling Refusal). SettlingEnds a n o (Ok (replies.Settled w.last)) (settled_archive a n id)) (sym asks.told) (refl, refl) in
        consistent_call a (events.Settle n) (Ok (replies.Settled w.last)) (settled_archive a n id) was.archive ends

    settle_done : (reply : Reply) → new.desk ≡ settled (session_in old.desk n) old.desk → SettlesFiles old new layout position entry (Ok tt) → CallEnded old new a (CommitEnds a reply (settled_archive a n id) (HasFailed old.life new.life) (Ok reply))
    settle_done reply desk does =
        commit_done old new content was (settled_archive a n id) reply keeps settled_stays (stands_settled (reads old.life.now) a n id w was.archive was.stand asks.told) desk (settled_moves (Ok tt) does)

    settle_refused : (reply : Reply) (refusal : Refusal) → (refusal ≡ DeviceFault → HasFailed old.life new.life) → new.desk ≡ after_failure refusal old.desk → SettlesFiles old new layout position entry (Err refusal)
        → CallEnded old new a (CommitEnds a reply (settled_archive a n id) (HasFailed old.life new.life) (Err refusal))
    settle_refused reply refusal cause desk does = commit_refused old new content was (settled_archive a n id) reply keeps refusal cause desk (settled_moves (Err refusal) does)

-- ---- whatever the archive is

module _ (old new : EngineState) (n id : ℤ) (w : Written) (layout : Layout) (position : ℤ) (entry : Entry) (tied : IsTied old.log old.desk) (asks : IsAsked old.desk n id w layout position entry) (keeps : KeepsSegments old.life new.life) where
  abbrev pub SettlesTo : Result Reply Refusal → Type 0
  SettlesTo outcome = CommitsEntry old new (λ a. settle_decision a.desk n ≡ Ok (settling.Blocks id w)) (replies.Settled w.last) (λ a. settled_archive a n id) outcome

  pub settling_done : AddsEntry old.life new.life old.log new.log entry (Ok tt) → new.desk ≡ settled (session_in old.desk n) old.desk → SettlesFiles old new layout position entry (Ok tt) → SettlesTo (Ok (replies.Settled w.last))
  settling_done adds desk does = record {
    goes_on = adds.goes_on;
    bank = adds.bank;
    kept = tt;
    exact = λ content. exact_commit old new (replies.Settled w.last) (λ a. settled_archive a n id) (Ok tt) (Ok (replies.Settled w.last)) content (λ done is. (refl, desk)) (λ refusal is. absurd cc);
    ended = λ content was fits. settle_done old new content n id w layout position entry was tied asks keeps (replies.Settled w.last) desk does;
  }

  pub settling_failed : (refusal told : Refusal) → told ≡ refusal → AddsEntry old.life new.life old.log new.log entry (Err refusal) → (refusal ≢ DeviceFault → new.life ≡ old.life) → new.desk ≡ after_failure refusal old.desk → SettlesFiles old new layout position entry (Err refusal) → SettlesTo (Err told)
  settling_failed refusal told same adds quiet desk does =
      let outside = adds.outside in
      let cause : refusal ≡ DeviceFault → HasFailed old.life new.life = λ is. adds.cause (ap Err is) in
      let outcome : Result Reply Refusal = Err refusal in
      let Told : Refusal → Type 0 = λ x. (outcome ≡ Err x) × (new.desk ≡ after_failure x old.desk) × ((x ≡ DeviceFault) ⊎ (x ≡ NoMemory)) × (x ≡ DeviceFault → HasFailed old.life new.life) in
      subst (λ (r : Refusal). SettlesTo (Err r)) (sym same) (record {
        goes_on = adds.goes_on;
        bank = adds.bank;
        kept = spared_unbroken old new refusal (settles old.desk n id w asks.told).works desk outside quiet adds.kept;
        exact = λ content.
            exact_commit old new (replies.Settled w.last) (λ a. settled_archive a n id) (Err refusal) (Err refusal) content (λ done is. absurd cc)
            (λ r is. let one : refusal ≡ r = cc in subst Told one (refl, desk, outside, cause));
        ended = λ content was fits. settle_refused old new content n id w layout position entry was tied asks keeps (replies.Settled w.last) refusal cause desk does;
      })

-- ---- the call

-- a check refuses by no fault
no_fault_in : {X : Type 0} (tests : Tests) (rs : List Refusal) (x : X)
    → Each (λ refusal. refusal ≢ DeviceFault) rs → checked tests rs (Ok x) ≢ Err DeviceFault
no_fault_in tests [] x others is = absurd cc
no_fault_in {X = X} tests (refusal ∷ rs) x others is = by (tests refusal) is (no_fault_in tests rs x others.1)
  where
    by : (b : Bool) → cond b (checked tests rs (Ok x)) (Err refusal) ≡ Err DeviceFault
        → checked tests rs (Ok x) ≢ Err DeviceFault → ⊥
    by true is rest = rest is
    by false is rest = others.0 cc

pub no_fault : {X : Type 0} (tests : Tests) (x : X) → checked tests checks (Ok x) ≢ Err DeviceFault
no_fault tests x = no_fault_in tests checks x ((λ e. cc), ((λ e. cc), ((λ e. cc), ((λ e. cc), ((λ e. cc), ((λ e. cc), ((λ e. cc), ((λ e. cc), ((λ e. cc), ((λ e. cc), ((λ e. cc), ((λ e. cc), ((λ e. cc), ((λ e. cc), ((λ e. cc), ((λ e. cc), tt))))))))))))))))

ends_exactly : (a : Archive) (event : Event) (faulted : Type 0) (outcome : Result Reply Refusal) (b : Archive) → ArchiveEnds a event outcome b → CallEnds a event faulted outcome b
ends_exactly a event faulted (Ok reply) b ends = ends
ends_exactly a event faulted (Err refusal) b ends = inl ends

-- what makes an archive of a desk
abbrev pub blank : Content
blank = content_of (opened_archive empty 0 0 Two)

-- an event that is answered by the desk alone, and changes nothing
pub answered_still : (e : EngineState) (event : Event) (outcome : Result Reply Refusal) (some : Content) → TellsBank event e e.log outcome → is_poll event ≡ false → event ≢ events.Sweep → outcome ≢ Err DeviceFault → ArchiveEnds (archive_of e some) event outcome (archive_of e some)
    → ((c : Content) → IsCrashConsistent e.life e.log (archive_of e c) → ArchiveEnds (archive_of e c) event outcome (archive_of e c)) → ((a : Archive) → Keeps event a a) → EndsEvent e e event outcome
answered_still e event outcome some bank no_poll no_sweep no_fault here ends keeps = record {
  goes_on = goes_on_here e.life;
  bank = bank;
  cause = λ fault. absurd (no_fault fault);
  machine = call_is_allowed (archive_of e some) event outcome (archive_of e some) (λ poll. absurd (true≢false (sym poll ∙ no_poll))) (ends_exactly (archive_of e some) event (Unit {0}) outcome (archive_of e some) here);
  kept = spared _ e e outcome (as_before e);
  swept = λ removed is. absurd (no_sweep is);
  ended = λ c was cut.
      still e e (archive_of e c) (EndsAs e.life e.life event (archive_of e c) outcome) (quiet_life e.life) refl refl was
      ((λ reads. ends_exactly (archive_of e c) event (HasFailed e.life e.life) outcome (archive_of e c) (ends c was)), keeps (archive_of e c));
}

-- what a commit ends with is what the call that it is made by may end with
pub commit_call : (a : Archive) (event : Event) (reply : Reply) (b : Archive) (faulted : Type 0) (outcome : Result Reply Refusal) (after : Archive) → IsTrue (writes_files a.desk event) → ArchiveEnds a event (Ok reply) b → CommitEnds a reply b faulted outcome after
    → CallEnds a event faulted outcome after
commit_call a event reply b faulted (Ok told) after writes ends is = subst (λ (x : Archive). ArchiveEnds a event (Ok told) x) (sym is.1) (subst (λ (x : Reply). ArchiveEnds a event (Ok x) b) (sym is.0) ends)
commit_call a event reply b faulted (Err NoMemory) after writes ends is = inr is
commit_call a event reply b faulted (Err DeviceFault) after writes ends is = inr (is.0, inr (writes, (b.state, (reply, (b, ends, refl)), is.1)))
commit_call a event reply b faulted (Err refusal) after writes ends is = absurd is

pub commit_cause : (a : Archive) (reply : Reply) (b : Archive) (faulted : Type 0) (outcome : Result Reply Refusal) (after : Archive) → CommitEnds a reply b faulted outcome after → outcome ≡ Err DeviceFault → faulted
commit_cause a reply b faulted outcome after ends is = (subst (λ (o : Result Reply Refusal). CommitEnds a reply b faulted o after) is ends).0

-- it is refused
pub settle_refuses : (e : EngineState) (n : ℤ) (refusal : Refusal)
    → settle_decision e.desk n ≡ Err refusal → EndsEvent e e (events.Settle n) (Err refusal)
settle_refuses e n refusal is =
    let outcome : Result Settling Refusal = Err refusal in
    answered_still e (events.Settle n) (Err refusal) blank (same_bank e.log e.log refl) refl (λ sweep. absurd cc)
    (λ fault. let same : outcome ≡ Err DeviceFault = cc in no_fault (settle_tests e.desk n) (settling_of e.desk (session_in e.desk n)) (is ∙ same)) (ends blank) (λ c was. ends c) (λ a. tt)
  where
    ends : (c : Content) → ArchiveEnds (archive_of e c) (events.Settle n) (Err refusal) (archive_of e c)
    ends c = subst (λ (o : Result Settling Refusal). SettlingEnds (archive_of e c) n o (Err refusal) (archive_of e c)) (sym is) (refl, refl)

-- there is nothing to settle
pub settle_nothing : (e : EngineState) (n position : ℤ) → settle_decision e.desk n ≡ Ok (settling.Nothing position) → EndsEvent e e (events.Settle n) (Ok (replies.Settled position))
settle_nothing e n position is = answered_still e (events.Settle n) (Ok (replies.Settled position)) blank (same_bank e.log e.log refl) refl (λ sweep. absurd cc) (λ fault. absurd cc) (ends blank) (λ c was. ends c) (λ a. tt)
  where
    ends : (c : Content) → ArchiveEnds (archive_of e c) (events.Settle n) (Ok (replies.Settled position)) (archive_of e c)
    ends c = subst (λ (o : Result Settling Refusal). SettlingEnds (archive_of e c) n o (Ok (replies.Settled position)) (archive_of e c)) (sym is) (refl, refl)

-- blocks are settled
pub settle_blocks : (old new : EngineState) (n id : ℤ) (w : Written) (outcome : Result Reply Refusal) → settle_decision old.desk n ≡ Ok (settling.Blocks id w)
    → CommitsEntry old new (λ a. settle_decision a.desk n ≡ Ok (settling.Blocks id w)) (replies.Settled w.last) (λ a. settled_archive a n id) outcome → EndsEvent old new (events.Settle n) outcome
settle_blocks old new n id w outcome told commits =
    let event : Event = events.Settle n in
    let made = commits.exact blank in
    let faulted : Type 0 = HasFailed old.life new.life in
    record {
      goes_on = commits.goes_on;
      bank = commits.bank;
      cause = commit_cause (archive_of old blank) (replies.Settled w.last) (settled_archive (archive_of old blank) n id) faulted outcome (archive_of new made.0) made.1;
      machine = call_is_allowed (archive_of old blank) event outcome (archive_of new made.0) (λ poll. absurd (true≢false (sym poll)))
          (other_cause (archive_of old blank) event faulted (Unit {0}) outcome (archive_of new made.0) (λ failed. tt) (by blank (archive_of new made.0) made.1));
      kept = spared_by _ _ old new outcome (λ harmless. harmless.1) commits.kept;
      swept = λ removed is. absurd cc;
      ended = λ c was cut.
          ended_as old new (archive_of old c) (CommitEnds (archive_of old c) (replies.Settled w.last) (settled_archive (archive_of old c) n id) faulted outcome) (EndsAs old.life new.life event (archive_of old c) outcome)
          (λ b ends. ((λ reads. by c b ends), tt)) (commits.ended c was told);
    }
  where
    by : (c : Content) (after : Archive) → CommitEnds (archive_of old c) (replies.Settled w.last) (settled_archive (archive_of old c) n id) (HasFailed old.life new.life) outcome after → CallEnds (archive_of old c) (events.Settle n) (HasFailed old.life new.life) outcome after
    by c after ends =
        let exact : SettlingEnds (archive_of old c) n (settle_decision old.desk n) (Ok (replies.Settled w.last)) (settled_archive (archive_of old c) n id) =
        subst (λ (o : Result Settling Refusal). SettlingEnds (archive_of old c) n o (Ok (replies.Settled w.last)) (settled_archive (archive_of old c) n id)) (sym told) (refl, refl) in
        commit_call (archive_of old c) (events.Settle n) (replies.Settled w.last) (settled_archive (archive_of old c) n id) (HasFailed old.life new.life) outcome after (ap has_blocks told) exact ends
