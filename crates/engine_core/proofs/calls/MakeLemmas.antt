-- How a command is made.
use Rattle.std.proofs.Common.{◌≢◌, rules, ◌≡◌, ◌⊎◌, ◌∙◌, ◌+◌, sym, ap, subst, refl, pos, [], cond, inl, inr}
use Rattle.std.specs.Prelude.{IsFalse, IsTrue, Result, Ok, Err, Some, is_some}
use Rattle.engine_core.proofs.Words.{Accepts, AddsEntry, Allows, Archive, BankVersion, CallEnded, ChangesBank, Command, CommitEnds, CommitsEntry, Content, DeskState, DeviceFault, DiskImage, Each, EngineState, Entry, EntryLeads, FileState, HasEntryRoom, HasFailed, IsConsistent, IsCrashConsistent, IsRequested, IsSound, IsTied, KeepsSegments, Life, LogState, Moves, NoMemory, Refusal, Reply, StandsBehind, State, StaysConsistent, StaysOpen, after, after_failure, archive_after, archive_of, book_of, counts, desk_after, each_found, entry_of, reads, reply_after, session_in, session_number}
use Rattle.archive_model.specs.declared.command.Command.TheVariants as commands
use Rattle.archive_model.specs.Acceptance as acceptance
use Rattle.catalogue_entries.specs.EntryBytes.{is_held}
use Rattle.control_core.specs.Agreement.{HasWritten}
use Rattle.control_core.specs.Consistent.{IsAcceptable, WroteNothing, is_append}
use Rattle.control_core.proofs.AllowedLemmas.{start_held}
use Rattle.control_core.proofs.CommandLemmas.{consistent_after, sessions_stay}
use Rattle.control_core.proofs.FoundLemmas.{each_both}
use Rattle.control_core.proofs.StayLemmas.{each_itself, open_blocks}
use Rattle.engine_core.proofs.calls.CommitCallLemmas.{commit_done, commit_refused, exact_commit, room_for, tied_behind}
use Rattle.engine_core.proofs.calls.EndedLemmas.{as_before, goes_on_here, no_doubt, quiet_life, same_bank, spared, spared_unbroken, still}
use Rattle.engine_core.proofs.calls.StandLemmas.{stands_either, stands_nothing}
use Rattle.engine_core.proofs.files.StayLemmas.{leads}

-- ---- a command that a request makes, or a restart

pub made_no_append : (c : Command) → IsRequested c → IsFalse (is_append c)
made_no_append (commands.Start f) made = refl
made_no_append (commands.Append id blocks) made = absurd made
made_no_append (commands.Stop id timestamp) made = refl
made_no_append (commands.Extend f) made = refl
made_no_append (commands.Truncate id position) made = refl
made_no_append (commands.PurgeSegments id position) made = refl
made_no_append (commands.PurgeRecording id) made = refl
made_no_append commands.Restart made = refl

-- what the desk counts, and its limit
desk_counts : (d : DeskState) (c : Command) → IsRequested c
    → (desk_after d c).counted ≡ d.counted + cond (acceptance.counts c) 1 0
desk_counts d (commands.Start f) made = refl
desk_counts d (commands.Append id blocks) made = absurd made
desk_counts d (commands.Stop id timestamp) made = refl
desk_counts d (commands.Extend f) made = refl
desk_counts d (commands.Truncate id position) made = refl
desk_counts d (commands.PurgeSegments id position) made = refl
desk_counts d (commands.PurgeRecording id) made = refl
desk_counts d commands.Restart made = search (rules)

desk_limit : (d : DeskState) (c : Command) → IsRequested c → (desk_after d c).limit ≡ d.limit
desk_limit d (commands.Start f) made = refl
desk_limit d (commands.Append id blocks) made = absurd made
desk_limit d (commands.Stop id timestamp) made = refl
desk_limit d (commands.Extend f) made = refl
desk_limit d (commands.Truncate id position) made = refl
desk_limit d (commands.PurgeSegments id position) made = refl
desk_limit d (commands.PurgeRecording id) made = refl
desk_limit d commands.Restart made = refl

desk_version : (d : DeskState) (c : Command) → IsRequested c → (desk_after d c).version ≡ d.version
desk_version d (commands.Start f) made = refl
desk_version d (commands.Append id blocks) made = absurd made
desk_version d (commands.Stop id timestamp) made = refl
desk_version d (commands.Extend f) made = refl
desk_version d (commands.Truncate id position) made = refl
desk_version d (commands.PurgeSegments id position) made = refl
desk_version d (commands.PurgeRecording id) made = refl
desk_version d commands.Restart made = refl

entry_counts : (s : State) (c : Command) → counts (entry_of s c) ≡ acceptance.counts c
entry_counts s (commands.Start f) = refl
entry_counts s (commands.Append id blocks) = refl
entry_counts s (commands.Stop id timestamp) = refl
entry_counts s (commands.Extend f) = refl
entry_counts s (commands.Truncate id position) = refl
entry_counts s (commands.PurgeSegments id position) = refl
entry_counts s (commands.PurgeRecording id) = refl
entry_counts s commands.Restart = refl

-- of an append the session's blocks are asked, of the others nothing
has_written : (a : Archive) (c : Command) → IsRequested c → HasWritten a.desk a.state c
has_written a (commands.Start f) made = tt
has_written a (commands.Append id blocks) made = absurd made
has_written a (commands.Stop id timestamp) made = tt
has_written a (commands.Extend f) made = tt
has_written a (commands.Truncate id position) made = tt
has_written a (commands.PurgeSegments id position) made = tt
has_written a (commands.PurgeRecording id) made = tt
has_written a commands.Restart made = tt

pub bank_keeps : (old new : Life) → ChangesBank old new → KeepsSegments old new
bank_keeps old new changes = record { same = λ file not_a not_b. ap (λ (f : FileState). f.reads) (changes.others file not_a not_b); obeyed = changes.obeyed; faults = changes.faults }

-- an entry that is made by the desk's next id
pub record IsEntryFor (d : DeskState) (c : Command) (e : Entry) : Type 0 where
  pub is : (s : State) → s.next ≡ d.register.next → e ≡ entry_of s c

entry_counted : (d : DeskState) (c : Command) (e : Entry) → IsEntryFor d c e
    → counts e ≡ acceptance.counts c
entry_counted d c e for =
    let s : State = record { recordings = []; next = d.register.next } in
    ap counts (for.is s refl) ∙ entry_counts s c

-- a bank of the desk's version can hold the entry of an accepted command
pub held_for : (log : LogState) (d : DeskState) (c : Command) (e : Entry) → IsTied log d → IsFalse d.is_broken → Allows d c → IsEntryFor d c e
    → IsTrue (is_held log.header.version e)
held_for log d c e tied works allows for =
    let s : State = record { recordings = []; next = d.register.next } in
    subst (λ (v : BankVersion). IsTrue (is_held v e)) (sym (tied.version works))
    (subst (λ (x : Entry). IsTrue (is_held d.version x)) (sym (for.is s refl)) (by s c allows))
  where
    by : (s : State) (c : Command) → Allows d c → IsTrue (is_held d.version (entry_of s c))
    by s (commands.Start f) allows = start_held d f allows
    by s (commands.Append id blocks) allows = refl
    by s (commands.Stop id timestamp) allows = refl
    by s (commands.Extend f) allows = refl
    by s (commands.Truncate id position) allows = refl
    by s (commands.PurgeSegments id position) allows = refl
    by s (commands.PurgeRecording id) allows = refl
    by s commands.Restart allows = refl

-- ---- log and desk

pub has_room : (log : LogState) (d : DeskState) (c : Command) (e : Entry) → IsTied log d
    → IsFalse d.is_broken → Allows d c → IsEntryFor d c e → HasEntryRoom log e
has_room log d c e tied works allows for = room_for log d c e tied works allows (entry_counted d c e for)

pub made_tied : (log new_log : LogState) (d : DeskState) (c : Command) (e : Entry) → IsTied log d → IsFalse d.is_broken → IsRequested c → IsEntryFor d c e → new_log.header ≡ log.header → new_log.is_broken ≡ log.is_broken
    → new_log.counted ≡ log.counted + cond (counts e) 1 0 → IsTied new_log (desk_after d c)
made_tied log new_log d c e tied works made for header broke counted =
    tied_behind log new_log d (desk_after d c) (cond (acceptance.counts c) 1 0) tied works header broke (subst (λ b. new_log.counted ≡ log.counted + cond b 1 0) (entry_counted d c e for) counted) (desk_counts d c made) (desk_limit d c made) (desk_version d c made)

-- ---- a crash-consistent archive

-- what its sessions wrote stands on
stands_after : (image : DiskImage) (a : Archive) (c : Command) → IsFalse (is_append c) → IsConsistent a → StaysConsistent a (archive_after a c) → IsAcceptable a c → Each (StandsBehind image a) a.desk.callers.sessions
    → Each (StandsBehind image (archive_after a c)) (desk_after a.desk c).callers.sessions
stands_after image a c none was stays acceptable stand =
    let d = desk_after a.desk c in
    let b = archive_after a c in
    each_both (λ s. StaysOpen a b.state s ⊎ WroteNothing a s) (λ s. session_in d s.number ≡ Some s) (StandsBehind image b) d.callers.sessions
    (λ s goes there.
    let same : b.blocks s.number ≡ a.blocks s.number = open_blocks d a.blocks s.number (ap is_some there) in
    elim goes [
      | inl stays ↦ stands_either image a b s was (λ r found. each_found session_number (StandsBehind image a) s.number a.desk.callers.sessions s stand stays.was r found) (inl (stays, same))
      | inr nothing ↦ stands_nothing image b s (same ∙ nothing.1)
    ])
    (sessions_stay a c none was acceptable) (each_itself (pos 0) d.callers.next_session d.callers.sessions stays.consistent.seats.sessions.rising)

-- what holds as a command is to be made
pub record MayMake (old : EngineState) (content : Content) (c : Command) (e : Entry) : Type 0 where
  pub was : IsCrashConsistent old.life old.log (archive_of old content)
  pub tied : IsTied old.log old.desk
  pub works : IsFalse old.desk.is_broken
  pub allows : Allows old.desk c
  pub accepts : Accepts (book_of (archive_of old content)) c
  pub made : IsRequested c
  pub for : IsEntryFor old.desk c e

module _ (old new : EngineState) (content : Content) (c : Command) (e : Entry) (reply : Reply) (may : MayMake old content c e) (changes : ChangesBank old.life new.life) where
  abbrev a : Archive
  a = archive_of old content

  acceptable : IsAcceptable a c
  acceptable = record { accepted = may.accepts; allowed = may.allows; written = has_written a c may.made }

  stays : StaysConsistent a (archive_after a c)
  stays = consistent_after a c (made_no_append c may.made) may.was.archive acceptable

  -- what the commit of its entry did
  entered : (result : Result (Unit {0}) Refusal) → ((s u : State) → IsSound old.life.now old.log s → EntryLeads old.life.now s u e → Moves old.life new.life new.log s u result) → Moves old.life new.life new.log a.state (after a.state c) result
  entered result moves =
      let next : a.state.next ≡ old.desk.register.next = ap (λ g. g.next) (sym may.was.archive.agrees) in
      let led : EntryLeads old.life.now a.state (after a.state c) (entry_of a.state c) = leads old.life.now (book_of a) c may.was.archive.well may.accepts may.made may.was.frames in
      moves a.state (after a.state c) (may.was.sound (no_doubt a may.was.archive may.works)) (subst (EntryLeads old.life.now a.state (after a.state c)) (sym (may.for.is a.state next)) led)

  pub made_done : new.desk ≡ desk_after old.desk c → ((s u : State) → IsSound old.life.now old.log s → EntryLeads old.life.now s u e → Moves old.life new.life new.log s u (Ok tt))
      → CallEnded old new a (CommitEnds a reply (archive_after a c) (HasFailed old.life new.life) (Ok reply))
  made_done desk moves =
      commit_done old new content may.was (archive_after a c) reply (bank_keeps old.life new.life changes) stays
      (stands_after (reads old.life.now) a c (made_no_append c may.made) may.was.archive stays acceptable may.was.stand) desk (entered (Ok tt) moves)

  pub made_refused : (refusal : Refusal) → (refusal ≡ DeviceFault → HasFailed old.life new.life)
      → new.desk ≡ after_failure refusal old.desk
      → ((s u : State) → IsSound old.life.now old.log s → EntryLeads old.life.now s u e → Moves old.life new.life new.log s u (Err refusal))
      → CallEnded old new a (CommitEnds a reply (archive_after a c) (HasFailed old.life new.life) (Err refusal))
  made_refused refusal cause desk moves = commit_refused old new content may.was (archive_after a c) reply (bank_keeps old.life new.life changes) refusal cause desk (entered (Err refusal) moves)

-- ---- what was made, whatever the archive is

abbrev Refused : Refusal → Result (Unit {0}) Refusal
Refused refusal = Err refusal

one_refusal : (x y : Refusal) → Refused x ≡ Refused y → x ≡ y
one_refusal x y is = cc

module _ (old new : EngineState) (c : Command) (e : Entry) (tied : IsTied old.log old.desk) (works : IsFalse old.desk.is_broken) (allows : Allows old.desk c) (made : IsRequested c) (entry : IsEntryFor old.desk c e) (changes : ChangesBank old.life new.life) where
  abbrev MovesBy : Result (Unit {0}) Refusal → Type 0
  MovesBy result = (s u : State) → IsSound old.life.now old.log s → EntryLeads old.life.now s u e → Moves old.life new.life new.log s u result

  may : (content : Content) → IsCrashConsistent old.life old.log (archive_of old content)
      → Accepts (book_of (archive_of old content)) c → MayMake old content c e
  may content was accepts = record { was = was; tied = tied; works = works; allows = allows; accepts = accepts; made = made; for = entry }

  pub commits_done : (reply : Reply) → reply ≡ reply_after old.desk c → new.desk ≡ desk_after old.desk c → AddsEntry old.life new.life old.log new.log e (Ok tt) → MovesBy (Ok tt)
      → CommitsEntry old new (λ a. Accepts (book_of a) c) (reply_after old.desk c) (λ a. archive_after a c) (Ok reply)
  commits_done reply told desk adds moves =
      subst (λ (r : Reply). CommitsEntry old new (λ a. Accepts (book_of a) c) (reply_after old.desk c) (λ a. archive_after a c) (Ok r)) (sym told) (record {
        goes_on = adds.goes_on;
        bank = adds.bank;
        kept = tt;
        exact = λ content. exact_commit old new (reply_after old.desk c) (λ a. archive_after a c) (Ok tt) (Ok (reply_after old.desk c)) content (λ done is. (refl, desk)) (λ refusal is. absurd cc);
        ended = λ content was accepts. made_done old new content c e (reply_after old.desk c) (may content was accepts) changes desk moves;
      })

  pub commits_refused : (refusal : Refusal) → new.desk ≡ after_failure refusal old.desk → (refusal ≢ DeviceFault → new.life ≡ old.life) → AddsEntry old.life new.life old.log new.log e (Err refusal) → MovesBy (Err refusal)
      → CommitsEntry old new (λ a. Accepts (book_of a) c) (reply_after old.desk c) (λ a. archive_after a c) (Err refusal)
  commits_refused refusal desk quiet adds moves =
      let outside = adds.outside in
      let cause : refusal ≡ DeviceFault → HasFailed old.life new.life = λ is. adds.cause (ap Err is) in
      record {
        goes_on = adds.goes_on;
        bank = adds.bank;
        kept = spared_unbroken old new refusal works desk outside quiet adds.kept;
        exact = λ content. exact_commit old new (reply_after old.desk c) (λ a. archive_after a c) (Err refusal) (Err refusal) content (λ done is. absurd cc) (λ r is. (ap Err (one_refusal refusal r is), subst (λ (x : Refusal). new.desk ≡ after_failure x old.desk) (one_refusal refusal r is) desk, subst (λ (x : Refusal). (x ≡ DeviceFault) ⊎ (x ≡ NoMemory)) (one_refusal refusal r is) outside, subst (λ (x : Refusal). x ≡ DeviceFault → HasFailed old.life new.life) (one_refusal refusal r is) cause));
        ended = λ content was accepts. made_refused old new content c e (reply_after old.desk c) (may content was accepts) changes refusal cause desk moves;
      }

-- there was no memory, and nothing has changed
pub unmade : (old new : EngineState) (Fits : Archive → Type 0) (reply : Reply) (to : Archive → Archive) (outcome : Result Reply Refusal) → new.life ≡ old.life → new.log ≡ old.log → new.desk ≡ old.desk → outcome ≡ Err NoMemory → CommitsEntry old new Fits reply to outcome
unmade old new Fits reply to outcome life log desk is =
    let same : new ≡ old = same_state old new life log desk in
    subst (λ (x : EngineState). CommitsEntry old x Fits reply to outcome) (sym same) (subst (λ (o : Result Reply Refusal). CommitsEntry old old Fits reply to o) (sym is) (record {
      goes_on = goes_on_here old.life;
      bank = same_bank old.log old.log refl;
      kept = spared _ old old (Err NoMemory) (as_before old);
      exact = λ c. (c, refl);
      ended = λ c was fits. still old old (archive_of old c) _ (quiet_life old.life) refl refl was refl;
    }))
  where
    same_state : (x y : EngineState) → y.life ≡ x.life → y.log ≡ x.log → y.desk ≡ x.desk → y ≡ x
    same_state x y one two three =
        ap (λ (l : Life). record { life = l; log = y.log; desk = y.desk }) one ∙ ap (λ (l : LogState). record { life = x.life; log = l; desk = y.desk }) two ∙ ap (λ (d : DeskState). record { life = x.life; log = x.log; desk = d }) three
