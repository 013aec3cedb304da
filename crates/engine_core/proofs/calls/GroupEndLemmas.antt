-- How a call ends that settles what several sessions wrote.
use Rattle.std.proofs.Common.{rules, ◌≡◌, ◌≢◌, ◌⊎◌, ◌∙◌, inl, inr, sym, ap, subst, refl, ◌+◌, ◌<◌, ◌≤◌, ◌++◌, ◌&&◌, ℕ, ℤ, Bool, true, false, true≢false, cond, List, [], ◌∷◌, Contains, length, Option, Some, None, Result, Ok, Err, nat_le, nat_lt, arith}
use Rattle.std.proofs.lemmas.Bool.Decides.{nat_tests}
use Rattle.std.specs.Prelude.{IfErr, IsErrOf, IsFalse, IsTrue, count_by}
use Rattle.engine_core.proofs.Words.{Archive, ArchiveEnds, CallEnded, CallEnds, ChangesThese, CommitEnds, CommitsEntry, Content, DeskState, DeviceFault, DiskImage, Each, EndsAs, EndsEvent, EngineState, Entry, Event, FileId, HasFailed, IsAtRest, IsCatalogued, IsConsistent, IsCrashConsistent, IsSound, IsTied, KeepsDesk, KeepsFound, KeepsSegments, Life, LogState, MayLeave, Moves, NoMemory, RecorderSession, Refusal, RegisterState, Reply, StandsBehind, State, StaysConsistent, Tests, Written, after_entries, after_failure, archive_of, bank_file, call_is_allowed, checked, checks, counts, held, no_recordings, passes, reads, register_of, session_in, settled, weaker}
use Rattle.archive_model.specs.declared.reply.Reply.TheVariants as replies
use Rattle.archive_model.proofs.AnswerLemmas.{passed}
use Rattle.catalogue_entries.proofs.CallerLemmas.{after_both}
use Rattle.catalogue_log.specs.Catalogue.{IsCatalogue}
use Rattle.catalogue_log.specs.Groups.{AdmitsAll}
use Rattle.control_core.specs.declared.event.Event.TheVariants as events
use Rattle.control_core.specs.declared.turns.Settling.{Settling}
use Rattle.control_core.specs.declared.turns.Settling.TheVariants as settling
use Rattle.control_core.specs.Changes.{positions_each, settled_by, settled_each}
use Rattle.control_core.specs.Exact.{Leaves, SettlingAllEnds, settled_archives, settled_by_number, settling_in, writes_files}
use Rattle.control_core.specs.Turns.{has_written, settle_all_tests, settling_by, settling_of, wrote_any}
use Rattle.control_core.proofs.ConsistentLemmas.{MayOfAll, consistent_call, may_of_all}
use Rattle.control_core.proofs.FaultLemmas.{other_cause}
use Rattle.control_core.proofs.GroupLemmas.{all_desk, counted_each, limit_stays}
use Rattle.engine_core.specs.Catalogued.{MakesRegister, register_settled_all}
use Rattle.engine_core.specs.Grouping.{AddsAllBehind, AddsEntries, AreDurableAs, BecomesDurable, EnterAll, HasGroupRoom, IsGroup, MayRecord, entries_each, entry_of_session, entry_of_written, segments_each}
use Rattle.engine_core.specs.Opening.{SyncsOnly}
use Rattle.engine_core.specs.Touching.{IsSettledAmong, SettlesEach}
use Rattle.engine_core.proofs.calls.CommitCallLemmas.{commit_done, commit_refused, exact_commit, tied_behind}
use Rattle.engine_core.proofs.calls.EndedLemmas.{as_before, ended_as, goes_on_here, no_doubt, quiet_life, same_bank, spared, spared_by, spared_unbroken, still}
use Rattle.engine_core.proofs.calls.GroupCallLemmas.{LeadOn, all_listed, all_ready, all_same, counted_entries, few_entries, few_segments, group_durable, group_stand, lead_on, length_entries, settled_among}
use Rattle.engine_core.proofs.calls.KeepLemmas.{EndsDesk}
use Rattle.engine_core.proofs.calls.SettleCallLemmas.{answered_still, blank, commit_call, commit_cause, no_fault}
use Rattle.engine_core.proofs.calls.TouchLemmas.{quiet_these, still_quiet}
use Rattle.engine_core.proofs.files.GroupLemmas.{only_recordings}

-- ---- what is asked of the files

-- these are the files and entries of what the sessions wrote, which the desk allows
pub record IsAskedAll (d : DeskState) (ns : List ℤ) (files : List FileId) (es : List Entry) : Type 0 where
  pub keeps : KeepsDesk d.register d.callers
  pub files_are : files ≡ segments_each d ns
  pub entries_are : es ≡ entries_each d ns
  pub passes : passes (settle_all_tests d ns) checks ≡ true
  pub some : 1 ≤ length (entries_each d ns)

not_empty : {X : Type 0} (xs : List X) → xs ≢ [] → 1 ≤ length xs
not_empty [] some = absurd (some refl)
not_empty (x ∷ xs) some = omega arith

module _ (d : DeskState) (ns : List ℤ) (files : List FileId) (es : List Entry) (asks : IsAskedAll d ns files es) where
  may : MayOfAll d ns
  may = may_of_all d ns asks.passes

  -- one entry is counted for each
  count_is : count_by counts (entries_each d ns) ≡ length (entries_each d ns)
  count_is = counted_entries d ns ∙ sym (length_entries d ns)

  desk_counts : (settled_each ns d).counted ≡ d.counted + length (entries_each d ns)
  desk_counts = counted_each d ns may.once ∙ ap (λ (k : ℕ). d.counted + k) (sym (length_entries d ns))

  desk_room : d.counted + length (entries_each d ns) ≤ d.limit
  desk_room =
      let is = desk_counts in
      let some = asks.some in
      elim may.room [ inl none ↦ absurd (omega (arith, is, some, none)) | inr fits ↦ omega (arith, is, fits) ]

  pub group_few : length es ≤ 64
  group_few =
      let all = few_entries d ns in
      let most : length ns ≤ 64 = (let few = may.few in grind (arith, nat_tests)) in
      let same : length es ≡ length (entries_each d ns) = ap (λ (xs : List Entry). length xs) asks.entries_are in omega (arith, all, most, same)

  pub group_room : (log : LogState) → IsTied log d → HasGroupRoom log es
  group_room log tied =
      let has = tied.counted may.works in
      let most = tied.limit may.works in
      let same : count_by counts es ≡ length (entries_each d ns) = ap (λ (xs : List Entry). count_by counts xs) asks.entries_are ∙ count_is in
      let room = desk_room in omega (arith, has, most, same, room)

  pub group_wrote : wrote_any d ns ≡ true
  group_wrote = let is = desk_counts in let some = asks.some in let less : d.counted < (settled_each ns d).counted = omega (arith, is, some) in grind (arith, nat_tests)

  pub group_writes : IsTrue (writes_files d (events.SettleAll ns))
  group_writes = rw (asks.passes, group_wrote) refl

  pub group_works : IsFalse d.is_broken
  group_works = may.works

  pub group_leads : LeadOn d es (settled_each ns d)
  group_leads =
      let room = desk_room in
      let some = asks.some in
      subst (λ (xs : List Entry). LeadOn d xs (settled_each ns d)) (sym asks.entries_are) (lead_on d asks.keeps may.works (omega (arith, room, some)) d ns may.once (all_same d ns))

  -- log and desk count alike behind them
  version_stays : (x : DeskState) (ms : List ℤ) → (settled_each ms x).version ≡ x.version
  version_stays x [] = refl
  version_stays x (m ∷ ms) = version_stays (settled (session_in x m) x) ms ∙ one (session_in x m)
    where
      written : (s : RecorderSession) (w : Option Written) → (settled_by s w x).version ≡ x.version
      written s None = refl
      written s (Some w) = refl

      one : (o : Option RecorderSession) → (settled o x).version ≡ x.version
      one None = refl
      one (Some s) = written s s.written

  pub group_tied : (log new_log : LogState) (new_d : DeskState) → IsTied log d → new_log.header ≡ log.header → new_log.is_broken ≡ log.is_broken → new_log.counted ≡ log.counted + count_by counts es → new_d ≡ settled_each ns d → IsTied new_log new_d
  group_tied log new_log new_d tied header broke counted is =
      let same : count_by counts es ≡ length (entries_each d ns) = ap (λ (xs : List Entry). count_by counts xs) asks.entries_are ∙ count_is in
      subst (IsTied new_log) (sym is)
      (tied_behind log new_log d (settled_each ns d) (length (entries_each d ns)) tied may.works header broke (counted ∙ ap (λ (k : ℕ). log.counted + k) same) desk_counts (limit_stays d ns) (version_stays d ns))

-- what the call of the files says of every two states
abbrev pub SettlesAll : EngineState → EngineState → List FileId → List Entry → Result (Unit {0}) Refusal → Type 0
SettlesAll old new files es result = (s u : State) → IsSound old.life.now old.log s → BecomesDurable old.life files u → EnterAll s u es → Moves old.life new.life new.log s u result

-- ---- of a crash-consistent archive

module _ (old new : EngineState) (content : Content) (ns : List ℤ) (files : List FileId) (es : List Entry) (asks : IsAskedAll old.desk ns files es) (stays_read : MayLeave old.life.now (reads old.life.now))
    (was : IsCrashConsistent old.life old.log (archive_of old content)) where
  abbrev a : Archive
  a = archive_of old content

  abbrev b : Archive
  b = settled_archives ns a

  here : MayOfAll old.desk ns
  here = may_of_all old.desk ns asks.passes

  settled_stays : StaysConsistent a b
  settled_stays =
      let reply : Reply = replies.SettledAll (positions_each ns old.desk) in
      let told : checked (settle_all_tests old.desk ns) checks (Ok reply) ≡ Ok reply = passed (settle_all_tests old.desk ns) checks (Ok reply) asks.passes in
      let ends : SettlingAllEnds a ns (Ok reply) b = subst (λ (o : Result Reply Refusal). Leaves a b o (Ok reply) b) (sym told) (refl, refl) in
      consistent_call a (events.SettleAll ns) (Ok reply) b was.archive ends

  becomes : BecomesDurable old.life files b.state
  becomes = λ mid only synced.
      let listed = all_listed old.desk ns in
      let same : AreDurableAs (segments_each old.desk ns) old.life mid = subst (λ (fs : List FileId). AreDurableAs fs old.life mid) asks.files_are synced in
      group_durable mid.now a ns was.archive here.works here.room here.once (all_ready old.life mid old.log a (segments_each old.desk ns) ns was listed same)
      (only_recordings old.life mid a.state.recordings stays_read only was.frames)

  enter : EnterAll a.state b.state es
  enter =
      let leads = group_leads old.desk ns files es asks in
      let agrees : old.desk.register ≡ register_of a.state = was.archive.agrees in
      record {
        admitted = subst (λ (g : RegisterState). AdmitsAll g es) agrees leads.admitted;
        makes = ap (λ (g : RegisterState). after_entries g es) (sym agrees) ∙ leads.makes ∙ ap (λ (d : DeskState). d.register) (sym (all_desk a ns)) ∙ settled_stays.consistent.agrees;
        well = settled_stays.consistent.well;
      }

  group_moves : (result : Result (Unit {0}) Refusal) → SettlesAll old new files es result → Moves old.life new.life new.log a.state b.state result
  group_moves result does = does a.state b.state (was.sound (no_doubt a was.archive here.works)) becomes enter

  module _ (keeps : KeepsSegments old.life new.life) where
    group_done : (reply : Reply) → new.desk ≡ settled_each ns old.desk → SettlesAll old new files es (Ok tt) → CallEnded old new a (CommitEnds a reply b (HasFailed old.life new.life) (Ok reply))
    group_done reply desk does =
        commit_done old new content was b reply keeps settled_stays (group_stand (reads old.life.now) a ns was.archive here.works here.room was.stand) (desk ∙ sym (all_desk a ns)) (group_moves (Ok tt) does)

    group_refused : (reply : Reply) (refusal : Refusal) → (refusal ≡ DeviceFault → HasFailed old.life new.life) → new.desk ≡ after_failure refusal old.desk → SettlesAll old new files es (Err refusal)
        → CallEnded old new a (CommitEnds a reply b (HasFailed old.life new.life) (Err refusal))
    group_refused reply refusal cause desk does = commit_refused old new content was b reply keeps refusal cause desk (group_moves (Err refusal) does)

-- ---- whatever the archive is

module _ (old new : EngineState) (ns : List ℤ) (files : List FileId) (es : List Entry) (asks : IsAskedAll old.desk ns files es) (stays_read : MayLeave old.life.now (reads old.life.now)) (keeps : KeepsSegments old.life new.life) where
  abbrev pub SettlesTogether : Reply → Result Reply Refusal → Type 0
  SettlesTogether reply outcome = CommitsEntry old new (λ a. IsTrue (passes (settle_all_tests a.desk ns) checks)) reply (settled_archives ns) outcome

  pub together_done : (reply : Reply) → AddsEntries old.life new.life old.log new.log es (Ok tt) → new.desk ≡ settled_each ns old.desk → SettlesAll old new files es (Ok tt) → SettlesTogether reply (Ok reply)
  together_done reply adds desk does = record {
    goes_on = adds.goes_on;
    bank = adds.bank;
    kept = tt;
    exact = λ content. exact_commit old new reply (settled_archives ns) (Ok tt) (Ok reply) content (λ done is. (refl, desk ∙ sym (all_desk (archive_of old content) ns))) (λ refusal is. absurd cc);
    ended = λ content was fits. group_done old new content ns files es asks stays_read was keeps reply desk does;
  }

  pub together_failed : (reply : Reply) (refusal told : Refusal) → told ≡ refusal → AddsEntries old.life new.life old.log new.log es (Err refusal) → (refusal ≢ DeviceFault → new.life ≡ old.life) → new.desk ≡ after_failure refusal old.desk → SettlesAll old new files es (Err refusal) → SettlesTogether reply (Err told)
  together_failed reply refusal told same adds quiet desk does =
      let outside = adds.outside in
      let cause : refusal ≡ DeviceFault → HasFailed old.life new.life = λ is. adds.cause (ap Err is) in
      let outcome : Result Reply Refusal = Err refusal in
      let Told : Refusal → Type 0 = λ x. (outcome ≡ Err x) × (new.desk ≡ after_failure x old.desk) × ((x ≡ DeviceFault) ⊎ (x ≡ NoMemory)) × (x ≡ DeviceFault → HasFailed old.life new.life) in
      subst (λ (r : Refusal). SettlesTogether reply (Err r)) (sym same) (record {
        goes_on = adds.goes_on;
        bank = adds.bank;
        kept = spared_unbroken old new refusal (group_works old.desk ns files es asks) desk outside quiet adds.kept;
        exact = λ content.
            exact_commit old new reply (settled_archives ns) (Err refusal) (Err refusal) content (λ done is. absurd cc)
            (λ r is. let one : refusal ≡ r = cc in subst Told one (refl, desk, outside, cause));
        ended = λ content was fits. group_refused old new content ns files es asks stays_read was keeps reply refusal cause desk does;
      })

-- ---- which files are touched

pub group_touches : (e : EngineState) (new : Life) (ns : List ℤ) (files : List FileId) → files ≡ segments_each e.desk ns → ChangesThese (λ file. Contains files file ⊎ (file ≡ bank_file e.log.bank)) (length files + 4) e.life new → KeepsSegments e.life new → SettlesEach e ns new
group_touches e new ns files is changes keeps = record {
  changes = record {
    others = λ file none. changes.others file (λ either. none (elim either [
      | inl has ↦ inl (settled_among e.desk ns file (subst (λ (fs : List FileId). Contains fs file) is has))
      | inr bank ↦ inr bank
    ]));
    calls = (let made = changes.calls in let few = few_segments e.desk ns in let same : length files ≡ length (segments_each e.desk ns) = ap (λ (fs : List FileId). length fs) is in omega (arith, made, few, same));
  };
  segments = keeps.same;
}

pub nothing_each : (e : EngineState) (ns : List ℤ) → SettlesEach e ns e.life
nothing_each e ns = record { changes = quiet_these _ (length ns + 4) e.life e.life (still_quiet e.life); segments = λ file a b. refl }

-- ---- what is kept of the catalogue, whatever the segment files hold

abbrev Either : EngineState → RegisterState → DiskImage → Type 0
Either old made image = MakesRegister old.log.header old.desk.register image ⊎ MakesRegister old.log.header made image

module _ (old new : EngineState) (es : List Entry) where
  all_make : (made : RegisterState) (rs : List Entry) → after_entries no_recordings rs ≡ old.desk.register → after_entries old.desk.register es ≡ made → after_entries no_recordings (rs ++ es) ≡ made
  all_make made rs makes leads = after_both no_recordings rs es ∙ ap (λ (g : RegisterState). after_entries g es) makes ∙ leads

  either_make : (made : RegisterState) (rs : List Entry) → after_entries no_recordings rs ≡ old.desk.register → after_entries old.desk.register es ≡ made → (image : DiskImage) → IsCatalogue image old.log.header rs ⊎ IsCatalogue image old.log.header (rs ++ es) → Either old made image
  either_make made rs makes leads image (inl before) = inl (record { entries = rs; catalogue = before; makes = makes })
  either_make made rs makes leads image (inr behind) = inr (record { entries = rs ++ es; catalogue = behind; makes = all_make made rs makes leads })

  all_rest : {T : Type 0} (made : RegisterState) (result : Result T Refusal) (rs : List Entry) → after_entries no_recordings rs ≡ old.desk.register → after_entries old.desk.register es ≡ made → AddsAllBehind old.life new.life old.log new.log rs es result
      → EndsDesk old new.desk made result → IsFalse new.desk.is_broken → IsCatalogued new
  all_rest made (Ok done) rs makes leads adds desk unbroken = record { entries = rs ++ es; rests = adds.rests; makes = all_make made rs makes leads ∙ sym desk }
  all_rest made (Err refusal) rs makes leads adds (inl broke) unbroken = absurd (true≢false (sym broke.1 ∙ unbroken))
  all_rest made (Err refusal) rs makes leads adds (inr kept) unbroken = record { entries = rs; rests = adds.rests kept.0; makes = makes ∙ sym kept.1 }

  pub all_keep : {T : Type 0} (made : RegisterState) (result : Result T Refusal) → after_entries old.desk.register es ≡ made
      → ((rs : List Entry) → IsAtRest old.life.now old.log rs → after_entries no_recordings rs ≡ old.desk.register → AddsAllBehind old.life new.life old.log new.log rs es result) → EndsDesk old new.desk made result → KeepsFound old new made
  all_keep made result leads adds desk found works =
      let did = adds found.entries found.rests found.makes in
      record {
        any_moment = weaker old.life new.life (Either old made) (λ image. IsCatalogue image old.log.header found.entries ⊎ IsCatalogue image old.log.header (found.entries ++ es)) did.any_moment (λ image has. either_make made found.entries found.makes leads image has);
        rests = λ unbroken. all_rest made result found.entries found.makes leads did desk unbroken;
      }

-- what the call of the files says, by what is answered
pub all_told : {T : Type 0} (old new : Life) (log new_log : LogState) (rs es : List Entry) (told : T) → AddsAllBehind {T = Unit {0}} old new log new_log rs es (Ok tt) → AddsAllBehind old new log new_log rs es (Ok told)
all_told old new log new_log rs es told adds = record { any_moment = adds.any_moment; rests = adds.rests }

pub all_refused : {T : Type 0} (old new : Life) (log new_log : LogState) (rs es : List Entry) (refusal : Refusal) (told : Result T Refusal) → told ≡ Err refusal → AddsAllBehind {T = Unit {0}} old new log new_log rs es (Err refusal) → AddsAllBehind old new log new_log rs es told
all_refused {T = T} old new log new_log rs es refusal told is adds = subst (AddsAllBehind old new log new_log rs es) (sym is) (record { any_moment = adds.any_moment; rests = adds.rests })

-- ---- the call

-- the same tests refuse alike, whatever would be answered
refused_as : {X Y : Type 0} (tests : Tests) (rs : List Refusal) (x : X) (y : Y) (refusal : Refusal) → checked tests rs (Ok x) ≡ Err refusal → checked tests rs (Ok y) ≡ Err refusal
refused_as tests [] x y refusal is = absurd cc
refused_as {X = X} {Y = Y} tests (r ∷ rs) x y refusal is = by (tests r) is (refused_as tests rs x y refusal)
  where
    by : (b : Bool) → cond b (checked tests rs (Ok x)) (Err r) ≡ Err refusal → (checked tests rs (Ok x) ≡ Err refusal → checked tests rs (Ok y) ≡ Err refusal) → cond b (checked tests rs (Ok y)) (Err r) ≡ Err refusal
    by true is rest = rest is
    by false is rest = let same : r ≡ refusal = cc in ap Err same

-- it is refused
pub group_refuses : (e : EngineState) (ns : List ℤ) (refusal : Refusal) → checked (settle_all_tests e.desk ns) checks (Ok (tt {0})) ≡ Err refusal → EndsEvent e e (events.SettleAll ns) (Err refusal)
group_refuses e ns refusal is =
    let outcome : Result (Unit {0}) Refusal = Err refusal in
    answered_still e (events.SettleAll ns) (Err refusal) blank (same_bank e.log e.log refl) refl (λ sweep. absurd cc)
    (λ fault. let same : outcome ≡ Err DeviceFault = cc in no_fault (settle_all_tests e.desk ns) (tt {0}) (is ∙ same)) (ends blank) (λ c was. ends c) (λ a. tt)
  where
    ends : (c : Content) → ArchiveEnds (archive_of e c) (events.SettleAll ns) (Err refusal) (archive_of e c)
    ends c =
        let reply : Reply = replies.SettledAll (positions_each ns e.desk) in
        subst (λ (o : Result Reply Refusal). Leaves (archive_of e c) (settled_archives ns (archive_of e c)) o (Err refusal) (archive_of e c)) (sym (refused_as (settle_all_tests e.desk ns) checks (tt {0}) reply refusal is)) (refl, refl)

-- none of them wrote anything
nothing_settles : (a : Archive) (ns : List ℤ) → entries_each a.desk ns ≡ [] → settled_archives ns a ≡ a
nothing_settles a [] none = refl
nothing_settles a (n ∷ ns) none =
    let parts = first (session_in a.desk n) none in
    ap (settled_archives ns) parts.0 ∙ nothing_settles a ns parts.1
  where
    written : (s : RecorderSession) (w : Option Written) → entry_of_written s w ++ entries_each a.desk ns ≡ [] → (settled_by_number a n (settling_by a.desk s w) ≡ a) × (entries_each a.desk ns ≡ [])
    written s None none = (refl, none)
    written s (Some w) none = absurd cc

    first : (o : Option RecorderSession) → entry_of_session o ++ entries_each a.desk ns ≡ [] → (settled_by_number a n (settling_of a.desk o) ≡ a) × (entries_each a.desk ns ≡ [])
    first None none = (refl, none)
    first (Some s) none = written s s.written none

pub group_nothing : (e : EngineState) (ns : List ℤ) → passes (settle_all_tests e.desk ns) checks ≡ true → entries_each e.desk ns ≡ [] → EndsEvent e e (events.SettleAll ns) (Ok (replies.SettledAll (positions_each ns e.desk)))
group_nothing e ns pass none =
    answered_still e (events.SettleAll ns) (Ok (replies.SettledAll (positions_each ns e.desk))) blank (same_bank e.log e.log refl) refl (λ sweep. absurd cc) (λ fault. absurd cc) (ends blank) (λ c was. ends c) (λ a. tt)
  where
    ends : (c : Content) → ArchiveEnds (archive_of e c) (events.SettleAll ns) (Ok (replies.SettledAll (positions_each ns e.desk))) (archive_of e c)
    ends c =
        let reply : Reply = replies.SettledAll (positions_each ns e.desk) in
        let a = archive_of e c in
        subst (λ (o : Result Reply Refusal). Leaves a (settled_archives ns a) o (Ok reply) a) (sym (passed (settle_all_tests e.desk ns) checks (Ok reply) pass)) (refl, sym (nothing_settles a ns none))

-- there was no memory, before anything was done
pub group_unmade : (e : EngineState) (ns : List ℤ) → EndsEvent e e (events.SettleAll ns) (Err NoMemory)
group_unmade e ns = record {
  goes_on = goes_on_here e.life;
  bank = same_bank e.log e.log refl;
  cause = λ fault. absurd cc;
  machine = call_is_allowed (archive_of e blank) (events.SettleAll ns) (Err NoMemory) (archive_of e blank) (λ poll. absurd (true≢false (sym poll))) (inr refl);
  kept = spared _ e e (Err NoMemory) (as_before e);
  swept = λ removed is. absurd cc;
  ended = λ c was cut. still e e (archive_of e c) (EndsAs e.life e.life (events.SettleAll ns) (archive_of e c) (Err NoMemory)) (quiet_life e.life) refl refl was ((λ reads. inr refl), tt);
}

-- blocks are settled
pub group_ends : (old new : EngineState) (ns : List ℤ) (outcome : Result Reply Refusal) → passes (settle_all_tests old.desk ns) checks ≡ true → IsTrue (writes_files old.desk (events.SettleAll ns))
    → CommitsEntry old new (λ a. IsTrue (passes (settle_all_tests a.desk ns) checks)) (replies.SettledAll (positions_each ns old.desk)) (settled_archives ns) outcome → EndsEvent old new (events.SettleAll ns) outcome
group_ends old new ns outcome pass writes commits =
    let event : Event = events.SettleAll ns in
    let reply : Reply = replies.SettledAll (positions_each ns old.desk) in
    let made = commits.exact blank in
    let faulted : Type 0 = HasFailed old.life new.life in
    record {
      goes_on = commits.goes_on;
      bank = commits.bank;
      cause = commit_cause (archive_of old blank) reply (settled_archives ns (archive_of old blank)) faulted outcome (archive_of new made.0) made.1;
      machine = call_is_allowed (archive_of old blank) event outcome (archive_of new made.0) (λ poll. absurd (true≢false (sym poll)))
          (other_cause (archive_of old blank) event faulted (Unit {0}) outcome (archive_of new made.0) (λ failed. tt) (by blank (archive_of new made.0) made.1));
      kept = spared_by _ _ old new outcome (λ harmless. harmless.1) commits.kept;
      swept = λ removed is. nothing_swept outcome removed is;
      ended = λ c was cut.
          ended_as old new (archive_of old c) (CommitEnds (archive_of old c) reply (settled_archives ns (archive_of old c)) faulted outcome) (EndsAs old.life new.life event (archive_of old c) outcome)
          (λ x ends. ((λ reads. by c x ends), tt)) (commits.ended c was pass);
    }
  where
    nothing_swept : {X : Type 0} (o : Result Reply Refusal) (removed : Bool) → events.SettleAll ns ≡ events.Sweep → X
    nothing_swept o removed is = absurd cc

    by : (c : Content) (after : Archive) → CommitEnds (archive_of old c) (replies.SettledAll (positions_each ns old.desk)) (settled_archives ns (archive_of old c)) (HasFailed old.life new.life) outcome after → CallEnds (archive_of old c) (events.SettleAll ns) (HasFailed old.life new.life) outcome after
    by c after ends =
        let reply : Reply = replies.SettledAll (positions_each ns old.desk) in
        let a = archive_of old c in
        let exact : SettlingAllEnds a ns (Ok reply) (settled_archives ns a) =
        subst (λ (o : Result Reply Refusal). Leaves a (settled_archives ns a) o (Ok reply) (settled_archives ns a)) (sym (passed (settle_all_tests old.desk ns) checks (Ok reply) pass)) (refl, refl) in
        commit_call a (events.SettleAll ns) reply (settled_archives ns a) (HasFailed old.life new.life) outcome after writes exact ends

-- the register that it makes
pub register_of_all : (d : DeskState) (ns : List ℤ) → passes (settle_all_tests d ns) checks ≡ true → register_settled_all d ns ≡ (settled_each ns d).register
register_of_all d ns pass = rw (pass) refl

pub asked_all : (d : DeskState) (ns : List ℤ) (files : List FileId) (es : List Entry) → KeepsDesk d.register d.callers → files ≡ segments_each d ns → es ≡ entries_each d ns → passes (settle_all_tests d ns) checks ≡ true → entries_each d ns ≢ [] → IsAskedAll d ns files es
asked_all d ns files es keeps files_are entries_are pass some = record { keeps = keeps; files_are = files_are; entries_are = entries_are; passes = pass; some = not_empty (entries_each d ns) some }

-- numbers and positions are as they were read
pub group_ends_as : (old new : EngineState) (ns numbers : List ℤ) (positions : List (Option ℤ)) (outcome : Result Reply Refusal) → numbers ≡ ns → positions ≡ positions_each numbers old.desk → passes (settle_all_tests old.desk numbers) checks ≡ true → KeepsDesk old.desk.register old.desk.callers → entries_each old.desk numbers ≢ []
    → CommitsEntry old new (λ a. IsTrue (passes (settle_all_tests a.desk numbers) checks)) (replies.SettledAll positions) (settled_archives numbers) outcome → EndsEvent old new (events.SettleAll ns) outcome
group_ends_as old new ns numbers positions outcome same told pass keeps some commits =
    let d = old.desk in
    let asks = asked_all d numbers (segments_each d numbers) (entries_each d numbers) keeps refl refl pass some in
    subst (λ (ms : List ℤ). EndsEvent old new (events.SettleAll ms) outcome) same
    (group_ends old new numbers outcome pass (group_writes d numbers (segments_each d numbers) (entries_each d numbers) asks)
    (subst (λ (ps : List (Option ℤ)). CommitsEntry old new (λ a. IsTrue (passes (settle_all_tests a.desk numbers) checks)) (replies.SettledAll ps) (settled_archives numbers) outcome) told commits))

pub group_nothing_as : (e : EngineState) (ns numbers : List ℤ) (positions : List (Option ℤ)) → numbers ≡ ns → positions ≡ positions_each numbers e.desk → passes (settle_all_tests e.desk numbers) checks ≡ true → entries_each e.desk numbers ≡ [] → EndsEvent e e (events.SettleAll ns) (Ok (replies.SettledAll positions))
group_nothing_as e ns numbers positions same told pass none =
    subst (λ (ms : List ℤ). EndsEvent e e (events.SettleAll ms) (Ok (replies.SettledAll positions))) same
    (subst (λ (ps : List (Option ℤ)). EndsEvent e e (events.SettleAll numbers) (Ok (replies.SettledAll ps))) (sym told) (group_nothing e numbers pass none))

pub passes_of : (d : DeskState) (ns : List ℤ) (done : Unit {0}) → checked (settle_all_tests d ns) checks (Ok (tt {0})) ≡ Ok done → passes (settle_all_tests d ns) checks ≡ true
passes_of d ns done is = (held (settle_all_tests d ns) checks (tt {0}) done is).0

pub group_keeps_as : (old new : EngineState) (ns numbers : List ℤ) → numbers ≡ ns → passes (settle_all_tests old.desk numbers) checks ≡ true → KeepsFound old new (settled_each numbers old.desk).register → KeepsFound old new (register_settled_all old.desk ns)
group_keeps_as old new ns numbers same pass keeps = subst (λ (ms : List ℤ). KeepsFound old new (register_settled_all old.desk ms)) same (subst (KeepsFound old new) (sym (register_of_all old.desk numbers pass)) keeps)

pub none_of : {X : Type 0} (xs : List X) → length xs ≡ 0 → xs ≡ []
none_of [] zero = refl
none_of (x ∷ xs) zero = absurd (omega (arith, zero))
