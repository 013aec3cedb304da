-- How an archive is opened: what its files give.
use Rattle.std.proofs.Common.{◌≡◌, ◌≢◌, ◌⊎◌, ◌∙◌, ◌≤◌, inl, inr, sym, ap, subst, ℕ, ℤ, pos, IsSome, List, [], length, arith}
use Rattle.std.specs.Prelude.{IfOk, IsTrue, MatchResult, Result, Ok, Err}
use Rattle.engine_core.proofs.Words.{AreFilesWith, BankA, BankB, BankHeader, BankVersion, ChangesBank, DeskState, DeviceFault, DiskGoesOn, DiskImage, EngineState, Entry, FileId, FileState, Files, HasEntries, HasFailed, IsCatalogue, IsEither, IsLogIn, IsQuiet, IsSound, KeepsBank, LeavesOnly, Life, LogState, MayLeave, NoMemory, ReadsAsBefore, Recovers, RecoversTo, Refusal, RegisterState, Restart, Restarts, State, after, after_entries, all_stopped, bank_file, durable, goes_on_part, log_catalogue, moment, no_recordings, now_leaves, opened_archive, opened_desk, reads, register_of, rest_left, weaker}
use Rattle.frame_core.specs.declared.refusal.Refusal.TheVariants.{BadParameter}
use Rattle.archive_model.specs.Register as register
use Rattle.catalogue_entries.specs.declared.entry.Entry.TheVariants as entries
use Rattle.catalogue_log.specs.Banks.{HasClosedGate, other_of}
use Rattle.catalogue_log.specs.Catalogue.{RefusesCatalogue}
use Rattle.catalogue_log.specs.declared.banks.Spare.{Spare}
use Rattle.catalogue_log.specs.LogState.{TellsBanks, banks_of, is_usable}
use Rattle.catalogue_log.proofs.CallerLemmas.{fault_refuses, same_image, told_in}
use Rattle.engine_core.specs.Catalogued.{LeavesCatalogue, OpensCatalogue}
use Rattle.engine_core.specs.Making.{HasNotStarted}
use Rattle.engine_core.specs.Opened.{HadFiles, HasNotOpened, HasOpened, IsDeskOf, IsFresh, IsNear, IsNotOpened, IsOpened, LeavesEither, NeitherMadeNorOpened, OpensBy}
use Rattle.engine_core.specs.Opening.{IsMadeIn, MakesBanks, RefusesNew, RefusesOpening}
use Rattle.engine_core.proofs.calls.EndedLemmas.{recovers_as}
use Rattle.engine_core.proofs.openings.OpeningLemmas.{none_there, nothing_synced, one_there, read_synced}
use Rattle.engine_core.proofs.openings.RestartLemmas.{active_same, opened_consistent, register_restarted}

-- what a result says where it is well, and where it is not

pub either_then : {X E : Type 0} (result : Result X E) (P R : X → Type 0) (Q S : E → Type 0) → ((x : X) → P x → R x) → ((e : E) → Q e → S e) → MatchResult result P Q → MatchResult result R S
either_then (Ok x) P R Q S here there is = here x is
either_then (Err e) P R Q S here there is = there e is

-- a state that the disk reads as, of those that a crash may leave
pub reads_as : (life : Life) (s u : State) → MayLeave life.now (reads life.now)
    → LeavesEither life s u → RecoversTo (IsEither s u) (reads life.now)
reads_as life s u may leaves = leaves (reads life.now) may

near : (s u x y : State) → IsEither s u x → IsEither x (after x Restart) y → IsNear s u y
near s u x y is (inl same) = inl (subst (IsEither s u) (sym same) is)
near s u x y is (inr same) = inr (x, is, same)

-- while the files are read a crash leaves what it might have left before
read_moments : (old mid : Life) (s u : State) → LeavesEither old s u → ReadsAsBefore old mid
    → LeavesOnly old mid (RecoversTo (IsNear s u))
read_moments old mid s u leaves before =
    weaker old mid (RecoversTo (IsNear s u)) (MayLeave old.now) before.any_moment (λ image left. recovers_as (IsEither s u) (IsNear s u) image (λ y is. inl is) (leaves image left))

all_moments : (old mid new : Life) (s u x : State) → LeavesEither old s u → ReadsAsBefore old mid → IsEither s u x → LeavesOnly mid new (RecoversTo (IsEither x (after x Restart))) → LeavesOnly old new (RecoversTo (IsNear s u))
all_moments old mid new s u x leaves before is moments =
    goes_on_part old mid new (RecoversTo (IsNear s u)) (RecoversTo (IsEither x (after x Restart))) (read_moments old mid s u leaves before) moments
    (λ image. recovers_as (IsEither x (after x Restart)) (IsNear s u) image (λ y. near s u x y is))

-- what the restart of an archive whose files were read leaves
module _ (old mid : Life) (s u : State) (log : LogState) (desk : DeskState) (leaves : LeavesEither old s u) (before : ReadsAsBefore old mid) (to : RecoversTo (IsEither s u) (reads old.now)) (sound : IsSound mid.now log to.state)
    (is : desk ≡ opened_desk (register_of to.state) log.counted log.header.history_limit log.header.version) where
  abbrev read : EngineState
  read = record { life = mid; log = log; desk = desk }

  pub open_done : (new : EngineState) (stopped : ℤ) → MayLeave mid.now (reads mid.now)
      → Restarts read new (Ok stopped) → IsOpened old new stopped s u
  open_done new stopped may went =
      let counted = log.counted in
      let limit = log.header.history_limit in
      let version = log.header.version in
      let was = opened_consistent mid log to.state counted limit version sound in
      record {
        read = to.state;
        is = to.is;
        recovers = to.recovers;
        stopped = active_same desk to.state counted limit version stopped is went.stopped;
        archive = opened_archive (after to.state Restart) counted limit version;
        fresh = record {
          header = log.header;
          entries = sound.entries;
          catalogue = subst (λ (image : DiskImage). IsCatalogue image log.header sound.entries) (same_image (reads mid.now) (reads old.now) before.same) (rest_left mid.now log sound.entries (reads mid.now) sound.rests may);
          is = ap (λ (n : ℕ). opened_archive (after to.state Restart) n log.header.history_limit log.header.version) sound.rests.is_log.counted;
        };
        desk = went.desk (register_of to.state) counted limit version is ∙ ap (λ (g : RegisterState). opened_desk g counted limit version) (register_restarted to.state counted limit version sound.well);
        consistent = went.restarted to.state counted limit version is was;
        any_moment = all_moments old mid new.life s u to.state leaves before to.is (went.any_moment to.state counted limit version is was);
      }

  -- or as the recordings were to stop
  pub stop_refused : (disk : Life) (refusal : Refusal) → HasNotStarted read disk refusal
      → IsNotOpened old disk s u
  stop_refused disk refusal went =
      let moments : LeavesOnly mid disk (RecoversTo (IsEither to.state (after to.state Restart))) =
      subst (λ (life : Life). LeavesOnly mid life (RecoversTo (IsEither to.state (after to.state Restart)))) went.life (went.restarts.any_moment to.state log.counted log.header.history_limit log.header.version is (opened_consistent mid log to.state log.counted log.header.history_limit log.header.version sound)) in
      record {
        now = inr (to.state, to.is, λ image left. now_leaves mid disk (RecoversTo (IsEither to.state (after to.state Restart))) moments image left);
        any_moment = all_moments old mid disk s u to.state leaves before to.is moments;
      }

-- it was refused as the files were read
pub read_refused : (old mid : Life) (s u : State) → LeavesEither old s u → ReadsAsBefore old mid
    → IsNotOpened old mid s u
read_refused old mid s u leaves before = record {
  now = inl (λ image left. leaves image (now_leaves old mid (MayLeave old.now) before.any_moment image left));
  any_moment = read_moments old mid s u leaves before;
}

-- what a restart changes is the bank alone
pub reads_otherwise : (old mid new : Life) → ReadsAsBefore old mid → ChangesBank mid new
    → (file : FileId) → file ≢ BankA → file ≢ BankB → reads new.now file ≡ reads old.now file
reads_otherwise old mid new before changes file not_a not_b = ap (λ (state : FileState). state.reads) (changes.others file not_a not_b) ∙ before.same file

-- the desk of the bank whose log was read
pub desk_read : (image : DiskImage) (log : LogState) (entries : List Entry) (read_desk desk : DeskState) (restarted : ℤ) → IsLogIn image log entries
    → read_desk ≡ opened_desk (after_entries no_recordings entries) log.counted log.header.history_limit log.header.version → desk ≡ opened_desk (all_stopped (after_entries no_recordings entries)) log.counted log.header.history_limit log.header.version
    → restarted ≡ pos (register.active_count read_desk.register) → IsDeskOf image desk restarted
desk_read image log entries read_desk desk restarted read known is stopped = record {
  header = log.header;
  entries = entries;
  catalogue = log_catalogue image log entries read;
  is = is ∙ ap (λ (n : ℕ). opened_desk (all_stopped (after_entries no_recordings entries)) n log.header.history_limit log.header.version) read.is_log.counted;
  stopped = stopped ∙ ap (λ (d : DeskState). pos (register.active_count d.register)) known;
}

pub same_desk : (g h : RegisterState) (counted more limit most : ℕ) (version w : BankVersion) → g ≡ h → counted ≡ more → limit ≡ most → version ≡ w
    → opened_desk g counted limit version ≡ opened_desk h more most w
same_desk g h counted more limit most version w one two three four =
    ap (λ (r : RegisterState). opened_desk r counted limit version) one
    ∙ ap (λ (n : ℕ). opened_desk h n limit version) two
    ∙ ap (λ (n : ℕ). opened_desk h more n version) three
    ∙ ap (λ (v : BankVersion). opened_desk h more most v) four

-- the fault came after the files were read
pub failed_later : (old mid new : Life) → ReadsAsBefore old mid → HasFailed mid new
    → HasFailed old new
failed_later old mid new before failed = let faults = before.faults in omega (arith, failed, faults)

-- the files read as before the opening where nothing was done after they were read
pub kept_reads : (old mid new : Life) (refusal : Refusal) → ReadsAsBefore old mid
    → (refusal ≡ DeviceFault) ⊎ (new ≡ mid) → (refusal ≡ DeviceFault) ⊎ ReadsAsBefore old new
kept_reads old mid new refusal before (inl fault) = inl fault
kept_reads old mid new refusal before (inr same) = inr (subst (λ (life : Life). ReadsAsBefore old life) (sym same) before)

-- ---- whatever the disk holds

pub goes_later : (old mid new : Life) → ReadsAsBefore old mid → ChangesBank mid new
    → DiskGoesOn old new
goes_later old mid new before changes = let first = before.faults in let then = changes.faults in record { obeyed = λ obeys. before.obeyed (changes.obeyed obeys); faults = omega (arith, first, then) }

-- the bank of a disk that a restart was refused on
pub changed_bank : (read : EngineState) (disk : Life) (refusal : Refusal)
    → HasNotStarted read disk refusal → ChangesBank read.life disk
changed_bank read disk refusal went = subst (ChangesBank read.life) went.life went.restarts.changes

pub start_refuses : (old : Life) (read : EngineState) (disk : Life) (refusal : Refusal) → ReadsAsBefore old read.life → HasNotStarted read disk refusal → RefusesOpening old disk refusal
start_refuses old read disk refusal before went = record {
  cause = λ fault. failed_later old read.life disk before (subst (HasFailed read.life) went.life (went.restarts.cause (ap Err fault)));
  catalogue = λ obeys. fault_refuses (reads old.now) refusal went.restarts.outside;
  kept = subst (λ (life : Life). (refusal ≡ DeviceFault) ⊎ ReadsAsBefore old life) went.life (kept_reads old read.life went.new.life refusal before went.restarts.kept);
}

pub read_refuses : (old mid : Life) (refusal : Refusal) → ReadsAsBefore old mid → (refusal ≡ DeviceFault → HasFailed old mid) → (IsTrue mid.obeys → RefusesCatalogue (reads old.now) refusal) → RefusesOpening old mid refusal
read_refuses old mid refusal before cause catalogue = record { cause = cause; catalogue = catalogue; kept = inr before }

-- what a compaction asks of the banks stays as it was read
pub banks_read : (image : DiskImage) (log new_log : LogState) (entries : List Entry) → IsLogIn image log entries → KeepsBank log new_log → TellsBanks image (banks_of new_log)
banks_read image log new_log entries is keeps =
    let same : banks_of new_log ≡ banks_of log =
    ap (λ (h : BankHeader). record { epoch = h.epoch; spare = is_usable new_log.spare }) keeps.header ∙ ap (λ (found : Spare). record { epoch = log.header.epoch; spare = is_usable found }) keeps.spare in
    subst (TellsBanks image) (sym same) (told_in image log entries is)

-- ---- behind a listing, which changes nothing but the count of faults

module _ (old mid : Life) (quiet : IsQuiet old mid) where
  leaves_still : (s u : State) → LeavesEither old s u → LeavesEither mid s u
  leaves_still s u leaves image may = leaves image (subst (λ (files : Files). MayLeave files image) quiet.now may)

  listed : ReadsAsBefore old mid
  listed = read_synced old mid (nothing_synced old mid quiet)

  still_before : (new : Life) → ReadsAsBefore mid new → ReadsAsBefore old new
  still_before new before = record {
    same = λ file. before.same file ∙ ap (λ (files : Files). reads files file) quiet.now;
    any_moment = goes_on_part old mid new (MayLeave old.now) (MayLeave mid.now) listed.any_moment before.any_moment (λ image may. subst (λ (files : Files). MayLeave files image) quiet.now may);
    obeyed = λ obeys. quiet.obeyed (before.obeyed obeys);
    faults = omega (arith, quiet.faults, before.faults);
  }

  still_failed : (new : Life) → HasFailed mid new → HasFailed old new
  still_failed new failed = failed_later old mid new listed failed

  still_near : (new : Life) (s u : State) → LeavesEither old s u
      → LeavesOnly mid new (RecoversTo (IsNear s u)) → LeavesOnly old new (RecoversTo (IsNear s u))
  still_near new s u leaves later = goes_on_part old mid new (RecoversTo (IsNear s u)) (RecoversTo (IsNear s u)) (read_moments old mid s u leaves listed) later (λ image near. near)

  goes_still : (new : Life) → DiskGoesOn mid new → DiskGoesOn old new
  goes_still new goes = record { obeyed = λ obeys. quiet.obeyed (goes.obeyed obeys); faults = omega (arith, quiet.faults, goes.faults) }

  still_calls : (new : Life) → OpensBy mid new → OpensBy old new
  still_calls new by = record {
    files = by.files;
    are = λ obeys. subst (λ (files : Files). AreFilesWith (λ file. IsSome (reads files file)) by.files) quiet.now (by.are obeys);
    calls = (let calls = by.calls in let same : moment mid ≡ moment old = ap (λ (past : List Files). length past) quiet.past in omega (arith, calls, same));
  }

  still_leaves : (new : Life) (h : BankHeader) (es : List Entry) → LeavesCatalogue mid new h es → LeavesCatalogue old new h es
  still_leaves new h es left =
      let P : DiskImage → Type 0 = λ image. MayLeave old.now image ⊎ HasEntries h es entries.Restart image in
      goes_on_part old mid new P (λ image. MayLeave mid.now image ⊎ HasEntries h es entries.Restart image) (weaker old mid P (MayLeave old.now) listed.any_moment (λ image may. inl may)) left
      (λ image has. elim has [ inl may ↦ inl (subst (λ (files : Files). MayLeave files image) quiet.now may) | inr entries ↦ inr entries ])

  still_whole : (h : BankHeader) (es : List Entry) → IsCatalogue (reads old.now) h es → IsCatalogue (reads mid.now) h es
  still_whole h es has = subst (λ (files : Files). IsCatalogue (reads files) h es) (sym quiet.now) has

  still_opens : (new : EngineState) (stopped : ℤ) (h : BankHeader) (es : List Entry) → OpensCatalogue mid new stopped h es → OpensCatalogue old new stopped h es
  still_opens new stopped h es opens = record {
    any_moment = still_leaves new.life h es opens.any_moment;
    header = opens.header;
    rests = opens.rests;
    synced = subst (λ (files : Files). (file : FileId) → file ≢ BankA → file ≢ BankB → IsSome (reads files file) → new.life.now file ≡ durable (reads files file)) quiet.now opens.synced;
  }

  pub opened_behind : (new : EngineState) (stopped : ℤ) → HasOpened mid new stopped
      → HasOpened old new stopped
  opened_behind new stopped is = record {
    opened = λ s u leaves obeys. (let o = is.opened s u (leaves_still s u leaves) obeys in record {
      read = o.read;
      is = o.is;
      recovers = subst (λ (files : Files). Recovers (reads files) o.read) quiet.now o.recovers;
      stopped = o.stopped;
      archive = o.archive;
      fresh = subst (λ (files : Files). IsFresh (reads files) (after o.read Restart) o.archive) quiet.now o.fresh;
      desk = o.desk;
      consistent = o.consistent;
      any_moment = still_near new.life s u leaves o.any_moment;
    });
    desk = λ obeys. subst (λ (files : Files). IsDeskOf (reads files) new.desk stopped) quiet.now (is.desk obeys);
    banks = λ obeys. subst (λ (files : Files). TellsBanks (reads files) (banks_of new.log)) quiet.now (is.banks obeys);
    goes_on = goes_still new.life is.goes_on;
    others = λ file not_a not_b. is.others file not_a not_b ∙ ap (λ (files : Files). reads files file) quiet.now;
    other_bank = is.other_bank ∙ ap (λ (files : Files). reads files (bank_file (other_of new.log.bank))) quiet.now;
    idle = λ none. still_before new.life (is.idle none);
    calls = still_calls new.life is.calls;
    catalogue = λ obeys h es has. still_opens new stopped h es (is.catalogue obeys h es (still_whole h es has));
  }

  pub refused_behind : (new : Life) (refusal : Refusal) → HasNotOpened mid new refusal
      → HasNotOpened old new refusal
  refused_behind new refusal is = record {
    whole = λ s u leaves obeys. (let whole = is.whole s u (leaves_still s u leaves) obeys in (record { now = whole.0.now; any_moment = still_near new s u leaves whole.0.any_moment }, whole.1));
    refuses = record {
      cause = λ fault. still_failed new (is.refuses.cause fault);
      catalogue = λ obeys. subst (λ (files : Files). RefusesCatalogue (reads files) refusal) quiet.now (is.refuses.catalogue obeys);
      kept = elim is.refuses.kept [ inl fault ↦ inl fault | inr before ↦ inr (still_before new before) ];
    };
    goes_on = goes_still new is.goes_on;
    others = λ file not_a not_b. is.others file not_a not_b ∙ ap (λ (files : Files). reads files file) quiet.now;
    calls = elim is.calls [
      | inl same ↦ inl (record { obeyed = λ obeys. quiet.obeyed (same.obeyed obeys); past = same.past ∙ quiet.past; now = same.now ∙ quiet.now; faults = (let first = quiet.faults in let then = same.faults in omega (arith, first, then)) })
      | inr by ↦ inr (still_calls new by)
    ];
    catalogue = λ obeys h es has. still_leaves new h es (is.catalogue obeys h es (still_whole h es has));
  }

  -- nothing was listed
  pub unlisted : (refusal : Refusal) → ((refusal ≡ DeviceFault) × HasFailed old mid) ⊎ (refusal ≡ NoMemory) → HasNotOpened old mid refusal
  unlisted refusal why =
      let outside : (refusal ≡ DeviceFault) ⊎ (refusal ≡ NoMemory) = elim why [ inl fault ↦ inl fault.0 | inr memory ↦ inr memory ] in
      record {
        whole = λ s u leaves obeys. (read_refused old mid s u leaves listed, outside);
        refuses = record {
          cause = λ fault. (elim why [ inl failed ↦ failed.1 | inr memory ↦ (let wrong : NoMemory ≡ DeviceFault = sym memory ∙ fault in absurd cc) ]);
          catalogue = λ obeys. fault_refuses (reads old.now) refusal outside;
          kept = inr listed;
        };
        goes_on = record { obeyed = quiet.obeyed; faults = quiet.faults };
        others = λ file not_a not_b. listed.same file;
        calls = inl quiet;
        catalogue = λ obeys h es has. weaker old mid (λ image. MayLeave old.now image ⊎ HasEntries h es entries.Restart image) (MayLeave old.now) listed.any_moment (λ image may. inl may);
      }

  -- no archive is made where no file is
  -- made after a listing
  behind_quiet : (new : Life) → MakesBanks mid new → MakesBanks old new
  behind_quiet new makes =
      let first = quiet.faults in let then = makes.faults in let calls = makes.calls in let same : moment mid ≡ moment old = ap (λ (past : List Files). length past) quiet.past in record {
        obeyed = λ obeys. quiet.obeyed (makes.obeyed obeys);
        faults = omega (arith, first, then);
        others = λ file not_a not_b. makes.others file not_a not_b ∙ ap (λ (files : Files). files file) quiet.now;
        calls = omega (arith, same, calls);
      }

  pub unmade_behind : (new : Life) (limit : ℕ) (files : List FileId) (refusal : Refusal) → files ≡ [] → (IsTrue mid.obeys → AreFilesWith (λ file. IsSome (reads old.now file)) files) → MakesBanks mid new → ((refusal ≡ DeviceFault) × HasFailed mid new) ⊎ ((refusal ≡ NoMemory) × (new ≡ mid))
      → NeitherMadeNorOpened limit old new refusal
  unmade_behind new limit files refusal none all goes (inr memory) =
      inr (inl (
        (λ is. let wrong : BadParameter ≡ NoMemory = sym is ∙ memory.0 in absurd cc),
        subst (λ (r : Refusal). RefusesNew old new limit r) (sym memory.0) (subst (IsQuiet old) (sym memory.1) quiet),
      ))
  unmade_behind new limit files refusal none all goes (inl failed) =
      inr (inl (
        (λ is. let wrong : BadParameter ≡ DeviceFault = sym is ∙ failed.0 in absurd cc),
        subst (λ (r : Refusal). RefusesNew old new limit r) (sym failed.0) (still_failed new failed.1, inr ((λ obeys. none_there old files none (all (goes.obeyed obeys))), behind_quiet new goes)),
      ))

  -- where no file was, an archive was made
  pub made_behind : (new : Life) (limit : ℕ) (files : List FileId) → files ≡ [] → (IsTrue mid.obeys → AreFilesWith (λ file. IsSome (reads old.now file)) files) → 1 ≤ limit → limit ≤ 16777216 → MakesBanks mid new → HasClosedGate new.now BankB
      → IsMadeIn old new limit
  made_behind new limit files none all some most goes spare = record { some = some; most = most; empty = λ obeys. none_there old files none (all (goes.obeyed obeys)); spare = spare; banks = behind_quiet new goes }

  pub had_files : (new : Life) (files : List FileId) → (files ≡ [] → ⊥) → (IsTrue mid.obeys → AreFilesWith (λ file. IsSome (reads old.now file)) files) → DiskGoesOn mid new → HadFiles old new
  had_files new files some all goes obeys = one_there old files some (all (goes.obeyed obeys))

-- what holds of what was made
pub made_then : {T E : Type 0} (result : Result T E) (P Q R : T → Type 0) (S : E → Type 0) → ((x : T) → P x → Q x → R x) → IfOk result P → MatchResult result Q S → IfOk result R
made_then (Ok x) P Q R S both p q = both x p q
made_then (Err e) P Q R S both p q = tt
