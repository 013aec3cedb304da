-- The first opening of a script's disk.
use Rattle.std.proofs.Common.{◌≡◌, ◌≢◌, ◌⊎◌, ◌∙◌, ap, refl, inl, inr, sym, subst, ℕ, ℤ, List, IsTrue, arith}
use Rattle.std.specs.Prelude.{Option, Some, None, IfErr, IfOk, IsSome, Result}
use Rattle.frame_core.specs.declared.refusal.Refusal.{Refusal}
use Rattle.frame_core.specs.declared.refusal.Refusal.TheVariants.{BadParameter, DeviceFault, NoMemory}
use Rattle.disk_core.specs.declared.disk.Disk as Disk
use Rattle.disk_core.specs.declared.file_id.FileId.{FileId}
use Rattle.disk_core.specs.DiskImage.{DiskImage, Files, MayLeave, bytes_of, reads}
use Rattle.disk_core.specs.Life.{HasFailed, IsQuiet, LeavesOnly, Life}
use Rattle.disk_core.proofs.CallerLemmas.{goes_quiet, started}
use Rattle.archive_model.specs.State.{State}
use Rattle.catalogue_log.specs.declared.bank.BankHeader.{BankHeader}
use Rattle.catalogue_entries.specs.declared.entry.Entry.{Entry}
use Rattle.catalogue_log.specs.Bank.{IsBank}
use Rattle.catalogue_log.specs.Banks.{bank_file}
use Rattle.catalogue_log.specs.Catalogue.{IsCatalogue}
use Rattle.catalogue_log.specs.LogState.{Banks, banks_of}
use Rattle.catalogue_log.proofs.CallerLemmas.{told_once}
use Rattle.engine_core.specs.Engine.{EngineState}
use Rattle.engine_core.specs.Opened.{HasNotOpened, HasOpened, IsNear, LeavesEither, MadeOrOpened, NeitherMadeNorOpened}
use Rattle.engine_core.specs.Opening.{ReadsAsBefore, RefusesNew}
use Rattle.engine_core.specs.Recovery.{IsEither, RecoversTo}
use Rattle.tool_core.specs.declared.observer.Beginning.{Beginning}
use Rattle.tool_core.specs.declared.observer.Beginning.TheVariants as beginnings
use Rattle.tool_core.specs.declared.archive.ScriptArchive.{ScriptArchive}
use Rattle.tool_core.specs.Archives.{BeginsAs, Closed, Open, SeenArchive, archive_seen, closed_by, life_of}
use Rattle.tool_core.specs.Left.{IsRefused, IsRefusedBy}
use Rattle.tool_core.specs.Script.{Begins, HasNotBegun, BeginsWithBanks, OpensStanding}
use Rattle.tool_core.specs.ScriptLines.{Standing, closed, doubtful, opened, refused, unknown}
use Rattle.tool_core.proofs.StandingLemmas.{IsBanksOf, IsStanding, recovers_as}
use Rattle.tool_core.proofs.OpeningLemmas.{OneState, begun, fault_leaves, quiet_restarts}
use Rattle.tool_core.proofs.RefusedLemmas.{no_catalogue, refused_once, refused_still}

-- ---- no file

-- a file that holds a bank is there
bank_is_there : (bytes : Option (List ℕ)) (h : BankHeader) (es : List Entry) → IsBank (bytes_of bytes) h es → IsSome bytes
bank_is_there None h es bank = let is = bank.holds.is in absurd cc
bank_is_there (Some bytes) h es bank = refl

-- the file of a catalogue is there
pub catalogue_is_there : (image : DiskImage) (h : BankHeader) (es : List Entry) → IsCatalogue image h es → (file : FileId) × IsSome (image file)
catalogue_is_there image h es is = (bank_file is.bank, bank_is_there (image (bank_file is.bank)) h es is.is)

-- one file at least is not absent
some_file : {x : Option (List ℕ)} → x ≡ None → IsSome x → ⊥
some_file is some = let wrong : IsSome {T = List ℕ} None = subst IsSome is some in absurd cc

-- nothing is recovered from no files
nothing_left : (life : Life) (s u : State) → MayLeave life.now (reads life.now) → ((file : FileId) → reads life.now file ≡ None) → LeavesEither life s u → ⊥
nothing_left life s u may none leaves =
    let to = leaves (reads life.now) may in
    let recovers = to.recovers in
    let there = catalogue_is_there (reads life.now) recovers.header recovers.entries recovers.catalogue in
    some_file (none there.0) there.1

-- ---- a disk that is as it was

quiet_opens : (old new : Life) (first : Standing) → IsQuiet old new → OpensStanding old first → OpensStanding new first
quiet_opens old new (opened a) quiet opens = quiet_restarts old new a quiet opens
quiet_opens old new (closed a) quiet opens = absurd opens
quiet_opens old new (doubtful s u) quiet opens = absurd opens
quiet_opens old new (refused image why) quiet opens = refused_still old new image why (λ file. ap (λ (files : Files). reads files file) quiet.now) opens
quiet_opens old new unknown quiet opens = absurd opens

quiet_leaves : (old new : Life) (s u : State) → IsQuiet old new → LeavesEither old s u → LeavesEither new s u
quiet_leaves old new s u quiet leaves image may = leaves image (subst (λ (files : Files). MayLeave files image) quiet.now may)

quiet_moments : (old new : Life) (s u : State) → IsQuiet old new → LeavesEither old s u → LeavesOnly old new (RecoversTo (IsNear s u))
quiet_moments old new s u quiet leaves = goes_quiet old old new (RecoversTo (IsNear s u)) (started old (RecoversTo (IsNear s u)) (λ image may. recovers_as (IsEither s u) (IsNear s u) image (λ x either. inl either) (leaves image may))) quiet

-- ---- what it begins with

-- how an archive stands behind the opening of a disk
pub record Starts (old : Life) (archive : SeenArchive) (first : Standing) (banks : Banks) : Type 0 where
  pub begun : Standing
  pub stands : IsStanding archive begun
  pub told : IsBanksOf archive begun banks
  pub is : (begun ≡ first) ⊎ (HasFailed old (life_of archive) × HasNotBegun old first begun)
  pub any_moment : (s u : State) → LeavesEither old s u → LeavesOnly old (life_of archive) (RecoversTo (IsNear s u))

made : (old : Life) (engine : EngineState) (first : Standing) (banks : Banks) → MayLeave old.now (reads old.now) → MadeOrOpened 1048576 old engine None → IsTrue engine.life.obeys → Begins old first banks → Starts old (Open engine) first banks
made old engine first banks may is obeys (inl blank) = record {
  begun = first;
  told = blank.2 ∙ sym is.3;
  stands = subst (λ (s : Standing). IsStanding (Open engine) s) (sym blank.1) is.1;
  is = inl refl;
  any_moment = λ s u leaves. absurd (nothing_left old s u may blank.0 leaves);
}
made old engine first banks may is obeys (inr files) = let made = is.0 in absurd (some_file (made.empty obeys files.0.0) files.0.1)

-- a call failed while it was made
unmade : (old : Life) (disk : Life) (first : Standing) (banks : Banks) → MayLeave old.now (reads old.now) → RefusesNew old disk 1048576 DeviceFault → IsTrue disk.obeys → Begins old first banks → Starts old (Closed disk) first banks
unmade old disk first banks may no_archive obeys (inl blank) = record {
  begun = unknown;
  stands = tt;
  told = tt;
  is = inr (no_archive.0, subst (λ (s : Standing). HasNotBegun old s unknown) (sym blank.1) blank.0);
  any_moment = λ s u leaves. absurd (nothing_left old s u may blank.0 leaves);
}
unmade old disk first banks may (failed, inr absent) obeys (inr files) = absurd (some_file (absent.0 obeys files.0.0) files.0.1)
unmade old disk first banks may (failed, inl quiet) obeys (inr files) = by first files.1
  where
    any : (s u : State) → LeavesEither old s u → LeavesOnly old disk (RecoversTo (IsNear s u))
    any s u leaves = quiet_moments old disk s u quiet leaves

    by : (first : Standing) → OpensStanding old first → Starts old (Closed disk) first banks
    by (opened a) restarts = record {
      begun = doubtful restarts.state restarts.other;
      told = tt;
      stands = quiet_leaves old disk restarts.state restarts.other quiet restarts.leaves;
      is = inr (failed, (restarts.state, restarts.other, restarts.leaves, inl (refl, refl)));
      any_moment = any;
    }
    by (closed a) opens = absurd opens
    by (doubtful s u) opens = absurd opens
    by (refused image why) opens = record {
      begun = refused image why;
      told = tt;
      stands = quiet_opens old disk (refused image why) quiet opens;
      is = inl refl;
      any_moment = any;
    }
    by unknown opens = absurd opens

-- ---- files that were there

opened_files : OneState → (old : Life) (engine : EngineState) (stopped : ℤ) (first : Standing) (banks : Banks) → HasOpened old engine stopped → IsTrue engine.life.obeys → OpensStanding old first → BeginsWithBanks old first banks → Starts old (Open engine) first banks
opened_files one_state old engine stopped first banks answer obeys opens told = by first opens told
  where
    any : (s u : State) → LeavesEither old s u → LeavesOnly old engine.life (RecoversTo (IsNear s u))
    any s u leaves = let o = answer.opened s u leaves obeys in o.any_moment

    by : (first : Standing) → OpensStanding old first → BeginsWithBanks old first banks → Starts old (Open engine) first banks
    by (opened a) restarts told =
        let at = begun one_state old engine stopped a restarts (answer.opened restarts.state restarts.other restarts.leaves obeys) in
        record {
          begun = opened a;
          stands = at;
          told = told_once (reads old.now) banks (banks_of engine.log) told (answer.banks obeys);
          is = inl refl;
          any_moment = any;
        }
    by (closed a) opens told = absurd opens
    by (doubtful s u) opens told = absurd opens
    by (refused image why) opens told = let desk = answer.desk obeys in absurd (no_catalogue old why desk.header desk.entries opens.0 desk.catalogue)
    by unknown opens told = absurd opens

refused_files : (old : Life) (disk : Life) (refusal : Refusal) (first : Standing) (banks : Banks) → refusal ≢ NoMemory → HasNotOpened old disk refusal → IsTrue disk.obeys → OpensStanding old first → Starts old (Closed disk) first banks
refused_files old disk refusal first banks other answer obeys opens = by first opens
  where
    any : (s u : State) → LeavesEither old s u → LeavesOnly old disk (RecoversTo (IsNear s u))
    any s u leaves = let whole = answer.whole s u leaves obeys in whole.0.any_moment

    failed : refusal ≡ DeviceFault → HasFailed old disk
    failed fault = answer.refuses.cause fault

    still_refused : (image : DiskImage) (why : Refusal) → IsRefused old image why → (refusal ≡ DeviceFault → ⊥) → Starts old (Closed disk) (refused image why) banks
    still_refused image why is no_fault =
        let before : ReadsAsBefore old disk = elim answer.refuses.kept [ inl fault ↦ absurd (no_fault fault) | inr before ↦ before ] in
        record { begun = refused image why; stands = refused_still old disk image why before.same is; told = tt; is = inl refl; any_moment = any }

    by : (first : Standing) → OpensStanding old first → Starts old (Closed disk) first banks
    by (opened a) restarts =
        let whole = answer.whole restarts.state restarts.other restarts.leaves obeys in
        elim whole.1 [
          | inl fault ↦ (let left = fault_leaves old disk restarts.state restarts.other whole.0 in record {
            begun = doubtful left.0 left.1;
            told = tt;
            stands = left.2;
            is = inr (failed fault, (restarts.state, restarts.other, restarts.leaves, left.3));
            any_moment = any;
          })
          | inr memory ↦ absurd (other memory)
        ]
    by (closed a) opens = absurd opens
    by (doubtful s u) opens = absurd opens
    by (refused image why) is =
        elim (refused_once old why refusal is.0 (answer.refuses.catalogue obeys)) [
          | inl same ↦ still_refused image why is (λ fault. not_fault why is.0 (sym same ∙ fault))
          | inr (inl memory) ↦ absurd (other memory)
          | inr (inr fault) ↦ record { begun = unknown; stands = tt; told = tt; is = inr (failed fault, tt); any_moment = any }
        ]
      where
        not_fault : (why : Refusal) → IsRefusedBy old why → why ≡ DeviceFault → ⊥
        not_fault why is same = subst (IsRefusedBy old) same is
    by unknown opens = absurd opens

opened_there : OneState → (old : Life) (engine : EngineState) (stopped : ℤ) (first : Standing) (banks : Banks) → MadeOrOpened 1048576 old engine (Some stopped) → IsTrue engine.life.obeys → Begins old first banks → Starts old (Open engine) first banks
opened_there one_state old engine stopped first banks is obeys (inl blank) = let there = is.0 obeys in absurd (some_file (blank.0 there.0) there.1)
opened_there one_state old engine stopped first banks is obeys (inr files) = opened_files one_state old engine stopped first banks is.1 obeys files.1 files.2

none_open : (old : Life) (disk : Life) (refusal : Refusal) (first : Standing) (banks : Banks) → MayLeave old.now (reads old.now) → refusal ≢ NoMemory → NeitherMadeNorOpened 1048576 old disk refusal → IsTrue disk.obeys → Begins old first banks → Starts old (Closed disk) first banks
none_open old disk refusal first banks may other (inl out) obeys begins = absurd (elim out.1 [ inl few ↦ omega (arith, few) | inr many ↦ omega (arith, many) ])
none_open old disk refusal first banks may other (inr (inl refuses)) obeys begins = by refusal other refuses
  where
    by : (r : Refusal) → r ≢ NoMemory → (r ≢ BadParameter) × RefusesNew old disk 1048576 r → Starts old (Closed disk) first banks
    by DeviceFault other refuses = unmade old disk first banks may refuses.1 obeys begins
    by NoMemory other refuses = absurd (other refl)
    by BadParameter other refuses = absurd (refuses.0 refl)
    by r other refuses = absurd refuses.1
none_open old disk refusal first banks may other (inr (inr is)) obeys (inl blank) = let there = is.0 obeys in absurd (some_file (blank.0 there.0) there.1)
none_open old disk refusal first banks may other (inr (inr is)) obeys (inr files) = refused_files old disk refusal first banks other is.1 obeys files.1

pub starts : OneState → (old : Life) (beginning : Beginning) (archive : SeenArchive) (first : Standing) (banks : Banks) → MayLeave old.now (reads old.now) → BeginsAs old beginning archive → IsTrue (life_of archive).obeys → Begins old first banks
    → Starts old archive first banks
starts one_state old beginnings.Made (Open engine) first banks may is obeys begins = made old engine first banks may is obeys begins
starts one_state old beginnings.Made (Closed disk) first banks may is obeys begins = absurd is
starts one_state old beginnings.Opened (Open engine) first banks may is obeys begins = opened_there one_state old engine is.0 first banks is.1 obeys begins
starts one_state old beginnings.Opened (Closed disk) first banks may is obeys begins = absurd is
starts one_state old (beginnings.Refused refusal) (Open engine) first banks may is obeys begins = absurd is
starts one_state old (beginnings.Refused refusal) (Closed disk) first banks may is obeys begins = none_open old disk refusal first banks may is.0 is.1 obeys begins

-- where it is refused by anything but want of memory none is open
pub closed_then : {D : Type 0} {dg : Disk.Ghosts D} (life : D → Life) (old : Life) (refusal : Refusal) (disk : D) (result : Result (ScriptArchive D dg × Beginning) D) → result ≡ closed_by refusal disk → NeitherMadeNorOpened 1048576 old (life disk) refusal
    → IfOk result (λ found. BeginsAs old found.1 (archive_seen life found.0))
closed_then {dg = dg} life old refusal disk result is answer = subst (λ (r : Result (ScriptArchive _ _ × Beginning) _). IfOk r (λ found. BeginsAs old found.1 (archive_seen life found.0))) (sym is) (by refusal answer)
  where
    by : (r : Refusal) → NeitherMadeNorOpened 1048576 old (life disk) r → IfOk (closed_by {dg = dg} r disk) (λ found. BeginsAs old found.1 (archive_seen life found.0))
    by NoMemory answer = tt
    by r answer = ((λ same. let wrong : r ≡ NoMemory = same in absurd cc), answer)

-- for want of memory the disk goes back as it was
quiet_before : (old new : Life) → IsQuiet old new → ReadsAsBefore old new
quiet_before old new quiet = record {
  same = λ file. ap (λ (files : Files). reads files file) quiet.now;
  any_moment = goes_quiet old old new (MayLeave old.now) (started old (MayLeave old.now) (λ image left. left)) quiet;
  obeyed = quiet.obeyed;
  faults = quiet.faults;
}

no_memory : (old new : Life) → NeitherMadeNorOpened 1048576 old new NoMemory → ReadsAsBefore old new
no_memory old new (inl out) = let wrong : NoMemory ≡ BadParameter = out.0 in absurd cc
no_memory old new (inr (inl refuses)) = quiet_before old new refuses.1
no_memory old new (inr (inr is)) = elim is.1.refuses.kept [ inl fault ↦ (let wrong : NoMemory ≡ DeviceFault = fault in absurd cc) | inr before ↦ before ]

pub back_then : {D : Type 0} {dg : Disk.Ghosts D} (life : D → Life) (old : Life) (refusal : Refusal) (disk : D) (result : Result (ScriptArchive D dg × Beginning) D) → result ≡ closed_by refusal disk → NeitherMadeNorOpened 1048576 old (life disk) refusal → IfErr result (λ back. ReadsAsBefore old (life back))
back_then {dg = dg} life old refusal disk result is answer = subst (λ (r : Result (ScriptArchive _ _ × Beginning) _). IfErr r (λ back. ReadsAsBefore old (life back))) (sym is) (by refusal answer)
  where
    by : (r : Refusal) → NeitherMadeNorOpened 1048576 old (life disk) r → IfErr (closed_by {dg = dg} r disk) (λ back. ReadsAsBefore old (life back))
    by NoMemory answer = no_memory old (life disk) answer
    by r answer = tt
