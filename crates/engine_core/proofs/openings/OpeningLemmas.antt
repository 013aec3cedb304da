-- Files that are synced before they are read.
use Rattle.std.proofs.Common.{take_all, ◌≡◌, ◌≢◌, ◌⊎◌, ◌∙◌, inl, inr, sym, ap, subst, refl, ℕ, ℤ, pos, ◌+◌, ◌<◌, ◌≤◌, IsSome, List, [], ◌∷◌, ◌++◌, Option, None, Some, Contains, get_or, length, length-append, length-take, replicate, take, ◌-◌, add-one, arith}
use Rattle.std.proofs.lemmas.Int.{ints}
use Rattle.std.specs.Prelude.{◌↔◌, IfErr, IfOk, IsErrOf, Result, Ok, Err}
use Rattle.std.proofs.lemmas.List.Elements.{Contains-push_cases}
use Rattle.std.proofs.Math.Seq.{take-suc}
use Rattle.engine_core.proofs.Words.{AreDurableFrames, AreFilesWith, BankA, BankB, BankHeader, DeviceFault, DiskImage, Each, Entry, FileId, FileState, Files, Frame, FrameKind, HasFailed, Heartbeat, Holds, HoldsFrames, HoldsRecording, IsAtRest, IsCatalogue, IsDurable, IsKept, IsLogIn, IsOfStream, IsQuiet, IsSound, Layout, LeavesOnly, Life, LogState, MayLeave, Message, NoMemory, Pad, ReadsAsBefore, Recovers, Refusal, Segment, State, after_entries, aligned_length, base_of, bytes_of, durable, empty, file_of, first_of, goes_on_part, goes_quiet, last_of, layout_of, moment, no_recordings, now_leaves, offset_of, one_catalogue, reads, same_file, started, stored}
use Rattle.disk_core.specs.Calls.{IsSynced}
use Rattle.disk_core.specs.Life.{Steps, moments}
use Rattle.disk_core.proofs.CallerLemmas.{sync_moments}
use Rattle.frame_core.specs.declared.refusal.Refusal.TheVariants.{BadParameter}
use Rattle.frame_core.specs.FrameEncoding.{encoded, header_of, stored_as}
use Rattle.frame_core.proofs.FrameEncodingLemmas.{length-header_of}
use Rattle.catalogue_log.specs.Catalogue.{KeepsReads, RefusesCatalogue}
use Rattle.catalogue_log.proofs.CallerLemmas.{not_refused, rests_in, same_image}
use Rattle.engine_core.specs.Opening.{AreOnDisk, SyncsOnly}
use Rattle.engine_core.specs.Recovery.{Folds}
use Rattle.engine_core.proofs.files.FrameLemmas.{each_both, each_then, read_durable}

-- a file reads as before
pub reads_same : (old new : Life) → SyncsOnly old new → (file : FileId)
    → reads new.now file ≡ reads old.now file
reads_same old new only file = elim (only.each file) [
  | inl same ↦ ap (λ (state : FileState). state.reads) same
  | inr synced ↦ ap (λ (state : FileState). state.reads) synced
]

-- one that is on the disk as it read stays so
pub stays_synced : (old mid new : Life) → (file : FileId) → mid.now file ≡ durable (reads old.now file) → SyncsOnly mid new → new.now file ≡ durable (reads old.now file)
stays_synced old mid new file synced only = elim (only.each file) [
  | inl same ↦ same ∙ synced
  | inr again ↦ again ∙ ap (λ (state : FileState). durable state.reads) synced
]

pub nothing_synced : (old new : Life) → IsQuiet old new → SyncsOnly old new
nothing_synced old new quiet = record {
  each = λ file. inl (ap (λ (files : Files). files file) quiet.now);
  any_moment = goes_quiet old old new (MayLeave old.now) (started old (MayLeave old.now) (λ image left. left)) quiet;
  obeyed = quiet.obeyed;
  faults = quiet.faults;
}

unchanged : (life : Life) → SyncsOnly life life
unchanged life = record {
  each = λ file. inl refl;
  any_moment = started life (MayLeave life.now) (λ image left. left);
  obeyed = λ obeys. obeys;
  faults = omega arith;
}

pub one_synced : (file : FileId) (old new : Life) → MayLeave old.now (reads old.now)
    → Steps file IsSynced old new → SyncsOnly old new
one_synced file old new may step = record {
  each = λ other. elim (same_file other file) [
    | inl same ↦ subst (λ (f : FileId). (new.now f ≡ old.now f) ⊎ (new.now f ≡ durable (reads old.now f))) (sym same) step.this
    | inr differs ↦ inl (step.others other differs)
  ];
  any_moment = sync_moments file old new may step;
  obeyed = step.obeyed;
  faults = step.faults;
}

pub synced_more : (old mid new : Life) → SyncsOnly old mid → SyncsOnly mid new → SyncsOnly old new
synced_more old mid new first then = record {
  each = λ file. elim (first.each file) [
    | inl same ↦ (elim (then.each file) [
      | inl again ↦ inl (again ∙ same)
      | inr synced ↦ inr (synced ∙ ap (λ (state : FileState). durable state.reads) same)
    ])
    | inr synced ↦ inr (stays_synced old mid new file synced then)
  ];
  any_moment = goes_on_part old mid new (MayLeave old.now) (MayLeave mid.now) first.any_moment then.any_moment (now_leaves old mid (MayLeave old.now) first.any_moment);
  obeyed = λ obeys. first.obeyed (then.obeyed obeys);
  faults = omega (arith, first.faults, then.faults);
}

-- the first so many of the listed segment files are on the disk as they read
pub record AreSynced (old new : Life) (files : List FileId) : Type 0 where
  pub only : SyncsOnly old new
  pub synced : (recording base : ℤ) → Contains files (Segment recording base)
      → new.now (Segment recording base) ≡ durable (reads old.now (Segment recording base))
  pub calls : moment new ≤ moment old + length files

pub none_synced : (life : Life) → AreSynced life life []
none_synced life = record { only = unchanged life; synced = λ recording base has. absurd (omega (arith, has.1)); calls = omega arith }

pub next_synced : (old mid new : Life) (files : List FileId) (i : ℕ) (d : FileId)
    → i < length files → AreSynced old mid (take i files) → SyncsOnly mid new
    → ((recording base : ℤ) → get_or files i d ≡ Segment recording base → new.now (get_or files i d) ≡ durable (reads mid.now (get_or files i d))) → moment new ≤ moment mid + 1 → AreSynced old new (take (i + 1) files)
next_synced old mid new files i d within so_far only here one = record {
  calls = (let more : take (i + 1) files ≡ take i files ++ get_or files i d ∷ [] = rw (add-one, take-suc files i d within) refl in
      let longer : length (take (i + 1) files) ≡ length (take i files) + 1 = ap (λ (xs : List FileId). length xs) more ∙ length-append (take i files) (get_or files i d ∷ []) in
      let before = so_far.calls in omega (arith, longer, before, one));
  only = synced_more old mid new so_far.only only;
  synced = λ recording base has.
      let more : take (i + 1) files ≡ take i files ++ get_or files i d ∷ [] = rw (add-one, take-suc files i d within) refl in
      let this : FileId = Segment recording base in
      elim (Contains-push_cases (take i files) (get_or files i d) this (subst (λ (xs : List FileId). Contains xs this) more has)) [
        | inl before ↦ stays_synced old mid new this (so_far.synced recording base before) only
        | inr is ↦
            let now : new.now this ≡ durable (reads mid.now this) = subst (λ (f : FileId). new.now f ≡ durable (reads mid.now f)) is (here recording base is) in
            now ∙ ap durable (reads_same old mid so_far.only this)
      ];
}

-- so each of the listed ones
pub all_synced : (old new : Life) (files : List FileId) (i : ℕ) → AreSynced old new (take i files)
    → length files ≤ i → AreFilesWith (λ file. IsSome (reads old.now file)) files
    → (recording base : ℤ) → IsSome (reads old.now (Segment recording base)) → new.now (Segment recording base) ≡ durable (reads old.now (Segment recording base))
all_synced old new files i so_far past all recording base there =
    let this : FileId = Segment recording base in
    so_far.synced recording base (subst (λ (xs : List FileId). Contains xs this) (sym (take_all i files past)) ((all.each this).1 there))

-- bytes stand only in a file that is there
is_there : (file : Option (List ℕ)) (at : ℕ) (bytes : List ℕ) → 0 < length bytes
    → Holds (bytes_of file) at bytes → IsSome file
is_there None at bytes some holds = absurd (omega (arith, (holds 0 some).0))
is_there (Some x) at bytes some holds = refl

stored_some : (kind : FrameKind) (f : Frame) → kind ≢ Heartbeat → 0 < length (stored_as kind f)
stored_some Pad f other = omega (arith, length-header_of f)
stored_some Message f other = omega (arith, length-append (encoded f) (replicate (aligned_length f - length (encoded f)) 0), length-append (header_of f) f.payload, length-header_of f)
stored_some Heartbeat f other = absurd (other refl)

-- each segment file that is there is on the disk as it reads
abbrev Durable : Life → Life → Type 0
Durable old new = (recording base : ℤ) → IsSome (reads old.now (Segment recording base)) → new.now (Segment recording base) ≡ durable (reads old.now (Segment recording base))

frames_durable : (old new : Life) (l : Layout) (stream : ℤ) (fs : List Frame) (from to : ℕ) → Durable old new → Each (IsOfStream stream) fs → HoldsFrames (reads old.now) l from fs to → AreDurableFrames new.now l from fs to
frames_durable old new l stream [] from to synced of_stream holds = holds
frames_durable old new l stream (f ∷ fs) from to synced of_stream holds =
    let there : IsSome (reads old.now (file_of l from)) = is_there (reads old.now (file_of l from)) (offset_of l from) (stored f) (stored_some f.kind f of_stream.0.kind) holds.0 in (
      read_durable (reads old.now (file_of l from)) (new.now (file_of l from)) (offset_of l from) (stored f) (synced l.recording (pos (base_of l from)) there) holds.0,
      frames_durable old new l stream fs (from + aligned_length f) to synced of_stream.1 holds.1,
    )

bank_same : (old mid : Life) (h : BankHeader) (entries : List Entry) → SyncsOnly old mid
    → IsCatalogue (reads mid.now) h entries → IsCatalogue (reads old.now) h entries
bank_same old mid h entries only catalogue = subst (λ (image : DiskImage). IsCatalogue image h entries) (same_image (reads mid.now) (reads old.now) (reads_same old mid only)) catalogue

-- an opened archive is sound for the state that its files recover to
pub open_sound : (old mid new : Life) (log : LogState) (entries : List Entry) (x : State) → Durable old mid → SyncsOnly old mid → KeepsReads mid new → IsCatalogue (reads mid.now) log.header entries → IsAtRest new.now log entries
    → Recovers (reads old.now) x → IsSound new.now log x × Folds entries x
open_sound old mid new log entries x synced only kept found rests recovers = (
  record {
    entries = entries;
    rests = rests;
    folds = folds;
    frames = each_then (λ r. IsKept r × HoldsRecording (reads old.now) r) (IsDurable new.now) x.recordings (each_both IsKept (HoldsRecording (reads old.now)) x.recordings recovers.well.kept recovers.frames)
        (λ r both. frames_durable old new (layout_of r.descriptor) r.descriptor.stream_id r.frames (first_of r) (last_of r) all both.0.of_stream both.1);
    well = recovers.well;
  },
  folds,
)
  where
    folds : Folds entries x
    folds =
        let one = one_catalogue (reads old.now) log.header recovers.header entries recovers.entries (bank_same old mid log.header entries only found) recovers.catalogue in
        ap (after_entries no_recordings) one.1 ∙ recovers.folds

    all : Durable old new
    all recording base there = kept.others (Segment recording base) (λ is. absurd cc) (λ is. absurd cc) ∙ synced recording base there

-- what opening is refused by
pub same_refusal : (old mid : Life) (refusal : Refusal) → SyncsOnly old mid
    → RefusesCatalogue (reads mid.now) refusal → RefusesCatalogue (reads old.now) refusal
same_refusal old mid refusal only refuses = subst (λ (image : DiskImage). RefusesCatalogue image refusal) (same_image (reads mid.now) (reads old.now) (reads_same old mid only)) refuses

-- an image that recovers is refused by a fault or for want of memory alone
pub whole_refused : (image : DiskImage) (x : State) (refusal : Refusal) → Recovers image x
    → RefusesCatalogue image refusal → (refusal ≡ DeviceFault) ⊎ (refusal ≡ NoMemory)
whole_refused image x refusal recovers refuses = not_refused image recovers.header recovers.entries refusal recovers.catalogue refuses

-- each file reads as before

pub read_synced : (old new : Life) → SyncsOnly old new → ReadsAsBefore old new
read_synced old new only = record { same = reads_same old new only; any_moment = only.any_moment; obeyed = only.obeyed; faults = only.faults }

pub read_opened : (old mid new : Life) → SyncsOnly old mid → KeepsReads mid new
    → LeavesOnly mid new (MayLeave mid.now) → ReadsAsBefore old new
read_opened old mid new only kept moments = record {
  same = λ file. kept.reads file ∙ reads_same old mid only file;
  any_moment = goes_on_part old mid new (MayLeave old.now) (MayLeave mid.now) only.any_moment moments (now_leaves old mid (MayLeave old.now) only.any_moment);
  obeyed = λ obeys. only.obeyed (kept.obeyed obeys);
  faults = omega (arith, only.faults, kept.faults);
}

-- the log is that of the bank as it read before
pub log_read : (old new : Life) (log : LogState) (entries : List Entry) → ReadsAsBefore old new
    → IsAtRest new.now log entries → IsLogIn (reads old.now) log entries
log_read old new log entries before rests =
    subst (λ (image : DiskImage). IsLogIn image log entries) (same_image (reads new.now) (reads old.now) before.same) (rests_in new.now log entries rests)

-- two facts of a value, where there is one
pub ok_both : {X E : Type 0} (result : Result X E) (P Q R : X → Type 0)
    → ((x : X) → P x → Q x → R x) → IfOk result P → IfOk result Q → IfOk result R
ok_both (Ok x) P Q R follows here there = follows x here there
ok_both (Err e) P Q R follows here there = tt

-- what a refusal says, and what follows
pub err_then : {X E : Type 0} (result : Result X E) (P Q : E → Type 0) → ((e : E) → P e → Q e)
    → IfErr result P → IfErr result Q
err_then (Ok x) P Q follows is = tt
err_then (Err e) P Q follows is = follows e is

-- an archive without recordings

pub new_sound : (files : Files) (log : LogState) → IsAtRest files log [] → IsSound files log empty
new_sound files log rests = record { entries = []; rests = rests; folds = refl; frames = tt; well = record { rising = omega (arith, ints); kept = tt } }

-- no file is there where none is listed
pub none_there : (life : Life) (files : List FileId) → files ≡ [] → AreFilesWith (λ file. IsSome (reads life.now file)) files → (file : FileId) → reads life.now file ≡ None
none_there life files none all file = by (reads life.now file) refl
  where
    by : (o : Option (List ℕ)) → reads life.now file ≡ o → o ≡ None
    by None is = refl
    by (Some bytes) is =
        let has : Contains files file = (all.each file).1 (subst (λ (x : Option (List ℕ)). IsSome x) (sym is) refl) in
        absurd (omega (arith, has.1, ap length none))

-- one is there where some are listed
pub one_there : (life : Life) (files : List FileId) → (files ≡ [] → ⊥) → AreFilesWith (λ file. IsSome (reads life.now file)) files → (file : FileId) × IsSome (reads life.now file)
one_there life [] some all = absurd (some refl)
one_there life (file ∷ files) some all = (file, (all.each file).0 (0, omega arith, refl))

-- a new catalogue is refused by a fault alone, where the limit is in its range
pub only_fault : {X : Type 0} (result : Result X Refusal) (old new : Life) (limit : ℕ) → 1 ≤ limit
    → limit ≤ 16777216 → (IsErrOf result BadParameter ↔ ((limit < 1) ⊎ (16777216 < limit)))
    → IfErr result (λ refusal. ((refusal ≡ BadParameter) × (new ≡ old)) ⊎ ((refusal ≡ DeviceFault) × HasFailed old new)) → IfErr result (λ refusal. (refusal ≡ DeviceFault) × HasFailed old new)
only_fault (Ok log) old new limit some most range refused = tt
only_fault (Err refusal) old new limit some most range (inl bad) = absurd (elim (range.0 (ap Err bad.0)) [ inl low ↦ omega (arith, low, some) | inr high ↦ omega (arith, high, most) ])
only_fault (Err refusal) old new limit some most range (inr fault) = fault

pub empty_list : (files : List FileId) → length files ≡ 0 → files ≡ []
empty_list [] none = refl
empty_list (file ∷ files) none = absurd (omega (arith, none))

-- ---- what an opening asks of the disk

-- the calls of so many files are at most those of all
pub few_calls : (old new : Life) (files : List FileId) (i : ℕ) → AreSynced old new (take i files) → moment new ≤ moment old + length files
few_calls old new files i so_far =
    let calls = so_far.calls in
    let some = length-take i files in
    omega (arith, calls, some)

-- a step is one call, or none
pub one_call : (file : FileId) (old new : Life) → Steps file IsSynced old new → moment new ≤ moment old + 1
one_call file old new step = elim step.time [
  | inl later ↦ (let long : length (moments new) ≡ length (moments old) + 1 = ap (λ (x : List Files). length x) later ∙ length-append (moments old) (new.now ∷ []) in
      let new_long : length (moments new) ≡ moment new + 1 = length-append new.past (new.now ∷ []) in
      let old_long : length (moments old) ≡ moment old + 1 = length-append old.past (old.now ∷ []) in omega (arith, long, new_long, old_long))
  | inr same ↦ (let still : moment new ≡ moment old = ap (λ (x : List Files). length x) same.0 in omega (arith, still))
]

-- the segment files stay on the disk while the banks are read
pub on_disk : (old mid new : Life) → Durable old mid → KeepsReads mid new → AreOnDisk old new
on_disk old mid new all same BankA not_a not_b there = absurd (not_a refl)
on_disk old mid new all same BankB not_a not_b there = absurd (not_b refl)
on_disk old mid new all same (Segment recording base) not_a not_b there = same.others (Segment recording base) not_a not_b ∙ all recording base there
