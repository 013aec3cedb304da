-- Archives that are closed and opened again.
use Rattle.std.proofs.Common.{◌≡◌, ◌⊎◌, ◌∙◌, ap, refl, inl, inr, sym, subst, ℕ, ℤ, pos, List, IsTrue, arith}
use Rattle.std.specs.Prelude.{Option, Some, None, Result, Ok, Err, count_by}
use Rattle.frame_core.specs.declared.refusal.Refusal.{Refusal}
use Rattle.frame_core.specs.declared.refusal.Refusal.TheVariants.{DeviceFault, NoMemory}
use Rattle.disk_core.specs.DiskImage.{DiskImage, Files, MayLeave, reads}
use Rattle.disk_core.specs.Life.{HasFailed, IsQuiet, LeavesOnly, Life}
use Rattle.disk_core.proofs.CallerLemmas.{now_leaves, weaker}
use Rattle.archive_model.specs.declared.version.BankVersion.{BankVersion}
use Rattle.archive_model.specs.declared.command.Command.TheVariants.{Restart}
use Rattle.archive_model.specs.declared.reply.Reply.{Reply}
use Rattle.archive_model.specs.declared.reply.Reply.TheVariants.{Reopened}
use Rattle.archive_model.specs.Commands.{after}
use Rattle.archive_model.specs.State.{State, active_count}
use Rattle.archive_model.specs.WellFormed.{IsWell}
use Rattle.catalogue_log.specs.declared.bank.BankHeader.{BankHeader}
use Rattle.catalogue_entries.specs.declared.entry.Entry.{Entry}
use Rattle.catalogue_log.specs.Catalogue.{IsCatalogue}
use Rattle.catalogue_log.specs.LogState.{Banks, banks_of}
use Rattle.catalogue_entries.specs.Fold.{counts}
use Rattle.catalogue_log.proofs.CallerLemmas.{one_catalogue, told_once}
use Rattle.control_core.specs.Exact.{Archive, opened_archive}
use Rattle.engine_core.specs.Consistent.{IsCrashConsistent, KeepsArchive}
use Rattle.engine_core.specs.Engine.{EngineState}
use Rattle.engine_core.specs.Opened.{HasNotOpened, HasOpened, IsFresh, IsNear, IsNotOpened, IsOpened, LeavesEither}
use Rattle.engine_core.specs.Opening.{ReadsAsBefore}
use Rattle.engine_core.specs.Recovery.{IsEither, Recovers, RecoversTo}
use Rattle.tool_core.specs.Archives.{Closed, Open, OpensDisk, ReadsMayStay, SeenArchive, life_of}
use Rattle.tool_core.specs.Left.{IsRefused, IsRefusedBy, LeavesArchive, LeavesBanks, LeavesBanksOf, LeavesShut}
use Rattle.tool_core.specs.Script.{RestartsDisk}
use Rattle.tool_core.specs.ScriptLines.{BanksAgain, LeavesReopening, MayStandAt, OpensShut, ReopensAs, ReopensEither, Scene, Standing, StaysInDoubt, closed, closed_in, doubtful, opened, refused, reopened, unknown}
use Rattle.tool_core.proofs.RefusedLemmas.{no_catalogue, refused_once, refused_still}
use Rattle.tool_core.proofs.StandingLemmas.{Done, IsScene, at_scene, recovers_as, scene_at}
use Rattle.tool_core.proofs.CallLemmas.{unknown_scene}

-- ---- an archive at which nobody calls yet

-- its image's catalogue says which it is
pub fresh_is : (image : DiskImage) (s : State) (a : Archive) (h : BankHeader) (es : List Entry) → IsFresh image s a → IsCatalogue image h es → a ≡ opened_archive s (count_by counts es) h.history_limit h.version
fresh_is image s a h es fresh catalogue =
    let one = one_catalogue image fresh.header h fresh.entries es fresh.catalogue catalogue in
    fresh.is ∙ ap (λ (ks : List Entry). opened_archive s (count_by counts ks) fresh.header.history_limit fresh.header.version) one.1 ∙ ap (λ (k : BankHeader). opened_archive s (count_by counts es) k.history_limit k.version) one.0

one_fresh : (image : DiskImage) (s u : State) (a b : Archive) → IsFresh image s a → IsFresh image u b → s ≡ u → a ≡ b
one_fresh image s u a b first second same =
    let one : a ≡ opened_archive s (count_by counts second.entries) second.header.history_limit second.header.version = fresh_is image s a second.header second.entries first second.catalogue in
    let other : b ≡ opened_archive u (count_by counts second.entries) second.header.history_limit second.header.version = fresh_is image u b second.header second.entries second second.catalogue in
    one ∙ ap (λ (x : State). opened_archive x (count_by counts second.entries) second.header.history_limit second.header.version) same ∙ sym other

-- ---- beginning

-- an image recovers to one state at most
abbrev pub OneState : Type 0
OneState = (image : DiskImage) (s u : State) → Recovers image s → Recovers image u → s ≡ u

-- the archive that was opened is this one
opened_keeps : (old : Life) (new : EngineState) (count : ℤ) (s u : State) (o : IsOpened old new count s u) (x : State) (a : Archive) → IsFresh (reads old.now) (after x Restart) a → o.read ≡ x → KeepsArchive new a
opened_keeps old new count s u o x a fresh same =
    subst (KeepsArchive new) (one_fresh (reads old.now) (after o.read Restart) (after x Restart) o.archive a o.fresh fresh (ap (λ (y : State). after y Restart) same)) (record { desk = o.desk; consistent = o.consistent })

-- the archive of a disk that recovers to a state is opened
pub begun : OneState → (old : Life) (new : EngineState) (count : ℤ) (a : Archive) (restarts : RestartsDisk old a) → IsOpened old new count restarts.state restarts.other → KeepsArchive new a
begun one_state old new count a restarts o =
    opened_keeps old new count restarts.state restarts.other o restarts.state a restarts.fresh (one_state (reads old.now) o.read restarts.state o.recovers restarts.recovers)

-- nothing has changed but the count of faults
pub quiet_restarts : (old new : Life) (a : Archive) → IsQuiet old new → RestartsDisk old a → RestartsDisk new a
quiet_restarts old new a quiet restarts = by old.now new.now (sym quiet.now) restarts
  where
    by : (x y : Files) → x ≡ y → (r : RestartsDisk old a) → RestartsDisk new a
    by x y same r = record {
      state = r.state;
      other = r.other;
      leaves = λ image left. r.leaves image (subst (λ (files : Files). MayLeave files image) quiet.now left);
      recovers = subst (λ (files : Files). Recovers (reads files) r.state) (sym quiet.now) r.recovers;
      fresh = subst (λ (files : Files). IsFresh (reads files) (after r.state Restart) a) (sym quiet.now) r.fresh;
    }

-- ---- closing, and opening again

pub leaves_one : (life : Life) (a : Archive) → LeavesArchive life a → LeavesEither life a.state a.state
leaves_one life a was image left = record { state = a.state; is = inl refl; recovers = was.recovers image left }

-- the archive once it is opened again
pub reopened_fresh : (life : Life) (image : DiskImage) (a : Archive) (was : LeavesArchive life a) → IsCatalogue image was.header was.entries → IsFresh image (after a.state Restart) (reopened a)
reopened_fresh life image a was catalogue = record {
  header = was.header;
  entries = was.entries;
  catalogue = catalogue;
  is = ap (λ (n : ℕ). opened_archive (after a.state Restart) n a.desk.limit a.desk.version) was.counted
      ∙ ap (λ (n : ℕ). opened_archive (after a.state Restart) (count_by counts was.entries) n a.desk.version) was.limit
      ∙ ap (λ (v : BankVersion). opened_archive (after a.state Restart) (count_by counts was.entries) was.header.history_limit v) was.version;
}

-- the state that was read is the archive's
read_is : (s x : State) → IsEither s s x → x ≡ s
read_is s x (inl same) = same
read_is s x (inr same) = same

-- refused by anything but a fault, the disk keeps it
pub stays_closed : (old new : Life) (a : Archive) → LeavesArchive old a → ReadsAsBefore old new → LeavesArchive new a
stays_closed old new a was before = record {
  recovers = λ image left. was.recovers image (now_leaves old new (MayLeave old.now) before.any_moment image left);
  header = was.header;
  entries = was.entries;
  catalogue = λ image left. was.catalogue image (now_leaves old new (MayLeave old.now) before.any_moment image left);
  counted = was.counted;
  limit = was.limit;
  version = was.version;
}

pub banks_stay : (old new : Life) (b : Banks) → LeavesBanks old b → ReadsAsBefore old new → LeavesBanks new b
banks_stay old new b was before image left = was image (now_leaves old new (MayLeave old.now) before.any_moment image left)

-- ---- at any moment of an opening

-- what is near one of two states stood before it, or is a restart of that
near_stood : (old new : Life) (s u : State) (Stood After : State → Type 0) → ((x : State) → IsEither s u x → Stood x) → LeavesOnly old new (RecoversTo (IsNear s u))
    → LeavesOnly old new (RecoversTo (λ x. Stood x ⊎ (After x ⊎ ((y : State) × Stood y × (x ≡ after y Restart)))))
near_stood old new s u Stood After stood any = weaker old new _ (RecoversTo (IsNear s u)) any (λ image. recovers_as (IsNear s u) _ image (λ x near. elim near [
  | inl either ↦ inl (stood x either)
  | inr restart ↦ inr (inr (restart.0, stood restart.0 restart.1, restart.2))
]))

near_one : (old new : Life) (a : Archive) (t : Standing) → LeavesOnly old new (RecoversTo (IsNear a.state a.state)) → LeavesReopening old new (closed a) t
near_one old new a t any = near_stood old new a.state a.state (MayStandAt (closed a)) (MayStandAt t) (λ x either. read_is a.state x either) any

near_either : (old new : Life) (s u : State) (t : Standing) → LeavesOnly old new (RecoversTo (IsNear s u)) → LeavesReopening old new (doubtful s u) t
near_either old new s u t any = near_stood old new s u (MayStandAt (doubtful s u)) (MayStandAt t) (λ x either. either) any

-- ---- what a refusal leaves

either_more : (life : Life) (s u : State) → LeavesEither life s s → LeavesEither life s u
either_more life s u leaves image may = recovers_as (IsEither s s) (IsEither s u) image (λ x either. inl (read_is s x either)) (leaves image may)

-- a device fault leaves what is in doubt
pub fault_leaves : (old new : Life) (s u : State) → IsNotOpened old new s u → (x : State) × (y : State) × LeavesEither new x y × StaysInDoubt s u (doubtful x y)
fault_leaves old new s u not = elim not.now [
  | inl both ↦ (s, u, both, inl (refl, refl))
  | inr one ↦ (one.0, after one.0 Restart, one.2, inr (one.1, refl))
]

certain_fault : (old new : Life) (s : State) → IsNotOpened old new s s → LeavesEither new s (after s Restart)
certain_fault old new s not = elim not.now [
  | inl both ↦ either_more new s (after s Restart) both
  | inr one ↦ subst (λ (x : State). LeavesEither new x (after x Restart)) (read_is s one.0 one.1) one.2
]

either_before : (old new : Life) (s u : State) → ReadsAsBefore old new → LeavesEither old s u → LeavesEither new s u
either_before old new s u before leaves image may = leaves image (now_leaves old new (MayLeave old.now) before.any_moment image may)

-- for want of memory, it reads as before
before_of : (old disk : Life) → HasNotOpened old disk NoMemory → ReadsAsBefore old disk
before_of old disk answer = elim answer.refuses.kept [
  | inl fault ↦ (let wrong : NoMemory ≡ DeviceFault = fault in absurd cc)
  | inr before ↦ before
]

-- an answer is another one
abbrev Is : Result Reply Refusal → Result Reply Refusal → Type 0
Is outcome answer = outcome ≡ answer

-- ---- opened

-- all recordings of the archive have stopped: it is the restart of a state
pub record IsRestartOf (f : Archive) : Type 0 where
  pub read : State
  pub well : IsWell read
  pub counted : ℕ
  pub limit : ℕ
  pub version : BankVersion
  pub is : f ≡ opened_archive (after read Restart) counted limit version

-- the archive that was closed so is open
pub record Again (old : Life) (engine : EngineState) (before : Standing) (b : Banks) (reply : Reply) : Type 0 where
  pub archive : Archive
  pub keeps : KeepsArchive engine archive
  pub restart : IsRestartOf archive
  pub ends : OpensShut old before b (Ok reply) (scene_at (Open engine) (opened archive) (banks_of engine.log))

again_done : (old : Life) (engine : EngineState) (before : Standing) (b : Banks) (reply : Reply) → Again old engine before b reply → Done (Open engine) (OpensShut old before b (Ok reply))
again_done old engine before b reply is =
    (scene_at (Open engine) (opened is.archive) (banks_of engine.log), at_scene (Open engine) (opened is.archive) (banks_of engine.log) is.keeps refl, is.ends)

-- of a state that is certain
certain_again : (old : Life) (engine : EngineState) (stopped : ℤ) (a : Archive) (b : Banks) → LeavesArchive old a → LeavesBanks old b → ReadsMayStay old → HasOpened old engine stopped → IsTrue engine.life.obeys
    → Again old engine (closed a) b (Reopened stopped)
certain_again old engine stopped a b leaves banks may answer obeys =
    let o = answer.opened a.state a.state (leaves_one old a leaves) obeys in
    let same = read_is a.state o.read o.is in
    let recovers = leaves.recovers (reads old.now) may in
    record {
      archive = reopened a;
      keeps = opened_keeps old engine stopped a.state a.state o a.state (reopened a) (reopened_fresh old (reads old.now) a leaves (leaves.catalogue (reads old.now) may)) same;
      restart = record { read = a.state; well = recovers.well; counted = a.desk.counted; limit = a.desk.limit; version = a.desk.version; is = refl };
      ends = (
        (ap (λ (n : ℤ). Reopened n) (o.stopped ∙ ap (λ (x : State). pos (active_count x)) same), refl),
        told_once (reads old.now) (banks_of engine.log) b (answer.banks obeys) (banks (reads old.now) may),
        near_one old engine.life a (opened (reopened a)) o.any_moment,
      );
    }

-- of one of two states
either_again : (old : Life) (engine : EngineState) (stopped : ℤ) (s u : State) (b : Banks) → LeavesEither old s u → HasOpened old engine stopped → IsTrue engine.life.obeys → Again old engine (doubtful s u) b (Reopened stopped)
either_again old engine stopped s u b leaves answer obeys =
    let o = answer.opened s u leaves obeys in
    record {
      archive = o.archive;
      keeps = record { desk = o.desk; consistent = o.consistent };
      restart = record { read = o.read; well = o.recovers.well; counted = count_by counts o.fresh.entries; limit = o.fresh.header.history_limit; version = o.fresh.header.version; is = o.fresh.is };
      ends = (
        record { read = o.read; is = o.is; recovers = o.recovers; stopped = o.stopped; fresh = o.fresh },
        answer.banks obeys,
        near_either old engine.life s u (opened o.archive) o.any_moment,
      );
    }

-- of an archive that was open
pub opened_anew : (old : Life) (engine : EngineState) (stopped : ℤ) (a : Archive) (o : Option State) (b : Banks) → LeavesShut old (closed_in a o) → LeavesBanksOf old (closed_in a o) b → ReadsMayStay old → HasOpened old engine stopped
    → IsTrue engine.life.obeys → Again old engine (closed_in a o) b (Reopened stopped)
opened_anew old engine stopped a None b leaves banks may answer obeys = certain_again old engine stopped a b leaves banks may answer obeys
opened_anew old engine stopped a (Some u) b leaves banks may answer obeys = either_again old engine stopped a.state u b leaves answer obeys

-- whatever stands
open_done : (old : Life) (engine : EngineState) (stopped : ℤ) (before : Standing) (b : Banks) → LeavesShut old before → LeavesBanksOf old before b → ReadsMayStay old → HasOpened old engine stopped → IsTrue engine.life.obeys
    → Done (Open engine) (OpensShut old before b (Ok (Reopened stopped)))
open_done old engine stopped (opened a) b leaves banks may answer obeys = absurd leaves
open_done old engine stopped (closed a) b leaves banks may answer obeys = again_done old engine (closed a) b (Reopened stopped) (certain_again old engine stopped a b leaves banks may answer obeys)
open_done old engine stopped (doubtful s u) b leaves banks may answer obeys = again_done old engine (doubtful s u) b (Reopened stopped) (either_again old engine stopped s u b leaves answer obeys)
open_done old engine stopped (refused image why) b leaves banks may answer obeys = let desk = answer.desk obeys in absurd (no_catalogue old why desk.header desk.entries leaves.0 desk.catalogue)
open_done old engine stopped unknown b leaves banks may answer obeys =
    (scene_at (Open engine) unknown (banks_of engine.log), at_scene (Open engine) unknown (banks_of engine.log) tt refl, (refl, tt, tt))

-- ---- refused

-- a closed archive's scene
closed_done : (old disk : Life) (before : Standing) (b : Banks) (refusal : Refusal) (t : Standing) → LeavesShut disk t → LeavesBanksOf disk t b → OpensShut old before b (Err refusal) (scene_at (Closed disk) t b)
    → Done (Closed disk) (OpensShut old before b (Err refusal))
closed_done old disk before b refusal t stands told ends = (scene_at (Closed disk) t b, at_scene (Closed disk) t b stands told, ends)

-- such a disk is refused by a fault or for want of memory alone
by_refusal : (old disk : Life) (before : Standing) (b : Banks) (refusal : Refusal) → (HasNotOpened old disk DeviceFault → Done (Closed disk) (OpensShut old before b (Err DeviceFault)))
    → (HasNotOpened old disk NoMemory → Done (Closed disk) (OpensShut old before b (Err NoMemory))) → (refusal ≡ DeviceFault) ⊎ (refusal ≡ NoMemory) → HasNotOpened old disk refusal → Done (Closed disk) (OpensShut old before b (Err refusal))
by_refusal old disk before b refusal fault want is answer = elim is [
  | inl is ↦ subst (λ (r : Refusal). HasNotOpened old disk r → Done (Closed disk) (OpensShut old before b (Err r))) (sym is) fault answer
  | inr is ↦ subst (λ (r : Refusal). HasNotOpened old disk r → Done (Closed disk) (OpensShut old before b (Err r))) (sym is) want answer
]

certain_refused : (old disk : Life) (a : Archive) (b : Banks) (refusal : Refusal) → LeavesArchive old a → LeavesBanks old b → HasNotOpened old disk refusal → IsTrue disk.obeys → Done (Closed disk) (OpensShut old (closed a) b (Err refusal))
certain_refused old disk a b refusal leaves banks answer obeys =
    let whole = answer.whole a.state a.state (leaves_one old a leaves) obeys in
    let not = whole.0 in
    let restarted = after a.state Restart in
    by_refusal old disk (closed a) b refusal
    (λ shut. closed_done old disk (closed a) b DeviceFault (doubtful a.state restarted) (certain_fault old disk a.state not) tt ((shut.refuses.cause refl, refl), refl, near_one old disk a (doubtful a.state restarted) not.any_moment))
    (λ shut.
    let before = before_of old disk shut in
    closed_done old disk (closed a) b NoMemory (closed a) (stays_closed old disk a leaves before) (banks_stay old disk b banks before) (refl, refl, near_one old disk a (closed a) not.any_moment))
    whole.1 answer

either_refused : (old disk : Life) (s u : State) (b : Banks) (refusal : Refusal) → LeavesEither old s u → HasNotOpened old disk refusal → IsTrue disk.obeys → Done (Closed disk) (OpensShut old (doubtful s u) b (Err refusal))
either_refused old disk s u b refusal leaves answer obeys =
    let whole = answer.whole s u leaves obeys in
    let not = whole.0 in
    let left = fault_leaves old disk s u not in
    by_refusal old disk (doubtful s u) b refusal
    (λ shut. closed_done old disk (doubtful s u) b DeviceFault (doubtful left.0 left.1) left.2 tt ((shut.refuses.cause refl, left.3), refl, near_either old disk s u (doubtful left.0 left.1) not.any_moment))
    (λ shut. closed_done old disk (doubtful s u) b NoMemory (doubtful s u) (either_before old disk s u (before_of old disk shut) leaves) tt (refl, refl, near_either old disk s u (doubtful s u) not.any_moment))
    whole.1 answer

-- a refused catalogue
refused_again : (old disk : Life) (image : DiskImage) (why : Refusal) (b : Banks) (refusal : Refusal) → IsRefused old image why → HasNotOpened old disk refusal → IsTrue disk.obeys
    → Done (Closed disk) (OpensShut old (refused image why) b (Err refusal))
refused_again old disk image why b refusal is answer obeys =
    elim (refused_once old why refusal is.0 (answer.refuses.catalogue obeys)) [
      | inl same ↦ stays_refused (λ fault. not_fault (sym same ∙ fault)) (inl (ap (λ (r : Refusal). Err r) same))
      | inr (inl memory) ↦ stays_refused (λ fault. let wrong : NoMemory ≡ DeviceFault = sym memory ∙ fault in absurd cc) (inr (ap (λ (r : Refusal). Err r) memory))
      | inr (inr fault) ↦ closed_done old disk (refused image why) b refusal unknown tt tt (inr (ap (λ (r : Refusal). Err r) fault, answer.refuses.cause fault, refl), tt, inl refl)
    ]
  where
    not_fault : why ≡ DeviceFault → ⊥
    not_fault same = subst (IsRefusedBy old) same is.0

    stays_refused : (refusal ≡ DeviceFault → ⊥) → Is (Err refusal) (Err why) ⊎ Is (Err refusal) (Err NoMemory) → Done (Closed disk) (OpensShut old (refused image why) b (Err refusal))
    stays_refused other refuses =
        let before : ReadsAsBefore old disk = elim answer.refuses.kept [ inl fault ↦ absurd (other fault) | inr before ↦ before ] in
        closed_done old disk (refused image why) b refusal (refused image why) (refused_still old disk image why before.same is) tt (inl (refuses, refl), refl, inr before.any_moment)

shut_done : (old disk : Life) (refusal : Refusal) (before : Standing) (b : Banks) → LeavesShut old before → LeavesBanksOf old before b → HasNotOpened old disk refusal → IsTrue disk.obeys → Done (Closed disk) (OpensShut old before b (Err refusal))
shut_done old disk refusal (opened a) b leaves banks answer obeys = absurd leaves
shut_done old disk refusal (closed a) b leaves banks answer obeys = certain_refused old disk a b refusal leaves banks answer obeys
shut_done old disk refusal (doubtful s u) b leaves banks answer obeys = either_refused old disk s u b refusal leaves answer obeys
shut_done old disk refusal (refused image why) b leaves banks answer obeys = refused_again old disk image why b refusal leaves answer obeys
shut_done old disk refusal unknown b leaves banks answer obeys = closed_done old disk unknown b refusal unknown tt tt (refl, tt, tt)

-- ---- a disk is opened, whatever was closed on it

pub opens_done : (old : Life) (new : SeenArchive) (before : Standing) (b : Banks) (outcome : Result Reply Refusal) → LeavesShut old before → LeavesBanksOf old before b → ReadsMayStay old → IsTrue (life_of new).obeys → OpensDisk old outcome new
    → Done new (OpensShut old before b outcome)
opens_done old (Open engine) before b (Ok reply) leaves banks may obeys (stopped, is, answer) =
    subst (λ (r : Reply). Done (Open engine) (OpensShut old before b (Ok r))) (sym is) (open_done old engine stopped before b leaves banks may answer obeys)
opens_done old (Closed disk) before b (Ok reply) leaves banks may obeys opens = absurd opens
opens_done old (Open engine) before b (Err refusal) leaves banks may obeys opens = absurd opens
opens_done old (Closed disk) before b (Err refusal) leaves banks may obeys answer = shut_done old disk refusal before b leaves banks answer obeys
