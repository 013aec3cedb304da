-- How a script's archive stands, and what its disk leaves of it.
use Rattle.std.proofs.Common.{◌≡◌, ◌∙◌, false, ap, refl, inl, inr, subst, sym, List}
use Rattle.std.specs.Prelude.{Option, Some, None, is_some, count_by}
use Rattle.frame_core.specs.declared.refusal.Refusal.{Refusal}
use Rattle.disk_core.specs.DiskImage.{DiskImage, Files, MayLeave, begun, durable}
use Rattle.disk_core.specs.Life.{Life}
use Rattle.disk_core.proofs.CallerLemmas.{durable_left}
use Rattle.archive_model.specs.State.{State}
use Rattle.catalogue_entries.specs.declared.entry.Entry.{Entry}
use Rattle.catalogue_entries.specs.Fold.{counts}
use Rattle.catalogue_log.specs.Banks.{bank_file, other_of}
use Rattle.catalogue_log.specs.LogState.{Banks, IsAtRest, LogState, TellsBanks, banks_of}
use Rattle.catalogue_log.proofs.CallerLemmas.{rest_left, told_at_rest}
use Rattle.control_core.specs.Desk.{DeskState}
use Rattle.control_core.specs.Exact.{Archive}
use Rattle.control_core.specs.Runs.{MayStand}
use Rattle.engine_core.specs.Consistent.{IsCrashConsistent, KeepsArchive}
use Rattle.engine_core.specs.Engine.{EngineState, IsTied}
use Rattle.engine_core.specs.Recovery.{IsEither, Recovers, RecoversTo}
use Rattle.tool_core.specs.Archives.{Closed, IsEngine, Open, ReadsMayStay, SeenArchive, life_of}
use Rattle.tool_core.specs.Left.{DiskLeaves, LeavesArchive, LeavesBanksOf, LeavesScene, LeavesShut}
use Rattle.tool_core.specs.ScriptLines.{Scene, Standing, closed, closed_in, doubtful, opened, refused, shut, unknown}

-- a state for another reason
pub recovers_as : (P Q : State → Type 0) (image : DiskImage) → ((s : State) → P s → Q s) → RecoversTo P image → RecoversTo Q image
recovers_as P Q image follows to = record { state = to.state; is = follows to.state to.is; recovers = to.recovers }

-- ---- scenes

-- An open archive is crash-consistent; a closed one is what its disk leaves; where there is none the disk reads as it did, and its
-- catalogue is refused.
abbrev pub IsStanding : SeenArchive → Standing → Type 0
IsStanding (Closed life) standing = LeavesShut life standing
IsStanding (Open engine) (opened a) = KeepsArchive engine a
IsStanding (Open engine) unknown = Unit {0}
IsStanding (Open engine) standing = ⊥

-- an open archive's log knows its banks; of a closed one the disk leaves them
abbrev pub IsBanksOf : SeenArchive → Standing → Banks → Type 0
IsBanksOf (Open engine) s b = b ≡ banks_of engine.log
IsBanksOf (Closed life) s b = LeavesBanksOf life s b

-- the scene of an archive that stands so
abbrev pub scene_at : SeenArchive → Standing → Banks → Scene
scene_at archive s b = record { archive = s; banks = b; life = life_of archive }

-- the scene is the archive's
pub record IsScene (archive : SeenArchive) (s : Scene) : Type 0 where
  pub stands : IsStanding archive s.archive
  pub banks : IsBanksOf archive s.archive s.banks
  pub disk : s.life ≡ life_of archive

pub at_scene : (archive : SeenArchive) (s : Standing) (b : Banks) → IsStanding archive s → IsBanksOf archive s b → IsScene archive (scene_at archive s b)
at_scene archive s b stands told = record { stands = stands; banks = told; disk = refl }

-- there is one scene of a standing with its banks
pub scene_is : (archive : SeenArchive) (s : Scene) → IsScene archive s → scene_at archive s.archive s.banks ≡ s
scene_is archive s is = ap (λ (l : Life). let x : Scene = record { archive = s.archive; banks = s.banks; life = l } in x) (sym is.disk)

-- what leads to a scene of the archive
abbrev pub Done : SeenArchive → (Scene → Type 0) → Type 0
Done new Made = (t : Scene) × IsScene new t × Made t

-- from each scene of the archive that was
pub from_scene : (old new : SeenArchive) (s : Scene) (Made : Scene → Scene → Type 0) → IsScene old s → Done new (Made (scene_at old s.archive s.banks)) → Done new (Made s)
from_scene old new s Made is done = subst (λ (x : Scene). Done new (Made x)) (scene_is old s is) done

-- ---- by cases

-- an open archive is one that the engine keeps, or nothing is known of it
pub by_open : (engine : EngineState) (P : Standing → Type 0) → ((a : Archive) → KeepsArchive engine a → P (opened a)) → P unknown → (s : Standing) → IsStanding (Open engine) s → P s
by_open engine P keeps none (opened a) stands = keeps a stands
by_open engine P keeps none (closed a) stands = absurd stands
by_open engine P keeps none (doubtful s u) stands = absurd stands
by_open engine P keeps none (refused image why) stands = absurd stands
by_open engine P keeps none unknown stands = none

-- a closed one is not open
pub by_closed : (life : Life) (P : Standing → Type 0) → ((a : Archive) → P (closed a)) → ((s u : State) → P (doubtful s u)) → ((image : DiskImage) (why : Refusal) → P (refused image why)) → P unknown
    → (s : Standing) → LeavesShut life s → P s
by_closed life P certain either none not (opened a) stands = absurd stands
by_closed life P certain either none not (closed a) stands = certain a
by_closed life P certain either none not (doubtful s u) stands = either s u
by_closed life P certain either none not (refused image why) stands = none image why
by_closed life P certain either none not unknown stands = not

-- ---- what is left

kept : (e : EngineState) (a : Archive) → IsTied e.log e.desk → KeepsArchive e a → a.doubt ≡ None → LeavesArchive e.life a
kept e a tied keeps certain =
    let was = keeps.consistent in
    let desk = keeps.desk in
    let sound = was.sound certain in
    let works : e.desk.is_broken ≡ false = ap (λ (d : DeskState). d.is_broken) desk ∙ was.archive.broken ∙ ap is_some certain in
    let counted : a.desk.counted ≡ count_by counts sound.entries = ap (λ (d : DeskState). d.counted) (sym desk) ∙ sym (tied.counted works) ∙ sound.rests.is_log.counted in
    let limit : a.desk.limit ≡ e.log.header.history_limit = ap (λ (d : DeskState). d.limit) (sym desk) ∙ sym (tied.limit works) in
    record {
      recovers = λ image left. (let to = was.images image left in subst (Recovers image) (elim to.is [ inl same ↦ same | inr doubt ↦ (let none : None ≡ Some to.state = sym certain ∙ doubt in absurd cc) ]) to.recovers);
      header = e.log.header;
      entries = sound.entries;
      catalogue = λ image left. rest_left e.life.now e.log sound.entries image sound.rests left;
      counted = counted;
      limit = limit;
      version = ap (λ (d : DeskState). d.version) (sym desk) ∙ sym (tied.version works);
    }

-- what a crash leaves of a log at rest tells its banks
told_left : (files : Files) (log : LogState) (entries : List Entry) (image : DiskImage) → IsAtRest files log entries → MayLeave files image → TellsBanks image (banks_of log)
told_left files log entries image rests left = told_at_rest (begun image) log entries (record {
  bank = rests.bank;
  is_log = rests.is_log;
  on_disk = ap durable (durable_left (Some rests.bank) (files (bank_file log.bank)) (image (bank_file log.bank)) rests.on_disk (left (bank_file log.bank)));
  other = rests.other;
  other_on_disk = ap durable (durable_left rests.other (files (bank_file (other_of log.bank))) (image (bank_file (other_of log.bank))) rests.other_on_disk (left (bank_file (other_of log.bank))));
  older = rests.older;
  spare = rests.spare;
})

-- the state in doubt is the other of two
stands_either : (a : Archive) (u x : State) → a.doubt ≡ Some u → MayStand a x → IsEither a.state u x
stands_either a u x doubt (inl same) = inl same
stands_either a u x doubt (inr other) = (let both : Some u ≡ Some x = sym doubt ∙ other in inr cc)

abbrev Leaves : Life → Standing → Banks → Type 0
Leaves life s b = LeavesShut life s × LeavesBanksOf life s b

opened_leaves : (e : EngineState) (a : Archive) (b : Banks) → IsTied e.log e.desk → KeepsArchive e a → b ≡ banks_of e.log → (o : Option State) → a.doubt ≡ o → Leaves e.life (closed_in a o) b
opened_leaves e a b tied keeps told None certain =
    let sound = keeps.consistent.sound certain in
    (kept e a tied keeps certain, λ image left. subst (TellsBanks image) (sym told) (told_left e.life.now e.log sound.entries image sound.rests left))
opened_leaves e a b tied keeps told (Some u) doubt = (λ image left. recovers_as (MayStand a) (IsEither a.state u) image (λ x stands. stands_either a u x doubt stands) (keeps.consistent.images image left), tt)

-- what is so of each archive that is open, and of each disk
abbrev pub IsOfDisk : SeenArchive → Type 0
IsOfDisk (Open engine) = IsEngine engine
IsOfDisk (Closed life) = ReadsMayStay life

pub reads_may_stay : (archive : SeenArchive) → IsOfDisk archive → ReadsMayStay (life_of archive)
reads_may_stay (Open engine) of_disk = of_disk.stays
reads_may_stay (Closed life) of_disk = of_disk

-- what the disk of an archive leaves once it is closed
pub left_of : (archive : SeenArchive) (s : Standing) (b : Banks) → IsOfDisk archive → IsStanding archive s → IsBanksOf archive s b → DiskLeaves (scene_at archive s b)
left_of (Open engine) s b of_disk stands told =
    by_open engine (λ (s : Standing). Leaves engine.life (shut s) b) (λ a keeps. opened_leaves engine a b of_disk.tied keeps told a.doubt refl) (tt, tt) s stands
left_of (Closed life) s b of_disk stands told = subst (λ (x : Standing). Leaves life x b) (sym (by_closed life (λ (s : Standing). shut s ≡ s) (λ a. refl) (λ s u. refl) (λ image why. refl) refl s stands)) (stands, told)

pub scene_left : (archive : SeenArchive) (s : Scene) → IsOfDisk archive → IsScene archive s → DiskLeaves s
scene_left archive s of_disk is = subst DiskLeaves (scene_is archive s is) (left_of archive s.archive s.banks of_disk is.stands is.banks)

pub left_as : (new : Life) (archive : SeenArchive) (s : Scene) → IsOfDisk archive → new ≡ life_of archive → IsScene archive s → LeavesScene new s
left_as new archive s of_disk left is = (is.disk ∙ sym left, scene_left archive s of_disk is)
