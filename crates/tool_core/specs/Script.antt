-- A script's output is the transcript of its lines, and its disk keeps up with it, where the disk obeys the crash model.
-- docs/CONTROL.md, "Scripts"; docs/STORAGE.md, "Recovery".
use Rattle.std.specs.Prelude.{◌≡◌, ◌⊎◌, ℕ, ℤ, false, List, None, IsSome}
use Rattle.frame_core.specs.declared.refusal.Refusal.{Refusal}
use Rattle.disk_core.specs.declared.file_id.FileId.{FileId}
use Rattle.disk_core.specs.DiskImage.{reads}
use Rattle.disk_core.specs.Life.{HasFailed, LeavesOnly, Life}
use Rattle.archive_model.specs.declared.command.Command.TheVariants.{Restart}
use Rattle.archive_model.specs.Commands.{after}
use Rattle.archive_model.specs.State.{State}
use Rattle.catalogue_log.specs.LogState.{Banks, TellsBanks}
use Rattle.control_core.specs.Exact.{Archive}
use Rattle.engine_core.specs.Engine.{new_archive}
use Rattle.engine_core.specs.Opened.{IsFresh, IsNear, LeavesEither, new_banks}
use Rattle.engine_core.specs.Recovery.{Recovers, RecoversTo}
use Rattle.tool_core.specs.declared.state.ScriptState.{ScriptState}
use Rattle.tool_core.specs.Answering.{AnswersFirstLines, AnswersLines, begun_with}
use Rattle.tool_core.specs.ScriptLines.{IsRestart, Scene, Standing, StaysInDoubt, doubtful, exact_ways, opened, refused, reopened, unknown}
use Rattle.tool_core.specs.Left.{IsRefused, LeavesScene}
use Rattle.tool_core.specs.Checkpoints.{exact_checkpoints}

-- ---- the disk

-- no file is there
abbrev pub IsBlank : Life → Type 0
IsBlank life = (file : FileId) → reads life.now file ≡ None

-- The disk recovers to a state: it reads as this one, and a crash would leave this one or one other. The archive is its
-- restart, with the history that the catalogue has.
pub record RestartsDisk (life : Life) (a : Archive) : Type 0 where
  pub state : State
  pub other : State
  pub leaves : LeavesEither life state other
  pub recovers : Recovers (reads life.now) state
  pub fresh : IsFresh (reads life.now) (after state Restart) a

-- a file is there
abbrev pub HasFile : Life → Type 0
HasFile life = (file : FileId) × IsSome (reads life.now file)

-- what is opened of a disk: the restart of what it recovers to, or why there is no archive
abbrev pub OpensStanding : Life → Standing → Type 0
OpensStanding life (opened a) = RestartsDisk life a
OpensStanding life (refused image why) = IsRefused life image why
OpensStanding life _ = ⊥

-- what a compaction would ask of the banks then; nothing is said where there is no archive
abbrev pub BeginsWithBanks : Life → Standing → Banks → Type 0
BeginsWithBanks life (opened a) b = TellsBanks (reads life.now) b
BeginsWithBanks life standing b = Unit {0}

-- What a script begins with: a new archive where no file is there, with its banks; else what is opened, and what a compaction
-- would ask of the banks that are there.
abbrev pub Begins : Life → Standing → Banks → Type 0
Begins life first b =
    (IsBlank life × (first ≡ opened (new_archive 1048576)) × (b ≡ new_banks))
    ⊎ (HasFile life × OpensStanding life first × BeginsWithBanks life first b)

-- a script begins with the restart of an archive, with its history and its banks
abbrev pub GoesOnFrom : Archive → Banks → Life → Type 0
GoesOnFrom a b life = Begins life (opened (reopened a)) b

-- or with the restart of one of two states, and with the history and the banks that the catalogue has
abbrev pub GoesOnFromEither : State → State → Life → Type 0
GoesOnFromEither s u life = (restarted : ℤ) × (a : Archive) × (b : Banks) × IsRestart life s u restarted a × Begins life (opened a) b

-- ---- the first opening

-- A device fault while the disk was opened leaves both its states, or one of them and its restart. While an archive is made,
-- or a refused catalogue is read, nothing is known behind it.
abbrev pub HasNotBegun : Life → Standing → Standing → Type 0
HasNotBegun old first (doubtful x y) = (s : State) × (u : State) × LeavesEither old s u × StaysInDoubt s u (doubtful x y)
HasNotBegun old (opened a) unknown = IsBlank old
HasNotBegun old (refused image why) unknown = Unit {0}
HasNotBegun old first begun = ⊥

-- The scene behind the first opening: what the script begins with; or, where a call of the disk failed, none. A crash at any
-- moment of it leaves a state that was there, or its restart.
pub record BeginsAt (old : Life) (first : Standing) (b : Banks) (begun : Scene) : Type 0 where
  pub banks : begun.banks ≡ b
  pub archive : (begun.archive ≡ first) ⊎ (HasFailed old begun.life × HasNotBegun old first begun.archive)
  pub any_moment : (s u : State) → LeavesEither old s u → LeavesOnly old begun.life (RecoversTo (IsNear s u))

-- ---- scripts

-- From this beginning on, and without a merge, the text answers lines so, and the disk is left so.
pub record IsTranscriptBy (Answer : ScriptState Scene → ScriptState Scene → List (List ℕ) → List ℕ → Type 0) (first : Standing) (banks : Banks) (old new : Life) (lines : List (List ℕ)) (text : List ℕ) : Type 0 where
  pub begun : Scene
  pub begins : BeginsAt old first banks begun
  pub last : ScriptState Scene
  pub answers : Answer (begun_with begun) last lines text
  pub left : LeavesScene new last.archive

-- the text answers all lines up to the one that quits
abbrev pub IsTranscript : Standing → Banks → Life → Life → List (List ℕ) → List ℕ → Type 0
IsTranscript = IsTranscriptBy (AnswersLines exact_ways (exact_checkpoints false))

-- the same of the first of these lines
abbrev pub IsTranscriptOfFirst : Standing → Banks → Life → Life → List (List ℕ) → List ℕ → Type 0
IsTranscriptOfFirst = IsTranscriptBy (AnswersFirstLines exact_ways (exact_checkpoints false))
