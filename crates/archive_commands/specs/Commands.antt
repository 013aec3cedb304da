-- What `create`, `compact`, `list` and `verify` do over a disk and a writer, whatever the disk holds and does: docs/CONTROL.md, "The program".
use Rattle.std.specs.Prelude.{◌≡◌, ◌⊎◌, ℕ, ℤ, pos, List, Option}
use Rattle.std.specs.Io.KnownBytes.{Appends}
use Rattle.frame_core.specs.declared.refusal.Refusal.{Refusal}
use Rattle.frame_core.specs.declared.refusal.Refusal.TheVariants.{UnknownRecording}
use Rattle.disk_core.specs.Life.{Life}
use Rattle.archive_model.specs.declared.reply.Reply.TheVariants.{Recordings}
use Rattle.control_core.specs.Decisions.{listed}
use Rattle.control_lines.specs.ReplyText.{reply_text}
use Rattle.engine_core.specs.Consistent.{KeepsArchive}
use Rattle.engine_core.specs.Engine.{EngineState, new_archive}
use Rattle.engine_core.specs.Opened.{HasNotOpened, HasOpened}
use Rattle.engine_core.specs.Opening.{IsMadeIn, RefusesNew}
use Rattle.archive_commands.specs.declared.commands.Stop.{Stop}
use Rattle.archive_commands.specs.declared.commands.Stop.TheVariants.{Refused, Cut}
use Rattle.tool_core.specs.declared.fault.EarlyEnd.{EarlyEnd}
use Rattle.tool_core.specs.declared.fault.EarlyEnd.TheVariants as ends
use Rattle.archive_commands.specs.declared.reports.Verdict.{Verdict}
use Rattle.tool_core.specs.Answering.{FailsToAnswer}
use Rattle.tool_core.specs.Archives.{HasCompacted, HasNotCompacted}
use Rattle.archive_commands.specs.Reports.{AnswersEach, KnowsAsked, HasReported, HasReportedFirst, LacksAsked, ids_asked}

-- the reply of the line `list 0 1024` over an engine's recordings
abbrev pub list_text : EngineState → List ℕ
list_text engine = reply_text (Recordings (listed (pos 0) (pos 1024) engine.desk.register.recordings))

-- ---- create

-- an archive without recordings was made, with this limit of its history, and the disk leaves it
pub record IsCreated (limit : ℕ) (old new : Life) : Type 0 where
  pub engine : EngineState
  pub made : IsMadeIn old engine.life limit
  pub keeps : KeepsArchive engine (new_archive limit)
  pub left : new ≡ engine.life

-- it was not made, and nothing is written; or it was, and the writer failed
abbrev pub FailsToCreate : ℕ → Life → Life → Stop → Option (List ℕ) → Option (List ℕ) → Type 0
FailsToCreate limit old new (Refused refusal) contents written = RefusesNew old new limit refusal × (written ≡ contents)
FailsToCreate limit old new (Cut ends.Write) contents written = IsCreated limit old new
FailsToCreate limit old new (Cut end) contents written = ⊥

-- ---- compact

-- It was not opened, or its catalogue not written anew, and nothing is written; or it was, and the writer failed.
abbrev pub FailsToCompact : Life → Life → Stop → Option (List ℕ) → Option (List ℕ) → Type 0
FailsToCompact old new (Refused refusal) contents written = HasNotCompacted old new refusal × (written ≡ contents)
FailsToCompact old new (Cut ends.Write) contents written = HasCompacted old new
FailsToCompact old new (Cut end) contents written = ⊥

-- ---- openings

-- the archive was opened
abbrev pub IsOpenedBy : Life → EngineState → Type 0
IsOpenedBy old engine = (stopped : ℤ) × HasOpened old engine stopped

-- it was not
abbrev pub IsUnopenedBy : Life → Life → Stop → Type 0
IsUnopenedBy old new (Refused refusal) = HasNotOpened old new refusal
IsUnopenedBy old new (Cut end) = ⊥

-- ---- list

-- the archive was opened, and its recordings are written
pub record HasListed (old new : Life) (contents written : Option (List ℕ)) : Type 0 where
  pub engine : EngineState
  pub opened : IsOpenedBy old engine
  pub left : new ≡ engine.life
  pub told : Appends contents written (list_text engine)

-- the archive was opened, and what is written is cut
pub record HasListedSome (old new : Life) (contents written : Option (List ℕ)) (end : EarlyEnd) : Type 0 where
  pub engine : EngineState
  pub opened : IsOpenedBy old engine
  pub left : new ≡ engine.life
  pub told : FailsToAnswer end contents written

-- it was not opened, and nothing is written; or it was
abbrev pub FailsToList : Life → Life → Stop → Option (List ℕ) → Option (List ℕ) → Type 0
FailsToList old new (Refused refusal) contents written = IsUnopenedBy old new (Refused refusal) × (written ≡ contents)
FailsToList old new (Cut end) contents written = HasListedSome old new contents written end

-- ---- verify

module _ (asked : Option ℤ) where
  -- the archive was opened, each of its recordings verified, or the one that was asked for, and the answers are written
  pub record HasVerifiedOpened (old new : Life) (contents written : Option (List ℕ)) (verdict : Verdict) : Type 0 where
    pub opened : EngineState
    pub opens : IsOpenedBy old opened
    pub there : KnowsAsked asked opened.desk
    pub last : EngineState
    pub reported : HasReported AnswersEach (ids_asked asked opened.desk) opened last contents written verdict
    pub left : new ≡ last.life

  -- the first of them were
  pub record HasVerifiedFirst (old new : Life) (contents written : Option (List ℕ)) (end : EarlyEnd) : Type 0 where
    pub opened : EngineState
    pub opens : IsOpenedBy old opened
    pub there : KnowsAsked asked opened.desk
    pub last : EngineState
    pub reported : HasReportedFirst AnswersEach (ids_asked asked opened.desk) opened last contents written end
    pub left : new ≡ last.life

  -- the archive was opened, and lacks the recording that was asked for
  pub record OpensWithout (old new : Life) (refusal : Refusal) : Type 0 where
    pub opened : EngineState
    pub opens : IsOpenedBy old opened
    pub absent : LacksAsked asked opened.desk
    pub left : new ≡ opened.life
    pub is : refusal ≡ UnknownRecording

  -- it was not opened, or lacks the recording, and nothing is written; or its recordings were verified
  abbrev pub FailsToVerify : Life → Life → Stop → Option (List ℕ) → Option (List ℕ) → Type 0
  FailsToVerify old new (Refused refusal) contents written =
      (IsUnopenedBy old new (Refused refusal) ⊎ OpensWithout old new refusal) × (written ≡ contents)
  FailsToVerify old new (Cut end) contents written = HasVerifiedFirst old new contents written end
