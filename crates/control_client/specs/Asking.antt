-- What a server was asked, and what is printed of its replies.
use Rattle.std.specs.Prelude.{◌≡◌, ◌⊎◌, ◌++◌, ℕ, List, [], Option, Some, None}
use Rattle.std.specs.List.{All, concat}
use Rattle.std.specs.Io.KnownBytes.{Appends}
use Rattle.control_client.specs.declared.answer.Verdict.{Verdict}
use Rattle.control_client.specs.declared.fault.AskFault.{AskFault}
use Rattle.control_client.specs.declared.fault.AskFault.TheVariants.{Output}
use Rattle.control_client.specs.Lines.{text_of}
use Rattle.control_client.specs.Replies.{answer_of, verdict_after}

-- the bytes are all that a reader had left, if it is known what it had
abbrev pub GivesAll : Option (List ℕ) → List ℕ → Type 0
GivesAll None came = Unit {0}
GivesAll (Some left) came = came ≡ left

-- the bytes are the first ones that it had left
abbrev pub GivesFirst : Option (List ℕ) → List ℕ → Type 0
GivesFirst None came = Unit {0}
GivesFirst (Some left) came = (more : List ℕ) × (left ≡ came ++ more)

-- ---- one connection

module _ (left contents written : Option (List ℕ)) where
  -- all that a reader had left was printed
  pub record HasPrinted (came : List ℕ) : Type 0 where
    pub all : GivesAll left came
    pub printed : Appends contents written came

  -- the first bytes of it were
  pub record HasPrintedFirst (came : List ℕ) : Type 0 where
    pub first : GivesFirst left came
    pub printed : Appends contents written came

  -- what was printed before a fault; nothing is said of a writer that failed
  abbrev pub PrintsUpTo : AskFault → Type 0
  PrintsUpTo Output = Unit {0}
  PrintsUpTo fault = (came : List ℕ) × HasPrintedFirst came

-- ---- a server, which gives such readers as answers to a text

module _ (answers : List ℕ → Option (List ℕ) → Type 0) (text : List ℕ) where
  -- the bytes are all that the server answered to the text
  abbrev pub IsReply : List ℕ → Type 0
  IsReply came = (left : Option (List ℕ)) × answers text left × GivesAll left came

  -- they are the first ones that it answered, or there is none
  abbrev pub IsReplyBegun : List ℕ → Type 0
  IsReplyBegun came = (came ≡ []) ⊎ ((left : Option (List ℕ)) × answers text left × GivesFirst left came)

  -- all that it answered on one connection was printed, and ends asking so, or not
  pub record EndsOnce (asked : List (List ℕ)) (until : Option (List ℕ)) (contents written : Option (List ℕ)) (verdict : Option Verdict) : Type 0 where
    pub came : List ℕ
    pub reply : IsReply came
    pub printed : Appends contents written came
    pub ends : verdict ≡ verdict_after (answer_of asked until came)

  -- the first bytes of it were printed before a fault; nothing is said of a writer that failed
  abbrev pub FailsOnce : Option (List ℕ) → Option (List ℕ) → AskFault → Type 0
  FailsOnce contents written Output = Unit {0}
  FailsOnce contents written fault = (came : List ℕ) × IsReplyBegun came × Appends contents written came

module _ (answers : List ℕ → Option (List ℕ) → Type 0) (asked : List (List ℕ)) (until : Option (List ℕ)) where
  -- how asking ends by the bytes that came on one connection, or that it goes on
  abbrev pub verdict_by : List ℕ → Option Verdict
  verdict_by came = verdict_after (answer_of asked until came)

  -- such bytes were all replies to the asked lines, on connections by which asking goes on
  abbrev pub GoOn : List (List ℕ) → Type 0
  GoOn = All (λ came. IsReply answers (text_of asked) came × (verdict_by came ≡ None))

  -- The lines were sent on one connection after another, and all that came was printed. The last connection ends asking so, and
  -- no earlier one ends it.
  pub record HasAsked (contents written : Option (List ℕ)) (verdict : Verdict) : Type 0 where
    pub earlier : List (List ℕ)
    pub came : List ℕ
    pub each : GoOn earlier
    pub last : IsReply answers (text_of asked) came
    pub printed : Appends contents written (concat earlier ++ came)
    pub ends : verdict_by came ≡ Some verdict

  -- the same up to a fault
  pub record HasAskedSome (contents written : Option (List ℕ)) : Type 0 where
    pub earlier : List (List ℕ)
    pub came : List ℕ
    pub each : GoOn earlier
    pub last : IsReplyBegun answers (text_of asked) came
    pub printed : Appends contents written (concat earlier ++ came)

  -- nothing is said of a writer that failed
  abbrev pub AsksUpTo : Option (List ℕ) → Option (List ℕ) → AskFault → Type 0
  AsksUpTo contents written Output = Unit {0}
  AsksUpTo contents written fault = HasAskedSome contents written
