-- What `ask` sends to a server, prints and comes to: docs/SERVING.md, "Control lines".
use Rattle.std.specs.Prelude.{◌≡◌, ◌⊎◌, ◌<◌, ℕ, List, Option, None, Some, option_map}
use Rattle.std.specs.Borrow.{Bor}
use Rattle.std.specs.List.{All}
use Rattle.clap.specs.declared.error.ErrorKind.TheVariants.{ValueValidation}
use Rattle.tool_core.specs.declared.fault.EarlyEnd.TheVariants as ends
use Rattle.command_line.specs.declared.asking.AskWords.{AskWords}
use Rattle.control_client.specs.declared.answer.Verdict.{Verdict}
use Rattle.control_client.specs.declared.answer.Verdict.TheVariants as verdicts
use Rattle.control_client.specs.declared.fault.AskFault.{AskFault}
use Rattle.control_client.specs.declared.fault.AskFault.TheVariants as faults
use Rattle.control_client.specs.Asking.{HasAsked, HasAskedSome}
use Rattle.control_client.specs.Lines.{AreSendable, HasNoEnd, IsAnsweredByLines, texts}
use Rattle.folder_commands.specs.declared.status.Ending.{Ending}
use Rattle.folder_commands.specs.declared.status.Ending.TheVariants.{Done, Cut, LineRefused, NoCommand, Failed}

-- ---- the words

-- a text, if there is one, is one line
abbrev pub IsOneLine : Option (Bor (List ℕ)) → Type 0
IsOneLine None = Unit {0}
IsOneLine (Some text) = HasNoEnd text.now

-- the words are wrong: the lines may not be sent at once, one asks for frames, the awaited reply is more than one line, or the port
-- is none
abbrev pub IsUnaskable : AskWords → Type 0
IsUnaskable words =
    (AreSendable (texts words.lines.items) → ⊥) ⊎ (All IsAnsweredByLines (texts words.lines.items) → ⊥) ⊎ (IsOneLine words.until → ⊥)
    ⊎ (65535 < words.port)

-- ---- how it ends

-- by a verdict
abbrev pub EndsAsking : Verdict → Ending → Type 0
EndsAsking verdicts.Answered ending = ending ≡ Done
EndsAsking verdicts.Refused ending = ending ≡ LineRefused
EndsAsking (verdicts.Unanswered left) (Failed kind) = Unit {0}
EndsAsking (verdicts.Unanswered left) ending = ⊥

-- by a fault
abbrev pub FailsAsking : AskFault → Ending → Type 0
FailsAsking faults.Output ending = ending ≡ Cut ends.Write
FailsAsking faults.Memory ending = ending ≡ Cut ends.Memory
FailsAsking (faults.Connection fault) (Failed kind) = Unit {0}
FailsAsking (faults.Connection fault) ending = ⊥

module _ (words : AskWords) (contents written : Option (List ℕ)) where
  -- the lines were sent, and what came was printed, up to this verdict; nothing is known of what a server answers
  abbrev pub AskedUpTo : Verdict → Type 0
  AskedUpTo = HasAsked (λ text left. Unit {0}) (texts words.lines.items) (option_map (λ reply. reply.now) words.until) contents written

  -- the same up to a fault
  abbrev pub AskedSome : Type 0
  AskedSome = HasAskedSome (λ text left. Unit {0}) (texts words.lines.items) (option_map (λ reply. reply.now) words.until) contents written

  -- If the words are wrong, it ends by that, and then alone; and nothing is printed. Else it ends as what came says, or by a
  -- connection or a line without a reply.
  abbrev pub AsksServer : Ending → Type 0
  AsksServer (NoCommand kind) = (kind ≡ ValueValidation) × IsUnaskable words × (written ≡ contents)
  AsksServer Done = (IsUnaskable words → ⊥) × AskedUpTo verdicts.Answered
  AsksServer LineRefused = (IsUnaskable words → ⊥) × AskedUpTo verdicts.Refused
  AsksServer (Failed kind) = (IsUnaskable words → ⊥) × (((left : ℕ) × AskedUpTo (verdicts.Unanswered left)) ⊎ AskedSome)
  AsksServer (Cut ends.Memory) = (IsUnaskable words → ⊥) × AskedSome
  AsksServer (Cut ends.Write) = IsUnaskable words → ⊥
  AsksServer ending = ⊥
