-- What the words of a command line lead to, and how the program ends: docs/CONTROL.md, "The program".
use Rattle.std.specs.Prelude.{◌≡◌, ◌⊎◌, ℕ, List, Option, None}
use Rattle.clap.specs.declared.error.ErrorKind.{ErrorKind}
use Rattle.clap.specs.declared.error.ErrorKind.TheVariants.{OutOfMemory}
use Rattle.clap.specs.Words.{Text, fault_of}
use Rattle.disk_core.specs.Life.{Life}
use Rattle.host_disk.specs.Events.{Given}
use Rattle.command_line.specs.declared.command.ToolCommand.{ToolCommand}
use Rattle.command_line.specs.CommandLine.{IsHeld, IsWordsFault, tool_app}
use Rattle.folder_commands.specs.declared.status.Ending.{Ending}
use Rattle.folder_commands.specs.declared.status.Ending.TheVariants.{NoCommand, Failed}
use Rattle.folder_commands.specs.Obeying.{HasObeyed}

-- an error of this kind was told; or there was no memory for its text, or its stream failed
abbrev pub ReportsKind : ErrorKind → Ending → Type 0
ReportsKind kind (NoCommand told) = (told ≡ kind) ⊎ (told ≡ OutOfMemory)
ReportsKind kind (Failed fault) = Unit {0}
ReportsKind kind ending = ⊥

module _ (given : Given) (words : List Text) (input contents written : Option (List ℕ)) where
  -- the words hold a command, which was obeyed
  abbrev pub HoldsObeyed : Option Life → Option Life → Ending → Type 0
  HoldsObeyed looked left ending = (command : ToolCommand) × IsHeld words command × HasObeyed given input contents written command looked left ending

  -- they hold none, and what clap says of them was told; want of memory is told of any words
  abbrev pub HoldsNone : Option Life → Ending → Type 0
  HoldsNone left ending = (kind : ErrorKind) × IsWordsFault (fault_of tool_app words) kind
      × ((command : ToolCommand) → IsHeld words command → kind ≡ OutOfMemory)
      × ReportsKind kind ending × (left ≡ None) × (written ≡ contents)

  abbrev pub AnswersWords : Option Life → Option Life → Ending → Type 0
  AnswersWords looked left ending = HoldsObeyed looked left ending ⊎ HoldsNone left ending
