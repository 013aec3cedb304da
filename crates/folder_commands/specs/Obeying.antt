-- What each command of the program does, whatever files its folder holds, and how it ends: docs/CONTROL.md, "The program".
use Rattle.std.specs.Prelude.{◌≡◌, ℕ, Bool, true, false, List, Option, Some, None}
use Rattle.std.specs.Io.KnownBytes.{Keeps}
use Rattle.disk_core.specs.Life.{Life}
use Rattle.host_disk.specs.Events.{Given}
use Rattle.command_line.specs.declared.command.ToolCommand.{ToolCommand}
use Rattle.command_line.specs.declared.command.ToolCommand.TheVariants.{Create, Run, Serve, Compact, List as AskList, Verify, Describe, Export, Frames, Ask, When}
use Rattle.folder_commands.specs.declared.status.Ending.{Ending}
use Rattle.folder_commands.specs.Asking.{AsksServer}
use Rattle.folder_commands.specs.Folders.{CompactsFolder, ListsFile, ListsFolder, MakesArchive, RunsFolder, RunsInMemory, VerifiesFolder}
use Rattle.folder_commands.specs.Looking.{DescribesFolder, ExportsFolder, ListsAsItStands, VerifiesAsItStands}
use Rattle.folder_commands.specs.Serving.{ServesFolder}
use Rattle.folder_commands.specs.Status.{handed_on}
use Rattle.folder_commands.specs.When.{LooksUp}

module _ (given : Given) (input contents written : Option (List ℕ)) (looked : Option Life) where
  -- It does what its words ask for, ends so, and leaves this of its folder: nothing if it opens none. This is the life of a folder that it
  -- looked at and left unopened for what it saw.
  abbrev pub Obeys : ToolCommand → Option Life → Ending → Type 0
  Obeys (Create folder history) left ending = MakesArchive given history contents written left ending
  Obeys (Run None checkpoints wait) left ending = RunsInMemory checkpoints input contents written ending × (left ≡ None)
  Obeys (Run (Some folder) checkpoints wait) left ending = RunsFolder checkpoints given input contents written left ending
  Obeys (Serve words) left ending = ServesFolder given words looked left ending × (written ≡ contents)
  Obeys (Compact folder wait) left ending = CompactsFolder given contents written left ending
  Obeys (AskList folder false wait) left ending = ListsFolder given contents written left ending
  Obeys (AskList folder true wait) left ending = ListsAsItStands given contents written left ending
  Obeys (Verify folder recording false wait) left ending = VerifiesFolder given recording contents written left ending
  Obeys (Verify folder recording true wait) left ending = VerifiesAsItStands given recording contents written left ending
  Obeys (Describe folder recording json) left ending = DescribesFolder given recording json contents written left ending
  Obeys (Export folder recording from to pcap) left ending =
      ExportsFolder given recording (record { from = from; to = to }) contents written left ending
  Obeys (Frames file) left ending = ListsFile contents written ending × (left ≡ None)
  Obeys (Ask words) left ending = AsksServer words contents written ending × (left ≡ None)
  Obeys (When folder recording time) left ending = LooksUp time.now contents written ending × (left ≡ None)

-- It does, and what it wrote was handed on, or could not be; the writer keeps it.
pub record HasObeyed (given : Given) (input contents written : Option (List ℕ)) (command : ToolCommand) (looked left : Option Life) (ending : Ending) : Type 0 where
  pub ended : Ending
  pub gained : Option (List ℕ)
  pub obeyed : Obeys given input contents gained looked command left ended
  pub kept : Keeps gained written
  pub is_flushed : Bool
  pub handed : ending ≡ handed_on ended is_flushed
