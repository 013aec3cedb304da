-- The disk is the one that comes back.
use Rattle.folder_commands.proofs.commands.run_without_folder.Goals as goal

pub returns : goal.returns
returns g c = record { disk = c.run_in_memory-done.result.0; runs = c.run_in_memory-done.ensures }
