-- What the command of these words did.
use Rattle.std.proofs.Common.{refl}
use Rattle.folder_commands.proofs.commands.obey.Goals as goal

pub returns-in-Serve : goal.returns-in-Serve
returns-in-Serve g c = rw c.in-Serve.is (c.serve.ensures, refl)

pub returns-in-Create : goal.returns-in-Create
returns-in-Create g c = rw c.in-Create.is c.create.ensures

pub returns-in-Export : goal.returns-in-Export
returns-in-Export g c = rw c.in-Export.is c.export.ensures
