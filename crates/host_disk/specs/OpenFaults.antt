-- Why a folder is not opened, by what the system answers to its path. docs/STORAGE.md, "Folders".
use Rattle.std.specs.declared.io.ErrorKind.{ErrorKind}
use Rattle.std.specs.declared.io.ErrorKind.TheVariants as kind
use Rattle.host_disk.specs.declared.open_fault.OpenFault.{OpenFault}
use Rattle.host_disk.specs.declared.open_fault.OpenFault.TheVariants.{Missing, NoFolder, Denied, NoMemory, Device}

abbrev pub open_fault_of : ErrorKind → OpenFault
open_fault_of kind.NotFound = Missing
open_fault_of kind.NotADirectory = NoFolder
open_fault_of kind.PermissionDenied = Denied
open_fault_of kind.OutOfMemory = NoMemory
open_fault_of _ = Device
