-- What is told where the words ask for no command: docs/CONTROL.md, "The program".
use Rattle.std.specs.Prelude.{◌≡◌, ℕ, List, Option}
use Rattle.std.specs.Io.KnownBytes.{Appends}
use Rattle.clap.specs.declared.error.ErrorKind.{ErrorKind}
use Rattle.clap.specs.declared.error.ErrorKind.TheVariants as kinds

-- the program's status, where the words ask for no command: 0 help and the version, 2 a wrong command line
abbrev pub words_status : ErrorKind → ℕ
words_status kinds.DisplayHelp = 0
words_status kinds.DisplayVersion = 0
words_status kind = 2

-- How the text of an error of this kind is told: help and the version on standard output, want of memory not at all, and all
-- else on standard error.
abbrev pub IsReportedBy : ErrorKind → List ℕ → Option (List ℕ) → Option (List ℕ) → Option (List ℕ) → Option (List ℕ) → Type 0
IsReportedBy kinds.OutOfMemory text output shown errors told = (shown ≡ output) × (told ≡ errors)
IsReportedBy kinds.DisplayHelp text output shown errors told = Appends output shown text × (told ≡ errors)
IsReportedBy kinds.DisplayVersion text output shown errors told = Appends output shown text × (told ≡ errors)
IsReportedBy kind text output shown errors told = (shown ≡ output) × Appends errors told text

-- it could not be: nothing is said of the stream that it was for, and the other one stays
abbrev pub FailsToReport : ErrorKind → Option (List ℕ) → Option (List ℕ) → Option (List ℕ) → Option (List ℕ) → Type 0
FailsToReport kinds.OutOfMemory output shown errors told = ⊥
FailsToReport kinds.DisplayHelp output shown errors told = told ≡ errors
FailsToReport kinds.DisplayVersion output shown errors told = told ≡ errors
FailsToReport kind output shown errors told = shown ≡ output
