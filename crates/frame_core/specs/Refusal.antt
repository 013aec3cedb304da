-- The refusals' numbers: docs/CONTROL.md, "Refusals".
use Rattle.std.specs.Prelude.{ℕ}
use Rattle.frame_core.specs.declared.refusal.Refusal.{Refusal}
use Rattle.frame_core.specs.declared.refusal.Refusal.TheVariants.{UnknownRecording, ActiveRecording, NotActive, ActiveReplay, BadPosition, BadExtension, MaxRecordings, MaxReplays, UnknownReplay, BadParameter, HistoryFull, StaleSession, BadBlock, NeedSettle, Damaged, Broken, DeviceFault, NoMemory, NotCatalogue, NewerVersion, BadFrame, BadLine, NeedCompact}

-- the number that the control lines print
abbrev pub number_of : Refusal → ℕ
number_of UnknownRecording = 1
number_of ActiveRecording = 2
number_of NotActive = 3
number_of ActiveReplay = 4
number_of BadPosition = 5
number_of BadExtension = 6
number_of MaxRecordings = 7
number_of MaxReplays = 8
number_of UnknownReplay = 9
number_of BadParameter = 10
number_of HistoryFull = 11
number_of StaleSession = 12
number_of BadBlock = 13
number_of NeedSettle = 14
number_of (Damaged recording position) = 15
number_of Broken = 16
number_of DeviceFault = 17
number_of NoMemory = 18
number_of NotCatalogue = 19
number_of NewerVersion = 20
number_of (BadFrame offset) = 21
number_of BadLine = 22
number_of NeedCompact = 23
