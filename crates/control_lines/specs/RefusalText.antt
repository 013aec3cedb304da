-- The text of a refusal: docs/CONTROL.md, "Refusals".
use Rattle.std.specs.Prelude.{◌++◌, ℕ, List, [], codes, decimal}
use Rattle.std.specs.Fmt.{signed_decimal}
use Rattle.frame_core.specs.Refusal.{number_of}
use Rattle.frame_core.specs.declared.refusal.Refusal.{Refusal}
use Rattle.frame_core.specs.declared.refusal.Refusal.TheVariants.{UnknownRecording, ActiveRecording, NotActive, ActiveReplay, BadPosition, BadExtension, MaxRecordings, MaxReplays, UnknownReplay, BadParameter, HistoryFull, StaleSession, BadBlock, NeedSettle, Damaged, Broken, DeviceFault, NoMemory, NotCatalogue, NewerVersion, BadFrame, BadLine, NeedCompact}

-- its name
abbrev pub name_of : Refusal → List ℕ
name_of UnknownRecording = codes "UnknownRecording"
name_of ActiveRecording = codes "ActiveRecording"
name_of NotActive = codes "NotActive"
name_of ActiveReplay = codes "ActiveReplay"
name_of BadPosition = codes "BadPosition"
name_of BadExtension = codes "BadExtension"
name_of MaxRecordings = codes "MaxRecordings"
name_of MaxReplays = codes "MaxReplays"
name_of UnknownReplay = codes "UnknownReplay"
name_of BadParameter = codes "BadParameter"
name_of HistoryFull = codes "HistoryFull"
name_of StaleSession = codes "StaleSession"
name_of BadBlock = codes "BadBlock"
name_of NeedSettle = codes "NeedSettle"
name_of (Damaged recording position) = codes "Damaged"
name_of Broken = codes "Broken"
name_of DeviceFault = codes "DeviceFault"
name_of NoMemory = codes "NoMemory"
name_of NotCatalogue = codes "NotCatalogue"
name_of NewerVersion = codes "NewerVersion"
name_of (BadFrame offset) = codes "BadFrame"
name_of BadLine = codes "BadLine"
name_of NeedCompact = codes "NeedCompact"

-- what stands behind the name: where it is damaged, or where no frame is
abbrev pub details_of : Refusal → List ℕ
details_of (Damaged recording position) = codes " " ++ (signed_decimal recording ++ (codes " " ++ signed_decimal position))
details_of (BadFrame offset) = codes " " ++ decimal offset
details_of refusal = []

-- its line, with the line's end
unfoldable pub refusal_text : Refusal → List ℕ
refusal_text refusal = codes "error " ++ decimal (number_of refusal) ++ codes " " ++ name_of refusal ++ details_of refusal ++ codes "\n"
