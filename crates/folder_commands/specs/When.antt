-- What `when` prints, and how it ends: docs/CONTROL.md, "When a frame was recorded".
use Rattle.std.specs.Prelude.{◌≡◌, ◌⊎◌, ℕ, true, false, List, Option, Some, None}
use Rattle.clap.specs.declared.error.ErrorKind.TheVariants.{ValueValidation}
use Rattle.frame_core.specs.declared.refusal.Refusal.TheVariants.{BadParameter, DeviceFault, UnknownRecording}
use Rattle.tool_core.specs.declared.fault.EarlyEnd.TheVariants as ends
use Rattle.recorded_times.specs.Answer.{HasAnsweredWhen}
use Rattle.recorded_times.specs.Moments.{moment_of}
use Rattle.folder_commands.specs.declared.status.Ending.{Ending}
use Rattle.folder_commands.specs.declared.status.Ending.TheVariants.{Done, Cut, NoneBefore, NoCommand, Refused}

-- no file fits the recording, several do, or it can't be read
abbrev pub IsNoFile : Ending → Type 0
IsNoFile ending = (ending ≡ Refused UnknownRecording) ⊎ ((ending ≡ Refused BadParameter) ⊎ (ending ≡ Refused DeviceFault))

module _ (bytes : Option (List ℕ)) (time : ℕ) (contents written : Option (List ℕ)) where
  -- what a file with these bytes, if they are known, has at the time was printed: a position, or that there is none before it
  abbrev pub LooksUpIn : Ending → Type 0
  LooksUpIn Done = HasAnsweredWhen bytes time contents written true
  LooksUpIn NoneBefore = HasAnsweredWhen bytes time contents written false
  LooksUpIn (Refused DeviceFault) = written ≡ contents
  LooksUpIn (Cut ends.Memory) = written ≡ contents
  LooksUpIn (Cut ends.Write) = Unit {0}
  LooksUpIn ending = ⊥

-- `when`: the word names no time, and nothing is printed; or it names one, and that is looked up in a file whose bytes nobody knows, or
-- there is no one file, and nothing is printed
abbrev pub LooksUp : List ℕ → Option (List ℕ) → Option (List ℕ) → Ending → Type 0
LooksUp word contents written ending =
    ((ending ≡ NoCommand ValueValidation) × (moment_of word ≡ None) × (written ≡ contents))
    ⊎ ((time : ℕ) × (moment_of word ≡ Some time) × ((IsNoFile ending × (written ≡ contents)) ⊎ LooksUpIn None time contents written ending))
