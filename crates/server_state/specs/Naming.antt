-- Which word of a start is wrong: docs/SERVING.md, "If `start` is `error 10 BadParameter`".
use Rattle.std.specs.Prelude.{Option, None, Result, Err}
use Rattle.frame_core.specs.declared.refusal.Refusal.{Refusal}
use Rattle.frame_core.specs.declared.refusal.Refusal.TheVariants.{BadParameter}
use Rattle.archive_model.specs.declared.reply.Reply.{Reply}
use Rattle.control_core.specs.declared.event.Event.{Event}
use Rattle.control_core.specs.declared.event.Event.TheVariants.{Ask}
use Rattle.control_core.specs.declared.request.Request.TheVariants.{Start}
use Rattle.start_faults.specs.declared.word.StartWord.{StartWord}
use Rattle.start_faults.specs.StartFaults.{wrong_word}

-- that of a call that was answered so, if it is a start that is BadParameter
abbrev pub named_word : Event → Result Reply Refusal → Option StartWord
named_word (Ask (Start fields)) (Err BadParameter) = wrong_word fields
named_word event outcome = None
