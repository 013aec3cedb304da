-- How the frames of a poll are handed on: docs/CONTROL.md, "Replays".
use Rattle.std.specs.Prelude.{ℤ, List, Option, Result, Ok, Err}
use Rattle.frame_core.specs.declared.frame.Frame.{Frame}
use Rattle.frame_core.specs.declared.refusal.Refusal.{Refusal}
use Rattle.archive_model.specs.declared.reply.PolledFrame.{PolledFrame}
use Rattle.archive_model.specs.declared.reply.Reply.{Reply}
use Rattle.archive_model.specs.declared.reply.Reply.TheVariants.{Polled}
use Rattle.recording_reads.specs.Handing.{TakesEach, TakesSome}

-- A poll was answered by its frames, which a taker took, and by where it goes on. Or it was refused, and a taker may have
-- taken some frames.
abbrev pub HandsPolled : {T : Type 0} → (T → ℤ → Frame → T → Type 0) → (T → T → Type 0) → T → T → (Result Reply Refusal → Type 0) → Result (Option ℤ) Refusal → Type 0
HandsPolled takes leaves old new Answered (Ok next) = (frames : List PolledFrame) × TakesEach takes old frames new × Answered (Ok (Polled frames next))
HandsPolled takes leaves old new Answered (Err refusal) = TakesSome takes leaves old new × Answered (Err refusal)
