-- What a poll is answered: docs/CONTROL.md, "Replays".
use Rattle.std.specs.Prelude.{List, []}
use Rattle.archive_model.specs.declared.reply.PolledFrame.{PolledFrame}
use Rattle.archive_model.specs.declared.reply.Reply.{Reply}
use Rattle.archive_model.specs.declared.reply.Reply.TheVariants.{Polled}

-- the frames of a poll that was answered
abbrev pub frames_of_reply : Reply → List PolledFrame
frames_of_reply (Polled frames next) = frames
frames_of_reply reply = []
