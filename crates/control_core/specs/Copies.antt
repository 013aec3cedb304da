-- Replies whose copies take memory: docs/CONTROL.md, "Lines".
use Rattle.archive_model.specs.declared.reply.Reply.{Reply}
use Rattle.archive_model.specs.declared.reply.Reply.TheVariants as replies

-- the reply holds texts, frames or positions of several recordings
abbrev pub IsLong : Reply → Type 0
IsLong (replies.Recordings all) = Unit {0}
IsLong (replies.Polled frames next) = Unit {0}
IsLong (replies.Taken frame) = Unit {0}
IsLong (replies.Source text) = Unit {0}
IsLong (replies.SettledAll positions) = Unit {0}
IsLong reply = ⊥
