-- What a receiver of a sending answers: docs/PROTOCOL.md, "Publications of recordings".
use Rattle.std.specs.Prelude.{ℕ, List}
use Rattle.frame_core.specs.declared.block.Publication.{Publication}
use Rattle.frame_core.specs.Nak.{HasNoNak, IsNak}
use Rattle.frame_core.specs.Status.{HasNoStatus, IsStatus}
use Rattle.server_sender.specs.declared.feedback.Feedback.{Feedback}
use Rattle.server_sender.specs.declared.feedback.Feedback.TheVariants.{Repeat, Status}

-- of which publication it is
abbrev pub publication_of : Feedback → Publication
publication_of (Status s) = record { session_id = s.session_id; stream_id = s.stream_id }
publication_of (Repeat n) = record { session_id = n.session_id; stream_id = n.stream_id }

-- a datagram is a status message, or a NAK
abbrev pub IsFeedback : List ℕ → Feedback → Type 0
IsFeedback bytes (Status s) = IsStatus bytes s
IsFeedback bytes (Repeat n) = HasNoStatus bytes × IsNak bytes n

-- it is neither
abbrev pub IsNoFeedback : List ℕ → Type 0
IsNoFeedback bytes = HasNoStatus bytes × HasNoNak bytes
