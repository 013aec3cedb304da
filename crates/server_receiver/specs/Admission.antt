-- What the senders of images are admitted: docs/PROTOCOL.md, "Status messages and NAKs of a receiver".
use Rattle.std.specs.Prelude.{◌-◌, ◌/◌, ℕ, ℤ, pos, nat_le, unsigned_abs, Bool, true, false, Option, None, Some}
use Rattle.std.specs.Int.{int_max, int_min}
use Rattle.frame_core.specs.declared.geometry.Geometry.{Geometry}
use Rattle.image_core.specs.Received.{Received}
use Rattle.flow_control.specs.Feedback.{told_position}
use Rattle.flow_control.specs.Windows.{five_sixteenths, settled_bound}
use Rattle.server_receiver.specs.declared.admission.Admission.{Admission}
use Rattle.server_receiver.specs.declared.admission.Course.{Course}
use Rattle.server_receiver.specs.declared.admission.Course.TheVariants.{Begins, IsSettledTo, Waits}
use Rattle.server_receiver.specs.declared.senders.Receiver.{Receiver}

-- The greatest window of a publication, in bytes: the receiver's, but at most five sixteenths of a term.
abbrev pub most_for : Receiver → Geometry → ℤ
most_for receiver g = int_min receiver.window (pos (five_sixteenths g))

-- a position, or the beginning of the stream if it is before that
abbrev pub from_zero : ℤ → ℕ
from_zero position = unsigned_abs (int_max position (pos 0))

-- What the sender of an image is admitted: a frame of the longest kind if a recording begins with the first one; nothing past
-- five sixteenths of a term after what is settled, if a session records it; and else nothing.
abbrev pub admission_of : Receiver → Geometry → Course → Option Admission
admission_of receiver g Waits = None
admission_of receiver g Begins = Some (record { most = int_min g.mtu (most_for receiver g); bound = None })
admission_of receiver g (IsSettledTo position) =
    Some (record { most = most_for receiver g; bound = Some (settled_bound g (most_for receiver g) (from_zero position)) })

-- a sender is held back by what is not settled: the named position lies a quarter of the window or more before the consumed one
abbrev pub is_sender_held : Received → Admission → Bool
is_sender_held image a = nat_le (unsigned_abs a.most / 4) (image.from - told_position image a.bound)

-- an image whose sender was admitted one frame is recorded
abbrev pub has_opened : Course → Course → Bool
has_opened Begins (IsSettledTo position) = true
has_opened before course = false
