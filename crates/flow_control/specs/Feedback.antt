-- What the sender of an image is sent, and when: docs/PROTOCOL.md, "Status messages and NAKs of a receiver".
use Rattle.std.specs.Prelude.{◌≡◌, ◌⊎◌, ◌-◌, ◌*◌, ◌/◌, ◌^◌, ◌*ℤ◌, ◌==◌, ◌&&◌, ◌||◌, ℕ, ℤ, pos, min, nat_le, nat_lt, int_le, int_lt, not, Bool, true, false, Option, None, Some, if◌then◌else◌}
use Rattle.frame_core.specs.declared.geometry.Geometry.{Geometry}
use Rattle.frame_core.specs.declared.status.StatusMessage.{StatusMessage}
use Rattle.frame_core.specs.declared.nak.Nak.{Nak}
use Rattle.frame_core.specs.Position.{HasPosition}
use Rattle.image_core.specs.Received.{Received, rebuilt}
use Rattle.image_core.specs.Stock.{Asks, AsksNothing, asked_end}
use Rattle.flow_control.specs.declared.feedback.Feedback.{Feedback}
use Rattle.flow_control.specs.declared.feedback.SentRequest.{SentRequest}
use Rattle.flow_control.specs.declared.feedback.SentStatus.{SentStatus}
use Rattle.flow_control.specs.Windows.{has_window, receiver_window}

-- so many milliseconds or more have passed since a time
abbrev pub has_passed : ℕ → ℕ → ℕ → Bool
has_passed pause at time = nat_le pause (time - at)

-- something came less than 10,000 milliseconds ago
abbrev pub is_live : ℕ → Feedback → Bool
is_live time f = not (has_passed 10000 f.heard time)

-- ---- status messages

-- rounded down to a multiple of 32
abbrev pub rounded_down : ℕ → ℕ
rounded_down n = n / 32 * 32

-- The position that a status message of an image names: how far its stream was consumed. With a bound it is at most the greatest multiple of 32 that is not past the bound.
abbrev pub told_position : Received → Option ℕ → ℕ
told_position r None = r.from
told_position r (Some bound) = min r.from (rounded_down bound)

-- a position lies before the end of the last term, so that it has a term id: a stream has 2^31 terms
abbrev pub has_term : Geometry → ℕ → Bool
has_term g p = int_lt (pos p) (pos (2 ^ 31) *ℤ g.term_length)

-- from one position to another it is a quarter of the window or more
abbrev pub is_quarter : ℤ → ℕ → ℕ → Bool
is_quarter window from to = int_le window (pos (4 * (to - from)))

-- no status message was sent, or the last one 200 milliseconds ago or longer, or from the position that it named to the one that is named next it is a quarter of the window or more
abbrev pub is_status_time : ℕ → ℤ → ℕ → Option SentStatus → Bool
is_status_time time window told None = true
is_status_time time window told (Some last) = has_passed 200 last.at time || is_quarter window last.position told

-- a status message is due: the image is live, its publication has a window, the position that is named has a term, and it is time for it
abbrev pub is_status_due : ℕ → ℤ → Option ℕ → Received → Feedback → Bool
is_status_due time most bound r f =
    is_live time f
    && has_window r.geometry most
    && has_term r.geometry (told_position r bound)
    && is_status_time time (receiver_window r.geometry most) (told_position r bound) f.status

-- a status message of an image: how far its stream was consumed, at most up to a bound, and the window past that
pub record IsStatusOf (r : Received) (bound : Option ℕ) (bytes receiver : ℤ) (s : StatusMessage) : Type 0 where
  pub flags : s.flags ≡ 0
  pub session_id : s.session_id ≡ r.publication.session_id
  pub stream_id : s.stream_id ≡ r.publication.stream_id
  pub told : HasPosition r.geometry s.consumption_term_id s.consumption_term_offset (pos (told_position r bound))
  pub window : s.receiver_window ≡ bytes
  pub receiver_id : s.receiver_id ≡ receiver

-- after a status message that named this position
abbrev pub after_status : ℕ → ℕ → Feedback → Feedback
after_status time told f = record f { status = Some (record { at = time; position = told }) }

-- ---- NAKs

-- the gap that begins at a position was asked for by a NAK: it begins inside the NAK's range
abbrev pub was_asked : ℕ → SentRequest → Bool
was_asked gap last = nat_le last.position gap && nat_lt gap last.end

-- the gap that begins at a position was not asked for, or the pause has passed since
abbrev pub is_request_time : ℕ → ℕ → Option SentRequest → Bool
is_request_time time gap None = true
is_request_time time gap (Some last) = not (was_asked gap last) || has_passed last.pause last.at time

-- a NAK may go out for the gap of an image: the image is live, and it is time for it
abbrev pub is_request_due : ℕ → Received → Feedback → Bool
is_request_due time r f = is_live time f && is_request_time time (rebuilt r) f.request

-- how many milliseconds to wait after a NAK for the gap that begins at a position: 10 after the first one, twice as many after each further one that begins there, at most 160
abbrev pub next_pause : ℕ → Option SentRequest → ℕ
next_pause gap None = 10
next_pause gap (Some last) = if last.position == gap then min (2 * last.pause) 160 else 10

-- after a NAK for the gap of an image
abbrev pub after_request : ℕ → Received → Feedback → Feedback
after_request time r f =
    record f { request = Some (record { at = time; position = rebuilt r; end = asked_end r; pause = next_pause (rebuilt r) f.request }) }

-- ---- what is given

-- the status message that is due, or none
abbrev pub GivesStatus : ℕ → ℤ → Option ℕ → ℤ → Received → Feedback → Option StatusMessage → Feedback → Type 0
GivesStatus time most bound receiver_id r old None new = (is_status_due time most bound r old ≡ false) × (new ≡ old)
GivesStatus time most bound receiver_id r old (Some s) new =
    (is_status_due time most bound r old ≡ true)
    × IsStatusOf r bound (receiver_window r.geometry most) receiver_id s
    × (new ≡ after_status time (told_position r bound) old)

-- the NAK that is due, or none: nothing is missing for which there is room, or it is too early
abbrev pub GivesRequest : ℕ → Received → Feedback → Option Nak → Feedback → Type 0
GivesRequest time r old None new = (AsksNothing r ⊎ (is_request_due time r old ≡ false)) × (new ≡ old)
GivesRequest time r old (Some nak) new = Asks r nak × (is_request_due time r old ≡ true) × (new ≡ after_request time r old)
