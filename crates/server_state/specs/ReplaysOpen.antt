-- Which replays are open, as far as a server's answers say it: docs/SERVING.md, "Which replays are open".
use Rattle.std.specs.Prelude.{◌≡◌, ◌⊎◌, ◌++◌, ◌-◌, ℕ, ℤ, pos, negsuc, int_lt, if◌then◌else◌, Bool, List, [], ◌∷◌, Option, None, Some, Result, Ok, Err, codes, decimal, length, remove, slice_get, slice_set}
use Rattle.std.specs.Fmt.{signed_decimal}
use Rattle.std.specs.List.{flat_map, position}
use Rattle.std.specs.Net.Text.{socket_text}
use Rattle.std.specs.Ordering.{int_eq}
use Rattle.std.specs.declared.net.socket_addr.SocketAddr.{SocketAddr}
use Rattle.frame_core.specs.FrameEncoding.{aligned_length}
use Rattle.frame_core.specs.ReplayEnd.{bound_of}
use Rattle.frame_core.specs.declared.refusal.Refusal.{Refusal}
use Rattle.frame_core.specs.declared.refusal.Refusal.TheVariants.{UnknownReplay}
use Rattle.archive_model.specs.declared.reply.PolledFrame.{PolledFrame}
use Rattle.archive_model.specs.declared.reply.Reply.{Reply}
use Rattle.archive_model.specs.declared.reply.Reply.TheVariants as replies
use Rattle.control_core.specs.declared.event.Event.{Event}
use Rattle.control_core.specs.declared.event.Event.TheVariants.{ReplayOpen, ReplayClose, ReplayPoll, ReplayPollTo}
use Rattle.metrics_text.specs.declared.measures.ReplayMeasures.{ReplayMeasures}
use Rattle.server_state.specs.Listing.{with_number}
use Rattle.server_state.specs.declared.known_replay.KnownReplay.{KnownReplay}
use Rattle.server_state.specs.declared.known_replay.ReplayReader.{ReplayReader}
use Rattle.server_state.specs.declared.known_replay.ReplayReader.TheVariants.{Follow, Line, Send}

-- ---- what an answer opens

-- the position that was asked for; of the recording's start the answer does not say where it is
abbrev pub asked_position : ℤ → Option ℤ
asked_position p = if int_lt p (pos 0) then None else Some p

-- the replay that a client at an address has opened which was answered so
abbrev pub opened_by : Option SocketAddr → Event → Result Reply Refusal → Option KnownReplay
opened_by address (ReplayOpen recording p size) (Ok (replies.ReplayOpened number)) = Some (record {
  number = number;
  recording = recording;
  first = asked_position p;
  next = asked_position p;
  length = size;
  reader = Line;
  address = address;
})
opened_by address event outcome = None

-- one replay more, if there is one, or there is no memory for that
abbrev pub AddsReplay : Option KnownReplay → List KnownReplay → List KnownReplay → Type 0
AddsReplay None old new = new ≡ old
AddsReplay (Some r) old new = (new ≡ old ++ r ∷ []) ⊎ (new ≡ old)

-- ---- what an answer changes

-- a replay has a number
abbrev pub replay_has_number : ℤ → KnownReplay → Bool
replay_has_number number r = int_eq r.number number

-- a position, or another one if it is not known
abbrev pub known_or : Option ℤ → Option ℤ → Option ℤ
known_or None other = other
known_or (Some p) other = Some p

-- where a poll began: at its first frame, or where the replay goes on
abbrev pub polled_from : Option PolledFrame → Option ℤ → Option ℤ
polled_from None next = next
polled_from (Some f) next = Some f.position

-- where a frame ends
abbrev pub frame_end_of : PolledFrame → ℤ
frame_end_of f = bound_of f.position (pos (aligned_length f.frame))

abbrev pub end_in : Option PolledFrame → Option ℤ
end_in None = None
end_in (Some f) = Some (frame_end_of f)

abbrev pub last_end : List PolledFrame → Option ℤ
last_end frames = end_in (slice_get frames (length frames - 1))

-- where a replay goes on after a poll: as the answer says, or at the end of its last frame
abbrev pub position_after : List PolledFrame → Option ℤ → Option ℤ
position_after frames None = last_end frames
position_after frames (Some next) = Some next

-- a replay after a poll that gave these frames
abbrev pub replay_after_poll : List PolledFrame → Option ℤ → KnownReplay → KnownReplay
replay_after_poll frames next r = record r {
  first = known_or r.first (polled_from (slice_get frames 0) next);
  next = known_or (position_after frames next) r.next;
}

abbrev pub polled_in : ℕ → Option KnownReplay → List PolledFrame → Option ℤ → List KnownReplay → List KnownReplay
polled_in i None frames next rs = rs
polled_in i (Some r) frames next rs = slice_set rs i (replay_after_poll frames next r)

abbrev pub polled_at : Option ℕ → List PolledFrame → Option ℤ → List KnownReplay → List KnownReplay
polled_at None frames next rs = rs
polled_at (Some i) frames next rs = polled_in i (slice_get rs i) frames next rs

abbrev pub after_polling : ℤ → List PolledFrame → Option ℤ → List KnownReplay → List KnownReplay
after_polling number frames next rs = polled_at (position (replay_has_number number) rs) frames next rs

-- the replay of a number is open no longer
abbrev pub replays_without : Option ℕ → List KnownReplay → List KnownReplay
replays_without None rs = rs
replays_without (Some i) rs = remove rs i

abbrev pub after_closing : ℤ → List KnownReplay → List KnownReplay
after_closing number rs = replays_without (position (replay_has_number number) rs) rs

-- a poll moves its replay on, and one that is closed, or that the archive does not know when it is to be closed, is gone
abbrev pub after_answer : Event → Result Reply Refusal → List KnownReplay → List KnownReplay
after_answer (ReplayPoll number most) (Ok (replies.Polled frames next)) rs = after_polling number frames next rs
after_answer (ReplayPollTo number most limit) (Ok (replies.Polled frames next)) rs = after_polling number frames next rs
after_answer (ReplayClose number) (Ok reply) rs = after_closing number rs
after_answer (ReplayClose number) (Err UnknownReplay) rs = after_closing number rs
after_answer event outcome rs = rs

-- a client at an address was answered so
abbrev pub NotesAnswer : Option SocketAddr → Event → Result Reply Refusal → List KnownReplay → List KnownReplay → Type 0
NotesAnswer address event outcome old new =
    (mid : List KnownReplay) × AddsReplay (opened_by address event outcome) old mid × (new ≡ after_answer event outcome mid)

-- ---- followers

-- a replay that has another number now, and goes on at a position
abbrev pub replay_moved_to : ℤ → ℤ → KnownReplay → KnownReplay
replay_moved_to number p r = record r { number = number; next = Some p }

abbrev pub moved_in : ℕ → Option KnownReplay → ℤ → ℤ → List KnownReplay → List KnownReplay
moved_in i None number p rs = rs
moved_in i (Some r) number p rs = slice_set rs i (replay_moved_to number p r)

abbrev pub moved_at : Option ℕ → ℤ → ℤ → List KnownReplay → List KnownReplay
moved_at None number p rs = rs
moved_at (Some i) number p rs = moved_in i (slice_get rs i) number p rs

-- the replay of a number has another one now
abbrev pub after_moving : ℤ → ℤ → ℤ → List KnownReplay → List KnownReplay
after_moving before number p rs = moved_at (position (replay_has_number before) rs) number p rs

-- ---- what is printed and measured

-- a position, or -1 if it is not known
unfoldable pub position_or_none : Option ℤ → ℤ
position_or_none None = negsuc 0
position_or_none (Some p) = p

-- where a replay ends that began there, or -1: it has no end, or that is not known
unfoldable pub bound_or_none : Option ℤ → ℤ → ℤ
bound_or_none None size = negsuc 0
bound_or_none (Some p) size = if int_lt size (pos 0) then negsuc 0 else bound_of p size

abbrev pub reader_text : ReplayReader → List ℕ
reader_text Line = codes "line"
reader_text Follow = codes "follow"
reader_text Send = codes "send"

abbrev pub address_text : Option SocketAddr → List ℕ
address_text None = codes "-"
address_text (Some a) = socket_text a

-- the numbers of a replay's line: its own, its recording, where it goes on and ends
unfoldable pub open_numbers : KnownReplay → List ℕ
open_numbers r =
    codes "open " ++ (signed_decimal r.number ++ with_number r.recording (with_number (position_or_none r.next) (codes " " ++
    signed_decimal (bound_or_none r.first r.length))))

-- who takes its frames, and at which address
unfoldable pub open_reader : List ℕ → List ℕ → List ℕ
open_reader reader address = codes " " ++ (reader ++ (codes " " ++ (address ++ codes "\n")))

abbrev pub open_line_with : KnownReplay → List ℕ → List ℕ
open_line_with r address = open_numbers r ++ open_reader (reader_text r.reader) address

abbrev pub open_line : KnownReplay → List ℕ
open_line r = open_line_with r (address_text r.address)

-- the answer to the line `replays`
abbrev pub replays_text : List KnownReplay → List ℕ
replays_text rs = flat_map open_line rs ++ (codes "end " ++ (decimal (length rs) ++ codes "\n"))

-- what is measured of replays whose next position is known
abbrev pub measured_at : KnownReplay → Option ℤ → List ReplayMeasures
measured_at r None = []
measured_at r (Some p) = record { replay = r.number; recording = r.recording; next = p } ∷ []

abbrev pub measured_replay : KnownReplay → List ReplayMeasures
measured_replay r = measured_at r r.next

abbrev pub measures_of : List KnownReplay → List ReplayMeasures
measures_of rs = flat_map measured_replay rs

-- the replays of a recording
abbrev pub held_by : ℤ → KnownReplay → List KnownReplay
held_by recording r = if int_eq r.recording recording then r ∷ [] else []

abbrev pub replays_held : ℤ → List KnownReplay → List KnownReplay
replays_held recording rs = flat_map (held_by recording) rs
