-- No datagram is longer than the MTU.
use Rattle.std.proofs.Common.{rules, ◌≡◌, ◌≤ℤ◌, refl, ◌+◌, ◌≤◌, ◌<◌, ℕ, ℤ, pos, negsuc, List, [], ◌∷◌, ◌++◌, length, length-append, Bool, true, false, Option, Some, None, arith}
use Rattle.std.specs.Prelude.{◌&&◌, ◌%◌, map, nat_le, if◌then◌else◌, unsigned_abs}
use Rattle.std.proofs.lemmas.Int.{ints}
use Rattle.std.proofs.lemmas.Bool.{cond_both}
use Rattle.std.proofs.lemmas.Bool.Decides.{nat_tests}
use Rattle.frame_core.specs.declared.block.Publication.{Publication}
use Rattle.frame_core.specs.declared.frame.Frame.{Frame}
use Rattle.frame_core.specs.declared.frame.FrameKind.{FrameKind}
use Rattle.frame_core.specs.declared.frame.FrameKind.TheVariants.{Heartbeat, Message, Pad}
use Rattle.frame_core.specs.declared.geometry.Geometry.{Geometry}
use Rattle.frame_core.specs.declared.nak.Nak.{Nak}
use Rattle.frame_core.specs.FrameEncoding.{HasLength, aligned, stored}
use Rattle.frame_core.specs.Limits.{is_mtu}
use Rattle.frame_core.specs.Position.{position_of}
use Rattle.image_core.specs.Kept.{AreMembers}
use Rattle.image_core.specs.Received.{is_within, joining_position}
use Rattle.publication_core.specs.declared.datagram.Datagram.{Datagram}
use Rattle.publication_core.specs.Copies.{IsRecordedStream}
use Rattle.publication_core.specs.Datagrams.{after_repeat, alone, has_room, laid, marked, may_repeat, meets, repeated, unconsumed, with_next_frame}
use Rattle.publication_core.specs.Flows.{after_datagram, may_go}
use Rattle.publication_core.specs.Runs.{AreOfStream, AreShort, Call, LaysOfStream, sending_after, after_calls, after_first, Lay, Hear, Ask, Send, Repeat, NoteSetup, NoteHeartbeat, End}
use Rattle.publication_core.specs.Sending.{Sending, after_repeat_request, is_nak_of, new_sending}
use Rattle.publication_core.proofs.BytesLemmas.{length_pad}
use Rattle.publication_core.proofs.HoldLemmas.{IsMember, no_heartbeat}
use Rattle.publication_core.proofs.MadeLemmas.{length_message, placed}

-- ---- one frame

-- an MTU has room for a header, and for what is no longer, with the zeros after it
pub record HasRoomFor (mtu : ℤ) : Type 0 where
  pub header : 32 ≤ unsigned_abs mtu
  pub rounded : (n : ℕ) → n ≤ unsigned_abs mtu → aligned n ≤ unsigned_abs mtu

pub room_of : (mtu : ℤ) → is_mtu mtu ≡ true → HasRoomFor mtu
unfolding is_mtu
room_of (pos m) is =
    let some : 32 < m = grind (arith, nat_tests, is) in
    let whole : m % 32 ≡ 0 = grind (arith, nat_tests, is) in
    record { header = omega arith; rounded = λ n low. omega arith }
room_of (negsuc m) is = absurd (cc)

-- a message is no longer than the MTU
message_within : (kind : FrameKind) (mtu size : ℤ) (payload : List ℕ) → kind ≡ Message → HasLength kind size payload → is_within mtu kind size ≡ true → unsigned_abs size ≤ unsigned_abs mtu
message_within Pad mtu size payload is has within = absurd (cc)
message_within Heartbeat mtu size payload is has within = absurd (cc)
message_within Message mtu size payload is has within = let low : size ≤ℤ mtu = search (rules, within) in omega (arith, ints, low, has)

frame_short : (g : Geometry) (publication : Publication) (p : ℕ) (f : Frame) (kind : FrameKind) → f.kind ≡ kind → HasRoomFor g.mtu → IsMember g publication p f
    → length (stored f) ≤ unsigned_abs g.mtu
unfolding joining_position
frame_short g publication p f Pad is room member = let size = length_pad f.kind f is in let header = room.header in omega (arith, size)
frame_short g publication p f Message is room member =
    let lies = member.lies in
    let within : is_within g.mtu f.kind f.length ≡ true = grind (arith, lies) in
    let size = length_message f member.encodable is in
    let most = room.rounded (unsigned_abs f.length) (message_within f.kind g.mtu f.length f.payload is member.encodable.length within) in
    omega (arith, size, most)
frame_short g publication p f Heartbeat is room member = absurd (no_heartbeat g publication p f member.lies is)

-- ---- lists of datagrams

short_laid : (g geometry : Geometry) (p : ℕ) (f : Frame) (ds : List Datagram) → geometry ≡ g → length (stored f) ≤ unsigned_abs g.mtu → AreShort g ds → AreShort g (laid geometry p f ds)
short_laid g geometry p f [] same one short = (one, tt)
short_laid g geometry p f (d ∷ []) same one short = by_room (has_room geometry d p f) refl where
  by_room : (b : Bool) → has_room geometry d p f ≡ b → AreShort g (if b then with_next_frame d p f ∷ [] else d ∷ alone p f ∷ [])
  by_room true room =
      let few : length d.bytes + length (stored f) ≤ unsigned_abs geometry.mtu = grind (arith, nat_tests, room) in
      (rw (← same) (omega (arith, few, length-append d.bytes (stored f))), tt)
  by_room false room = (short.0, (one, tt))
short_laid g geometry p f (d ∷ e ∷ ds) same one short = (short.0, short_laid g geometry p f (e ∷ ds) same one short.1)

short_end : (g : Geometry) (d : Datagram) (ds : List Datagram) → AreShort g ds → length d.bytes ≤ unsigned_abs g.mtu → AreShort g (ds ++ d ∷ [])
short_end g d [] short one = (one, tt)
short_end g d (x ∷ ds) short one = (short.0, short_end g d ds short.1 one)

short_unconsumed : (g : Geometry) (consumed : ℕ) (ds : List Datagram) → AreShort g ds → AreShort g (unconsumed consumed ds)
short_unconsumed g consumed [] short = tt
short_unconsumed g consumed (d ∷ ds) short =
    cond_both (nat_le d.end consumed) (unconsumed consumed ds) (d ∷ ds) (λ (it : List Datagram). AreShort g it) (λ gone. short_unconsumed g consumed ds short.1) (λ kept. short)

short_marked : (g : Geometry) (now from to : ℕ) (ds : List Datagram) → AreShort g ds → AreShort g (map (marked now from to) ds)
short_marked g now from to [] short = tt
short_marked g now from to (d ∷ ds) short = (
  cond_both (meets from to d && may_repeat now d.again_at) (record d { is_repeat_asked = true }) d (λ (it : Datagram). length it.bytes ≤ unsigned_abs g.mtu) (λ asked. short.0) (λ other. short.0),
  short_marked g now from to ds short.1,
)

short_repeat : (g : Geometry) (now : ℕ) (ds : List Datagram) → AreShort g ds → AreShort g (after_repeat now ds)
short_repeat g now [] short = tt
short_repeat g now (d ∷ ds) short =
    cond_both d.is_repeat_asked (repeated now d ∷ ds) (d ∷ after_repeat now ds) (λ (it : List Datagram). AreShort g it) (λ asked. short) (λ other. (short.0, short_repeat g now ds short.1))

-- ---- calls

pub record IsShort (g : Geometry) (s : Sending) : Type 0 where
  pub geometry : s.geometry ≡ g
  pub sent : AreShort g s.sent
  pub waiting : AreShort g s.waiting

short_request : (g : Geometry) (now : ℕ) (nak : Nak) (found : Option ℕ) (s : Sending) → IsShort g s → IsShort g (after_repeat_request now nak found s)
short_request g now nak None s short = short
short_request g now nak (Some p) s short = record { geometry = short.geometry; sent = short_marked g now p (p + unsigned_abs nak.length) s.sent short.sent; waiting = short.waiting }

short_first : (g : Geometry) (now : ℕ) (ds : List Datagram) (s : Sending) → AreShort g ds → IsShort g s → IsShort g (after_first now ds s)
short_first g now [] s waiting short = short
short_first g now (d ∷ ds) s waiting short =
    cond_both (may_go s.geometry s.flow d) (record s { flow = after_datagram now d.end s.flow; sent = s.sent ++ d ∷ []; waiting = ds }) s (λ (it : Sending). IsShort g it)
    (λ may. record { geometry = short.geometry; sent = short_end g d s.sent short.sent waiting.0; waiting = waiting.1 })
    (λ held. short)

pub short_call : (g : Geometry) (publication : Publication) (stream : List (ℕ × Frame)) (c : Call) (s : Sending) → AreMembers g publication stream → HasRoomFor g.mtu → LaysOfStream stream c
    → IsShort g s → IsShort g (sending_after c s)
short_call g publication stream (Lay p f) s members room of short = record {
  geometry = short.geometry;
  sent = short.sent;
  waiting = short_laid g s.geometry p f s.waiting short.geometry (frame_short g publication p f f.kind refl room (placed g publication stream p f members of).member) short.waiting;
}
short_call g publication stream (Hear now status) s members room of short = record { geometry = short.geometry; sent = short_unconsumed g _ s.sent short.sent; waiting = short.waiting }
short_call g publication stream (Ask now nak) s members room of short =
    cond_both (is_nak_of s.publication nak) (after_repeat_request now nak (position_of s.geometry nak.term_id nak.term_offset) s) s (λ (it : Sending). IsShort g it)
    (λ ours. short_request g now nak (position_of s.geometry nak.term_id nak.term_offset) s short)
    (λ other. short)
short_call g publication stream (Send now) s members room of short = short_first g now s.waiting s short.waiting short
short_call g publication stream (Repeat now) s members room of short = record { geometry = short.geometry; sent = short_repeat g now s.sent short.sent; waiting = short.waiting }
short_call g publication stream (NoteSetup now) s members room of short = record { geometry = short.geometry; sent = short.sent; waiting = short.waiting }
short_call g publication stream (NoteHeartbeat now) s members room of short = record { geometry = short.geometry; sent = short.sent; waiting = short.waiting }
short_call g publication stream End s members room of short = record { geometry = short.geometry; sent = short.sent; waiting = short.waiting }

short_calls : (g : Geometry) (publication : Publication) (stream : List (ℕ × Frame)) (cs : List Call) (s : Sending) → AreMembers g publication stream → HasRoomFor g.mtu
    → AreOfStream stream cs → IsShort g s → IsShort g (after_calls cs s)
short_calls g publication stream [] s members room of short = short
short_calls g publication stream (c ∷ cs) s members room of short =
    short_calls g publication stream cs (sending_after c s) members room of.1 (short_call g publication stream c s members room of.0 short)

pub all_short : (g : Geometry) (publication : Publication) (from to : ℕ) (stream : List (ℕ × Frame)) (cs : List Call) → IsRecordedStream g publication from stream to → is_mtu g.mtu ≡ true
    → AreOfStream stream cs → IsShort g (after_calls cs (new_sending g publication from))
all_short g publication from to stream cs is mtu of =
    short_calls g publication stream cs (new_sending g publication from) is.members (room_of g.mtu mtu) of (record { geometry = refl; sent = tt; waiting = tt })
