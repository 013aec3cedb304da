-- What a sender sends has room in a bounded image.
use Rattle.std.proofs.Common.{◌≡◌, ◌∙◌, inl, inr, sym, ap, refl, subst, ◌+◌, ◌≤◌, ℕ, ℤ, pos, negsuc, List, [], ◌∷◌, ◌++◌, length, append_assoc, Bool, true, false, Option, Some, None, arith}
use Rattle.std.specs.Prelude.{unsigned_abs, if◌then◌else◌}
use Rattle.std.specs.List.{AllByRecursion}
use Rattle.std.proofs.lemmas.Bool.{cond_both}
use Rattle.std.proofs.lemmas.Bool.Decides.{nat_tests}
use Rattle.frame_core.specs.declared.block.Block.{Block}
use Rattle.frame_core.specs.declared.block.Publication.{Publication}
use Rattle.frame_core.specs.declared.frame.Frame.{Frame}
use Rattle.frame_core.specs.declared.geometry.Geometry.{Geometry}
use Rattle.frame_core.specs.declared.nak.Nak.{Nak}
use Rattle.frame_core.specs.Datagram.{IsDatagram}
use Rattle.frame_core.specs.Limits.{is_mtu}
use Rattle.frame_core.specs.Position.{position_of}
use Rattle.image_core.specs.declared.fate.Fate.{Fate}
use Rattle.image_core.specs.declared.fate.Fate.TheVariants.{Drops, Joins, Tells}
use Rattle.image_core.specs.declared.inserted.Inserted.{Inserted}
use Rattle.image_core.specs.Insert.{TakesIn}
use Rattle.image_core.specs.Received.{IsChain, Received, StandsFor, after_frame, begun, fate, rebuilt, received, received_all, window}
use Rattle.image_core.specs.Stock.{are_near}
use Rattle.image_core.specs.Take.{GivesBlock}
use Rattle.image_core.proofs.ChainLemmas.{chain_low, chain_over, chain_up}
use Rattle.publication_core.specs.declared.datagram.Datagram.{Datagram}
use Rattle.publication_core.specs.Bounded.{BoundedTurn, CallsSender, GivesOn, HasRoomForAll, MayBeOffered, MeetBounded, NamesAtMost, OffersFrames, sender_calls, image_after, offered_by}
use Rattle.publication_core.specs.Copies.{AreFirst, AreRecorded, BeginsWith, HasCome, HaveCome, IsInReach, IsRecordedStream}
use Rattle.publication_core.specs.Flows.{after_datagram, may_go}
use Rattle.publication_core.specs.Meeting.{Called, Came, HasGone, IsTrueOf, MayCome, Meet, Turn, came, first_asked_of, first_waiting_of, goes_out}
use Rattle.publication_core.specs.Order.{AreRunsOf, laid_by}
use Rattle.publication_core.specs.Runs.{AreMadeOf, AreShort, Call, IsWithinReach, LaysOfStream, sending_after, after_first, Lay, Hear, Ask, Send, Repeat, NoteSetup, NoteHeartbeat, End}
use Rattle.publication_core.specs.Sending.{Sending, after_repeat_request, is_nak_of, new_sending}
use Rattle.publication_core.proofs.EachLemmas.{IsUnmarked, each_end, each_marked, each_repeat, each_unconsumed}
use Rattle.publication_core.proofs.HoldLemmas.{image_received_all}
use Rattle.publication_core.proofs.MeetingLemmas.{IsMeeting, called, comes_in_reach, comes_recorded, made_gone, meeting_called, meeting_copies, starts}
use Rattle.publication_core.proofs.OrderedLemmas.{IsOrdered, ordered_call, ordered_new}
use Rattle.publication_core.proofs.ShortLemmas.{IsShort, room_of, short_call}
use Rattle.publication_core.proofs.StockLemmas.{KeptBelow, kept_both, kept_further, kept_gone, made_kept, near_lone, near_read}

-- ---- what goes out

-- an MTU is at most 65,504
most_of : (mtu : ℤ) → is_mtu mtu ≡ true → unsigned_abs mtu ≤ 65504
unfolding is_mtu
most_of (pos m) is = grind (arith, nat_tests, is)
most_of (negsuc m) is = absurd (cc)

few : (g : Geometry) (d : Datagram) → is_mtu g.mtu ≡ true → length d.bytes ≤ unsigned_abs g.mtu → length d.bytes ≤ 65504
few g d is within = let most = most_of g.mtu is in omega (arith, within, most)

-- what may go from the sender position takes no more than the stock of an image of which is taken what was consumed
kept_goes : (s : Sending) (d : Datagram) → IsWithinReach s → KeptBelow d.end d → d.position ≡ s.flow.position → length d.bytes ≤ 65504 → may_go s.geometry s.flow d ≡ true
    → KeptBelow (s.flow.consumed + 1048576) d
kept_goes s d so size at short may = let limit = so.limit in grind (arith, nat_tests, may, limit, size, at, short)

first_kept : (g : Geometry) (publication : Publication) (from : ℕ) (stream : List (ℕ × Frame)) (out : List Datagram) (s : Sending) (r : Received) (ds : List Datagram) (rest : List (ℕ × Frame)) (next to : ℕ)
    → IsRecordedStream g publication from stream to → is_mtu g.mtu ≡ true → IsWithinReach s → AreMadeOf stream ds → AreShort g ds → AreRunsOf s.flow.position ds rest next
    → AllByRecursion (KeptBelow (s.flow.consumed + 1048576)) (first_waiting_of s ds)
first_kept g publication from stream out s r [] rest next to is mtu so made short runs = tt
first_kept g publication from stream out s r (d ∷ ds) rest next to is mtu so made short (run, others, split, at, chain, bytes, tail) =
    cond_both (may_go s.geometry s.flow d) (d ∷ []) [] (λ (it : List Datagram). AllByRecursion (KeptBelow (s.flow.consumed + 1048576)) it)
    (λ may. (kept_goes s d so (made_kept g publication stream d is.members made.0) at (few g d mtu short.0) may, tt))
    (λ held. tt)

asked_kept : (most : ℕ) (ds : List Datagram) → AllByRecursion (KeptBelow most) ds → AllByRecursion (KeptBelow most) (first_asked_of ds)
asked_kept most [] kept = tt
asked_kept most (d ∷ ds) kept =
    cond_both d.is_repeat_asked (d ∷ []) (first_asked_of ds) (λ (it : List Datagram). AllByRecursion (KeptBelow most) it) (λ asked. (kept.0, tt)) (λ other. asked_kept most ds kept.1)

-- ---- a sender and a bounded image

-- the image, and one of which nothing was taken that got the same
record IsBounded (g : Geometry) (publication : Publication) (from : ℕ) (stream : List (ℕ × Frame)) (out : List Datagram) (s : Sending) (r all : Received) : Type 0 where
  meeting : IsMeeting g publication from stream out s all
  kept : AllByRecursion (KeptBelow (s.flow.consumed + 1048576)) out
  sent : AllByRecursion (KeptBelow (s.flow.consumed + 1048576)) s.sent
  short : IsShort g s
  taken : s.flow.consumed ≤ r.from
  stands : StandsFor all r

goes_kept : (g : Geometry) (publication : Publication) (from to last : ℕ) (stream : List (ℕ × Frame)) (out : List Datagram) (s : Sending) (r all : Received) (c : Call) (cs : List Call)
    → IsRecordedStream g publication from stream to → is_mtu g.mtu ≡ true → IsOrdered s (c ∷ cs) last → IsBounded g publication from stream out s r all
    → AllByRecursion (KeptBelow (s.flow.consumed + 1048576)) (goes_out c s)
goes_kept g publication from to last stream out s r all (Lay p f) cs is mtu order so = tt
goes_kept g publication from to last stream out s r all (Hear now status) cs is mtu order so = tt
goes_kept g publication from to last stream out s r all (Ask now nak) cs is mtu order so = tt
goes_kept g publication from to last stream out s r all (Send now) cs is mtu order so =
    first_kept g publication from stream out s r s.waiting order.rest order.next to is mtu so.meeting.sender so.meeting.made.waiting so.short.waiting order.runs
goes_kept g publication from to last stream out s r all (Repeat now) cs is mtu order so = asked_kept (s.flow.consumed + 1048576) s.sent so.sent
goes_kept g publication from to last stream out s r all (NoteSetup now) cs is mtu order so = tt
goes_kept g publication from to last stream out s r all (NoteHeartbeat now) cs is mtu order so = tt
goes_kept g publication from to last stream out s r all End cs is mtu order so = tt

-- whatever is asked for again
unmarked : (most : ℕ) → IsUnmarked (KeptBelow most)
unmarked most d is_repeat_asked again_at kept = kept

sent_request : (most now : ℕ) (nak : Nak) (found : Option ℕ) (s : Sending) → AllByRecursion (KeptBelow most) s.sent → AllByRecursion (KeptBelow most) (after_repeat_request now nak found s).sent
sent_request most now nak None s kept = kept
sent_request most now nak (Some p) s kept = each_marked (KeptBelow most) now p (p + unsigned_abs nak.length) s.sent (unmarked most) kept

sent_first : (most now : ℕ) (ds : List Datagram) (s : Sending) → AllByRecursion (KeptBelow most) (first_waiting_of s ds) → AllByRecursion (KeptBelow most) s.sent
    → AllByRecursion (KeptBelow most) (after_first now ds s).sent
sent_first most now [] s goes kept = kept
sent_first most now (d ∷ ds) s goes kept = by_may (may_go s.geometry s.flow d) refl goes where
  new : Sending
  new = record s { flow = after_datagram now d.end s.flow; sent = s.sent ++ d ∷ []; waiting = ds }

  by_may : (b : Bool) → may_go s.geometry s.flow d ≡ b → AllByRecursion (KeptBelow most) (if b then d ∷ [] else []) → AllByRecursion (KeptBelow most) (if b then new else s).sent
  by_may true may going = each_end (KeptBelow most) d s.sent kept going.0
  by_may false held going = kept

sent_kept : (most : ℕ) (c : Call) (s : Sending) → AllByRecursion (KeptBelow most) (goes_out c s) → AllByRecursion (KeptBelow most) s.sent → AllByRecursion (KeptBelow most) (sending_after c s).sent
sent_kept most (Lay p f) s goes kept = kept
sent_kept most (Hear now status) s goes kept = each_unconsumed (KeptBelow most) _ s.sent kept
sent_kept most (Ask now nak) s goes kept =
    cond_both (is_nak_of s.publication nak) (after_repeat_request now nak (position_of s.geometry nak.term_id nak.term_offset) s) s (λ (it : Sending). AllByRecursion (KeptBelow most) it.sent)
    (λ ours. sent_request most now nak (position_of s.geometry nak.term_id nak.term_offset) s kept)
    (λ other. kept)
sent_kept most (Send now) s goes kept = sent_first most now s.waiting s goes kept
sent_kept most (Repeat now) s goes kept = each_repeat (KeptBelow most) now s.sent (unmarked most) kept
sent_kept most (NoteSetup now) s goes kept = kept
sent_kept most (NoteHeartbeat now) s goes kept = kept
sent_kept most End s goes kept = kept

-- what names no position past another is true of an image that is rebuilt up to there
names_true : (g : Geometry) (most : ℕ) (r : Received) (c : Call) → most ≤ rebuilt r → NamesAtMost g most c → IsTrueOf g r c
names_true g most r (Lay p f) up names = tt
names_true g most r (Hear now status) up names = λ p is. (let low = names p is in omega (arith, low, up))
names_true g most r (Ask now nak) up names = tt
names_true g most r (Send now) up names = tt
names_true g most r (Repeat now) up names = tt
names_true g most r (NoteSetup now) up names = tt
names_true g most r (NoteHeartbeat now) up names = tt
names_true g most r End up names = tt

-- what was taken was rebuilt, and what was taken makes no difference to that
record IsStanding (r all : Received) : Type 0 where
  low : r.from ≤ rebuilt r
  same : rebuilt all ≡ rebuilt r

standing : (r all : Received) → StandsFor all r → IsStanding r all
standing r all stands =
    record { low = chain_low r.from r.joined; same = rw stands.joined (chain_over all.from r.from stands.taken r.joined stands.chain) }

bounded_called : (g : Geometry) (publication : Publication) (from to last : ℕ) (stream : List (ℕ × Frame)) (out : List Datagram) (s : Sending) (r all : Received) (c : Call) (cs : List Call)
    → IsRecordedStream g publication from stream to → is_mtu g.mtu ≡ true → LaysOfStream stream c → NamesAtMost s.geometry r.from c → IsOrdered s (c ∷ cs) last
    → IsBounded g publication from stream out s r all → IsBounded g publication from stream (out ++ goes_out c s) (sending_after c s) r all
bounded_called g publication from to last stream out s r all c cs is mtu of names order so =
    let at = standing r all so.stands in
    let low = at.low in
    let same = at.same in
    let it = called (begun r.geometry r.publication r.from) c s (names_true s.geometry r.from (begun r.geometry r.publication r.from) c (omega arith) names) in
    let up = it.up in
    let most = it.true_of in
    let taken = so.taken in
    let further : s.flow.consumed + 1048576 ≤ (sending_after c s).flow.consumed + 1048576 = omega (arith, up) in
    let goes = goes_kept g publication from to last stream out s r all c cs is mtu order so in
    record {
      meeting = meeting_called g publication from to stream out s all c is of (names_true s.geometry r.from all c (omega (arith, low, same)) names) so.meeting;
      kept = kept_further _ _ (out ++ goes_out c s) further (kept_both (s.flow.consumed + 1048576) out (goes_out c s) so.kept goes);
      sent = kept_further _ _ (sending_after c s).sent further (sent_kept (s.flow.consumed + 1048576) c s goes so.sent);
      short = short_call g publication stream c s is.members (room_of g.mtu mtu) of so.short;
      taken = omega (arith, most, taken);
      stands = so.stands;
    }

-- ---- what is offered

has_come : (all fs more : List Frame) → all ≡ more ++ fs → (f : Frame) → HasCome fs f → HasCome all f
has_come all fs [] is f come = rw is come
has_come (x ∷ all) fs (y ∷ more) is f come = inr (has_come all fs more (ap tail_of is) f come) where
  tail_of : List Frame → List Frame
  tail_of [] = []
  tail_of (z ∷ zs) = zs
has_come [] fs (y ∷ more) is f come = absurd (cc)

each_comes : (out : List Datagram) (d : Datagram) (all fs more : List Frame) → HasGone out d → IsDatagram d.bytes all → all ≡ more ++ fs → AllByRecursion (MayCome out) fs
each_comes out d all [] more gone reads is = tt
each_comes out d all (f ∷ fs) more gone reads is = (
  inr (record { datagram = d; gone = gone; frames = all; reads = reads; has = has_come all (f ∷ fs) more is f (inl refl) }),
  each_comes out d all fs (more ++ f ∷ []) gone reads (is ∙ sym (append_assoc more (f ∷ []) fs)),
)

may_come : (out : List Datagram) (fs : List Frame) → MayBeOffered out fs → AllByRecursion (MayCome out) fs
may_come out fs (inl (f, kind, lone)) = rw lone (inl kind, tt)
may_come out fs (inr it) = each_comes out it.datagram fs fs [] it.gone it.reads refl

all_recorded : (g : Geometry) (publication : Publication) (from to : ℕ) (stream : List (ℕ × Frame)) (out : List Datagram) (fs : List Frame) → IsRecordedStream g publication from stream to
    → AreMadeOf stream out → AllByRecursion (MayCome out) fs → AreRecorded stream fs
all_recorded g publication from to stream out [] is made may = tt
all_recorded g publication from to stream out (f ∷ fs) is made may =
    (comes_recorded g publication from to stream out f is made may.0, all_recorded g publication from to stream out fs is made may.1)

all_in_reach : (g : Geometry) (publication : Publication) (from to : ℕ) (stream : List (ℕ × Frame)) (out : List Datagram) (s : Sending) (r all : Received) (fs : List Frame)
    → IsRecordedStream g publication from stream to → IsBounded g publication from stream out s r all → AllByRecursion (MayCome out) fs
    → AllByRecursion (IsInReach r.geometry stream (rebuilt r)) fs
all_in_reach g publication from to stream out s r all [] is so may = tt
all_in_reach g publication from to stream out s r all (f ∷ fs) is so may =
    let at = standing r all so.stands in
    let low = at.low in
    let taken = so.taken in
    let same : window r.geometry ≡ window s.geometry = ap window (sym so.stands.geometry ∙ so.meeting.image.geometry ∙ sym so.meeting.geometry) in (
      comes_in_reach g publication from to (s.flow.consumed + window s.geometry) stream out r f is so.meeting.gone (omega (arith, low, taken, same)) may.0,
      all_in_reach g publication from to stream out s r all fs is so may.1,
    )

all_near : (g : Geometry) (publication : Publication) (from to : ℕ) (stream : List (ℕ × Frame)) (out : List Datagram) (s : Sending) (r all : Received) (fs : List Frame)
    → IsRecordedStream g publication from stream to → IsBounded g publication from stream out s r all → MayBeOffered out fs → are_near r fs ≡ true
all_near g publication from to stream out s r all fs is so (inl (f, kind, lone)) = near_lone f fs r kind lone
all_near g publication from to stream out s r all fs is so (inr it) =
    let taken = so.taken in
    let here = kept_gone (s.flow.consumed + 1048576) out it.datagram so.kept it.gone in
    near_read g publication stream it.datagram fs r is.members (sym so.stands.geometry ∙ so.meeting.image.geometry)
    (made_gone stream out it.datagram so.meeting.gone.made it.gone)
    (omega (arith, taken, here))
    it.reads

-- what is received takes nothing
from_kept : (r : Received) (f : Frame) (it : Fate) → (after_frame r f it).from ≡ r.from
from_kept r f (Joins p) = refl
from_kept r f (Tells p) = refl
from_kept r f Drops = refl

from_all : (r : Received) (fs : List Frame) → (received_all r fs).from ≡ r.from
from_all r [] = refl
from_all r (f ∷ fs) = from_all (received r f) fs ∙ from_kept r f (fate r f)

bounded_offered : (g : Geometry) (publication : Publication) (from to : ℕ) (stream : List (ℕ × Frame)) (out : List Datagram) (s : Sending) (r all new : Received) (fs : List Frame) (i : Inserted)
    → IsRecordedStream g publication from stream to → TakesIn r fs i new → AllByRecursion (MayCome out) fs → IsBounded g publication from stream out s r all
    → IsBounded g publication from stream out s new (received_all all fs)
bounded_offered g publication from to stream out s r all new fs i is takes may so =
    let stands = takes.whole all so.stands in
    let at = standing new (received_all all fs) stands in
    let low = at.low in
    let same = at.same in
    let taken = so.taken in
    let kept : new.from ≡ r.from = rw takes.after (from_all r fs) in
    let before = so.meeting in
    record {
      meeting = record {
        sender = before.sender;
        made = before.made;
        geometry = before.geometry;
        gone = before.gone;
        true_of = omega (arith, low, same, taken, kept);
        image = image_received_all g publication stream from all fs is.members (all_recorded g publication from to stream out fs is before.gone.made may) before.image;
      };
      kept = so.kept;
      sent = so.sent;
      short = so.short;
      taken = omega (arith, taken, kept);
      stands = stands;
    }

bounded_given : (g : Geometry) (publication : Publication) (from : ℕ) (stream : List (ℕ × Frame)) (out : List Datagram) (s : Sending) (r all new : Received) (b : Block) → GivesBlock r b new
    → IsBounded g publication from stream out s r all → IsBounded g publication from stream out s new all
bounded_given g publication from stream out s r all new b gives so =
    let up = chain_up r.from new.from gives.takes.taken gives.takes.chain in
    let taken = so.taken in
    record { meeting = so.meeting; kept = so.kept; sent = so.sent; short = so.short; taken = omega (arith, up, taken); stands = gives.whole all so.stands }

-- ---- all turns

abbrev comes : List Frame → List Turn → List Turn
comes [] ts = ts
comes (f ∷ fs) ts = Came f ∷ comes fs ts

-- the same turns, frame for frame
abbrev plain : List BoundedTurn → List Turn
plain [] = []
plain (CallsSender c ∷ ts) = Called c ∷ plain ts
plain (OffersFrames fs found new ∷ ts) = comes fs (plain ts)
plain (GivesOn b new ∷ ts) = plain ts

came_comes : (fs : List Frame) (ts : List Turn) → came (comes fs ts) ≡ fs ++ came ts
came_comes [] ts = refl
came_comes (f ∷ fs) ts = ap (λ (gs : List Frame). f ∷ gs) (came_comes fs ts)

came_plain : (ts : List BoundedTurn) → came (plain ts) ≡ offered_by ts
came_plain [] = refl
came_plain (CallsSender c ∷ ts) = came_plain ts
came_plain (OffersFrames fs found new ∷ ts) = came_comes fs (plain ts) ∙ ap (λ (gs : List Frame). fs ++ gs) (came_plain ts)
came_plain (GivesOn b new ∷ ts) = came_plain ts

meet_comes : (stream : List (ℕ × Frame)) (fs : List Frame) (ts : List Turn) (out : List Datagram) (s : Sending) (all : Received) → AllByRecursion (MayCome out) fs
    → Meet stream ts out s (received_all all fs) → Meet stream (comes fs ts) out s all
meet_comes stream [] ts out s all may meet = meet
meet_comes stream (f ∷ fs) ts out s all may meet = (may.0, meet_comes stream fs ts out s (received all f) may.1 meet)

received_both : (all : Received) (fs gs : List Frame) → received_all all (fs ++ gs) ≡ received_all (received_all all fs) gs
received_both all [] gs = refl
received_both all (f ∷ fs) gs = received_both (received all f) fs gs

-- there was room for all, and the image got what one would of which nothing was taken
record IsHandedOn (stream : List (ℕ × Frame)) (ts : List BoundedTurn) (out : List Datagram) (s : Sending) (r all : Received) : Type 0 where
  room : HasRoomForAll stream ts r
  meet : Meet stream (plain ts) out s all
  stands : StandsFor (received_all all (offered_by ts)) (image_after ts r)

handed_on : (g : Geometry) (publication : Publication) (from to last : ℕ) (stream : List (ℕ × Frame)) (ts : List BoundedTurn) (out : List Datagram) (s : Sending) (r all : Received)
    → IsRecordedStream g publication from stream to → is_mtu g.mtu ≡ true → IsOrdered s (sender_calls ts) last → IsBounded g publication from stream out s r all → MeetBounded stream ts out s r
    → IsHandedOn stream ts out s r all
handed_on g publication from to last stream [] out s r all is mtu order so meet = record { room = tt; meet = tt; stands = so.stands }
handed_on g publication from to last stream (CallsSender c ∷ ts) out s r all is mtu order so (of, names, meet) =
    let at = standing r all so.stands in
    let low = at.low in
    let same = at.same in
    let rest = handed_on g publication from to last stream ts (out ++ goes_out c s) (sending_after c s) r all is mtu (ordered_call last c (sender_calls ts) s order)
    (bounded_called g publication from to last stream out s r all c (sender_calls ts) is mtu of names order so)
    meet in
    record { room = rest.room; meet = (of, names_true s.geometry r.from all c (omega (arith, low, same)) names, rest.meet); stands = rest.stands }
handed_on g publication from to last stream (OffersFrames fs None new ∷ ts) out s r all is mtu order so (may, lost, meet) =
    let near = all_near g publication from to stream out s r all fs is so may in
    let far = lost.0 in absurd (cc)
handed_on g publication from to last stream (OffersFrames fs (Some i) new ∷ ts) out s r all is mtu order so (may, takes, meet) =
    let come = may_come out fs may in
    let rest = handed_on g publication from to last stream ts out s new (received_all all fs) is mtu order
    (bounded_offered g publication from to stream out s r all new fs i is takes.1 come so)
    meet in
    record {
      room = (takes.0, all_in_reach g publication from to stream out s r all fs is so come, rest.room);
      meet = meet_comes stream fs (plain ts) out s all come rest.meet;
      stands = subst (λ (it : Received). StandsFor it (image_after ts new)) (sym (received_both all fs (offered_by ts))) rest.stands;
    }
handed_on g publication from to last stream (GivesOn b new ∷ ts) out s r all is mtu order so (gives, meet) =
    let rest = handed_on g publication from to last stream ts out s new all is mtu order (bounded_given g publication from stream out s r all new b gives so) meet in
    record { room = rest.room; meet = rest.meet; stands = rest.stands }

all_handed_on : (g : Geometry) (publication : Publication) (from to last : ℕ) (stream : List (ℕ × Frame)) (ts : List BoundedTurn) → IsRecordedStream g publication from stream to
    → is_mtu g.mtu ≡ true → IsChain from (laid_by (sender_calls ts)) last → MeetBounded stream ts [] (new_sending g publication from) (begun g publication from)
    → IsHandedOn stream ts [] (new_sending g publication from) (begun g publication from) (begun g publication from)
all_handed_on g publication from to last stream ts is mtu chain meet =
    handed_on g publication from to last stream ts [] (new_sending g publication from) (begun g publication from) (begun g publication from) is mtu
    (ordered_new g publication from last (sender_calls ts) chain)
    (record {
      meeting = starts g publication from stream;
      kept = tt;
      sent = tt;
      short = record { geometry = refl; sent = tt; waiting = tt };
      taken = omega arith;
      stands = record { taken = []; geometry = refl; publication = refl; chain = refl; joined = refl; high = refl };
    })
    meet

pub bounded_room : (g : Geometry) (publication : Publication) (from to last : ℕ) (stream : List (ℕ × Frame)) (ts : List BoundedTurn) → IsRecordedStream g publication from stream to
    → is_mtu g.mtu ≡ true → IsChain from (laid_by (sender_calls ts)) last → MeetBounded stream ts [] (new_sending g publication from) (begun g publication from)
    → HasRoomForAll stream ts (begun g publication from)
bounded_room g publication from to last stream ts is mtu chain meet = (all_handed_on g publication from to last stream ts is mtu chain meet).room

pub bounded_stands : (g : Geometry) (publication : Publication) (from to last : ℕ) (stream : List (ℕ × Frame)) (ts : List BoundedTurn) → IsRecordedStream g publication from stream to
    → is_mtu g.mtu ≡ true → IsChain from (laid_by (sender_calls ts)) last → MeetBounded stream ts [] (new_sending g publication from) (begun g publication from)
    → StandsFor (received_all (begun g publication from) (offered_by ts)) (image_after ts (begun g publication from))
bounded_stands g publication from to last stream ts is mtu chain meet = (all_handed_on g publication from to last stream ts is mtu chain meet).stands

pub bounded_copies : (g : Geometry) (publication : Publication) (from to last front : ℕ) (stream firsts : List (ℕ × Frame)) (ts : List BoundedTurn) → IsRecordedStream g publication from stream to
    → is_mtu g.mtu ≡ true → IsChain from (laid_by (sender_calls ts)) last → MeetBounded stream ts [] (new_sending g publication from) (begun g publication from)
    → AreFirst from stream firsts front → HaveCome (offered_by ts) firsts → BeginsWith firsts front (received_all (begun g publication from) (offered_by ts))
bounded_copies g publication from to last front stream firsts ts is mtu chain meet first come =
    let it = all_handed_on g publication from to last stream ts is mtu chain meet in
    subst (λ (fs : List Frame). BeginsWith firsts front (received_all (begun g publication from) fs)) (came_plain ts)
    (meeting_copies g publication from to front stream firsts (plain ts) is it.meet first (subst (λ (fs : List Frame). HaveCome fs firsts) (sym (came_plain ts)) come))
