-- A sender and an image that meet on a bad line make a copy.
use Rattle.std.proofs.Common.{◌≡◌, ◌∙◌, inl, inr, sym, ap, refl, subst, ◌+◌, ◌≤◌, ℕ, List, [], ◌∷◌, ◌++◌, Option, Some, None, arith}
use Rattle.std.specs.Prelude.{max}
use Rattle.std.specs.Ordering.{nat_cmp}
use Rattle.std.specs.BTreeMap.{insert_entry}
use Rattle.std.proofs.lemmas.Bool.{cond_both}
use Rattle.frame_core.specs.declared.block.Publication.{Publication}
use Rattle.frame_core.specs.declared.frame.Frame.{Frame}
use Rattle.frame_core.specs.declared.geometry.Geometry.{Geometry}
use Rattle.frame_core.specs.FrameEncoding.{aligned_length}
use Rattle.frame_core.specs.Position.{position_of}
use Rattle.frame_core.proofs.DatagramLemmas.{one_list}
use Rattle.image_core.specs.declared.fate.Fate.{Fate}
use Rattle.image_core.specs.Rebuild.{end_of}
use Rattle.image_core.specs.Received.{IsChain, Received, after_frame, begun, rebuilt, received, received_all, window}
use Rattle.image_core.proofs.ChainLemmas.{chain_low, chain_more, chain_up}
use Rattle.image_core.proofs.FateLemmas.{by_kind}
use Rattle.publication_core.specs.declared.datagram.Datagram.{Datagram}
use Rattle.publication_core.specs.Copies.{AreFirst, AreInReach, AreRecorded, BeginsWith, HasCome, HaveCome, HoldsAlone, IsAmong, IsInReach, IsRecorded, IsRecordedStream}
use Rattle.publication_core.specs.Flows.{may_go}
use Rattle.publication_core.specs.Meeting.{Called, Came, HasGone, IsReadBack, IsTrueOf, MayCome, Meet, Turn, first_asked_of, came, first_waiting_of, goes_out}
use Rattle.publication_core.specs.Runs.{AreMadeOf, AreWithin, Call, IsMadeOf, LaysOfStream, IsWithinReach, sending_after, after_first, Lay, Hear, Ask, Send, Repeat, NoteSetup, NoteHeartbeat, End}
use Rattle.publication_core.specs.Sending.{Sending, after_repeat_request, is_nak_of, new_sending}
use Rattle.publication_core.proofs.CopyLemmas.{among_all, copied}
use Rattle.publication_core.proofs.HoldLemmas.{IsImageOf, holds_alone, image_begun, image_received, member_of, no_heartbeat}
use Rattle.publication_core.proofs.MadeLemmas.{IsMadeSending, made_call}
use Rattle.publication_core.proofs.ReachLemmas.{all_within, call_within, goes_within, heard, hearing_consumes}
use Rattle.publication_core.proofs.ReadLemmas.{among_both, frames_of, is_datagram, read_alone}

-- ---- the image

-- what is rebuilt does not fall
rebuilt_up : (g : Geometry) (publication : Publication) (stream : List (ℕ × Frame)) (join : ℕ) (r : Received) (f : Frame) → IsImageOf g publication stream join r
    → rebuilt r ≤ rebuilt (received r f)
rebuilt_up g publication stream join r f so =
    by_kind (λ (it : Fate). rebuilt r ≤ rebuilt (after_frame r f it)) r f f.kind
    (λ p lies opens.
    let beyond : rebuilt r ≤ p = grind (arith, opens) in
    let more = chain_more join r.high r.from p f r.joined so.spaced (let from = so.from in omega arith) beyond in
    let low = chain_low (rebuilt r) (insert_entry nat_cmp r.joined p f) in
    omega (arith, more, low))
    (λ p. omega arith)
    (omega arith)

-- ---- what goes out

within_gone : (most : ℕ) (out : List Datagram) (d : Datagram) → AreWithin most out → HasGone out d → d.end ≤ most
within_gone most [] d within gone = elim gone [ ]
within_gone most (x ∷ out) d within (inl is) = rw is within.0
within_gone most (x ∷ out) d within (inr gone) = within_gone most out d within.1 gone

pub made_gone : (stream : List (ℕ × Frame)) (out : List Datagram) (d : Datagram) → AreMadeOf stream out → HasGone out d → IsMadeOf stream d
made_gone stream [] d made gone = elim gone [ ]
made_gone stream (x ∷ out) d made (inl is) = rw is made.0
made_gone stream (x ∷ out) d made (inr gone) = made_gone stream out d made.1 gone

-- what went out, and how far it may reach
pub record HaveGone (stream : List (ℕ × Frame)) (most : ℕ) (out : List Datagram) : Type 0 where
  pub made : AreMadeOf stream out
  pub within : AreWithin most out

gone_both : (stream : List (ℕ × Frame)) (most : ℕ) (out more : List Datagram) → HaveGone stream most out → HaveGone stream most more → HaveGone stream most (out ++ more)
gone_both stream most [] more here there = there
gone_both stream most (d ∷ out) more here there =
    let rest = gone_both stream most out more (record { made = here.made.1; within = here.within.1 }) there in
    record { made = (here.made.0, rest.made); within = (here.within.0, rest.within) }

gone_further : (stream : List (ℕ × Frame)) (most further : ℕ) (out : List Datagram) → most ≤ further → HaveGone stream most out → HaveGone stream further out
gone_further stream most further [] up here = record { made = tt; within = tt }
gone_further stream most further (d ∷ out) up here =
    let rest = gone_further stream most further out up (record { made = here.made.1; within = here.within.1 }) in
    record { made = here.made; within = (let end = here.within.0 in omega arith, rest.within) }

first_gone : (stream : List (ℕ × Frame)) (s : Sending) (ds : List Datagram) → IsWithinReach s → AreMadeOf stream ds → HaveGone stream (s.flow.consumed + window s.geometry) (first_waiting_of s ds)
first_gone stream s [] so made = record { made = tt; within = tt }
first_gone stream s (d ∷ ds) so made =
    cond_both (may_go s.geometry s.flow d) (d ∷ []) [] (λ (it : List Datagram). HaveGone stream (s.flow.consumed + window s.geometry) it)
    (λ may. record { made = (made.0, tt); within = (goes_within s d so may, tt) })
    (λ held. record { made = tt; within = tt })

asked_gone : (stream : List (ℕ × Frame)) (most : ℕ) (ds : List Datagram) → HaveGone stream most ds → HaveGone stream most (first_asked_of ds)
asked_gone stream most [] here = here
asked_gone stream most (d ∷ ds) here =
    cond_both d.is_repeat_asked (d ∷ []) (first_asked_of ds) (λ (it : List Datagram). HaveGone stream most it)
    (λ asked. record { made = (here.made.0, tt); within = (here.within.0, tt) })
    (λ other. asked_gone stream most ds (record { made = here.made.1; within = here.within.1 }))

nothing_gone : (stream : List (ℕ × Frame)) (most : ℕ) → HaveGone stream most []
nothing_gone stream most = record { made = tt; within = tt }

call_goes : (stream : List (ℕ × Frame)) (c : Call) (s : Sending) → IsWithinReach s → IsMadeSending stream s → HaveGone stream (s.flow.consumed + window s.geometry) (goes_out c s)
call_goes stream (Lay p f) s so made = nothing_gone stream _
call_goes stream (Hear now status) s so made = nothing_gone stream _
call_goes stream (Ask now nak) s so made = nothing_gone stream _
call_goes stream (Send now) s so made = first_gone stream s s.waiting so made.waiting
call_goes stream (Repeat now) s so made = asked_gone stream (s.flow.consumed + window s.geometry) s.sent (record { made = made.sent; within = so.sent })
call_goes stream (NoteSetup now) s so made = nothing_gone stream _
call_goes stream (NoteHeartbeat now) s so made = nothing_gone stream _
call_goes stream End s so made = nothing_gone stream _

-- ---- the sender

-- a call leaves the terms, and what is consumed does not fall and is true
pub record IsCalled (limit : ℕ) (old new : Sending) : Type 0 where
  pub geometry : new.geometry ≡ old.geometry
  pub up : old.flow.consumed ≤ new.flow.consumed
  pub true_of : new.flow.consumed ≤ max old.flow.consumed limit

kept : (limit : ℕ) (old new : Sending) → new.geometry ≡ old.geometry → new.flow.consumed ≡ old.flow.consumed → IsCalled limit old new
kept limit old new geometry consumed = record { geometry = geometry; up = omega (arith, consumed); true_of = omega (arith, consumed) }

pub called : (r : Received) (c : Call) (s : Sending) → IsTrueOf s.geometry r c → IsCalled (rebuilt r) s (sending_after c s)
called r (Lay p f) s is = kept (rebuilt r) s _ refl refl
called r (Hear now status) s is =
    let it = heard s.geometry s.publication now status s.flow in
    record { geometry = refl; up = it.consumed; true_of = hearing_consumes s.geometry s.publication now status s.flow (rebuilt r) is }
called r (Ask now nak) s is =
    cond_both (is_nak_of s.publication nak) (after_repeat_request now nak (position_of s.geometry nak.term_id nak.term_offset) s) s (λ (it : Sending). IsCalled (rebuilt r) s it)
    (λ ours. requests (position_of s.geometry nak.term_id nak.term_offset))
    (λ other. kept (rebuilt r) s s refl refl)
  where
    requests : (found : Option ℕ) → IsCalled (rebuilt r) s (after_repeat_request now nak found s)
    requests None = kept (rebuilt r) s s refl refl
    requests (Some p) = kept (rebuilt r) s _ refl refl
called r (Send now) s is = sends s.waiting where
  sends : (ds : List Datagram) → IsCalled (rebuilt r) s (after_first now ds s)
  sends [] = kept (rebuilt r) s s refl refl
  sends (d ∷ ds) =
      cond_both (may_go s.geometry s.flow d) _ s (λ (it : Sending). IsCalled (rebuilt r) s it)
      (λ may. kept (rebuilt r) s _ refl refl)
      (λ held. kept (rebuilt r) s s refl refl)
called r (Repeat now) s is = kept (rebuilt r) s _ refl refl
called r (NoteSetup now) s is = kept (rebuilt r) s _ refl refl
called r (NoteHeartbeat now) s is = kept (rebuilt r) s _ refl refl
called r End s is = kept (rebuilt r) s _ refl refl

-- ---- what comes

-- a frame of a run, at its position
record IsIn (ms : List (ℕ × Frame)) (f : Frame) : Type 0 where
  at : ℕ × Frame
  among : IsAmong at ms
  is : f ≡ at.1

find_frame : (f : Frame) (ms : List (ℕ × Frame)) → HasCome (frames_of ms) f → IsIn ms f
find_frame f [] has = elim has [ ]
find_frame f (m ∷ ms) (inl is) = record { at = m; among = inl refl; is = is }
find_frame f (m ∷ ms) (inr has) = let rest = find_frame f ms has in record { at = rest.at; among = inr rest.among; is = rest.is }

ends_below : (p q : ℕ) (m : ℕ × Frame) (ms : List (ℕ × Frame)) → IsChain p ms q → IsAmong m ms → end_of m ≤ q
ends_below p q m [] chain here = elim here [ ]
ends_below p q m (x ∷ ms) chain (inl is) = rw is (chain_up (end_of x) q ms chain.2)
ends_below p q m (x ∷ ms) chain (inr here) = ends_below (end_of x) q m ms chain.2 here

recorded_has : (stream : List (ℕ × Frame)) (f : Frame) (fs : List Frame) → AreRecorded stream fs → HasCome fs f → IsRecorded stream f
recorded_has stream f [] recorded has = elim has [ ]
recorded_has stream f (x ∷ fs) recorded (inl is) = rw is recorded.0
recorded_has stream f (x ∷ fs) recorded (inr has) = recorded_has stream f fs recorded.1 has

pub comes_recorded : (g : Geometry) (publication : Publication) (from to : ℕ) (stream : List (ℕ × Frame)) (out : List Datagram) (f : Frame) → IsRecordedStream g publication from stream to
    → AreMadeOf stream out → MayCome out f → IsRecorded stream f
comes_recorded g publication from to stream out f is made (inl heartbeat) = inl heartbeat
comes_recorded g publication from to stream out f is made (inr read) =
    recorded_has stream f read.frames
    (read_alone g publication from to stream read.datagram read.frames is (made_gone stream out read.datagram made read.gone) read.reads)
    read.has

-- where a frame of a datagram ends
read_below : (g : Geometry) (publication : Publication) (from to most p : ℕ) (stream : List (ℕ × Frame)) (out : List Datagram) (f : Frame) → IsRecordedStream g publication from stream to
    → HaveGone stream most out → IsReadBack out f → IsAmong (p, f) stream → p + aligned_length f ≤ most
read_below g publication from to most p stream out f is gone read here = ends where
  d : Datagram
  d = read.datagram

  made : IsMadeOf stream d
  made = made_gone stream out d gone.made read.gone

  same : read.frames ≡ frames_of (made.messages ++ made.pad)
  same = one_list d.bytes read.frames (frames_of (made.messages ++ made.pad)) read.reads (is_datagram g publication stream d is.members made)

  found : IsIn (made.messages ++ made.pad) f
  found = find_frame f (made.messages ++ made.pad) (subst (λ (fs : List Frame). HasCome fs f) same read.has)

  there : IsAmong found.at stream
  there = among_all stream (made.messages ++ made.pad) found.at (among_both stream made.messages made.pad made.among.0 made.among.1) found.among

  at : found.at.0 ≡ p
  at =
      let one = (member_of g publication p f stream is.members here).lies in
      let other = (member_of g publication found.at.0 found.at.1 stream is.members there).lies in
      let fs = found.is in
      grind (arith, one, other, fs)

  ends : p + aligned_length f ≤ most
  ends =
      let low = ends_below d.position d.end found.at (made.messages ++ made.pad) made.follows found.among in
      let high = within_gone most out d gone.within read.gone in
      let size : aligned_length f ≡ aligned_length found.at.1 = ap aligned_length found.is in
      omega (arith, low, high, at, size)

pub comes_in_reach : (g : Geometry) (publication : Publication) (from to most : ℕ) (stream : List (ℕ × Frame)) (out : List Datagram) (r : Received) (f : Frame) → IsRecordedStream g publication from stream to
    → HaveGone stream most out → most ≤ rebuilt r + window r.geometry → MayCome out f → IsInReach r.geometry stream (rebuilt r) f
comes_in_reach g publication from to most stream out r f is gone furthest (inl heartbeat) p here =
    absurd (no_heartbeat g publication p f (member_of g publication p f stream is.members here).lies heartbeat)
comes_in_reach g publication from to most stream out r f is gone furthest (inr read) p here =
    let below = read_below g publication from to most p stream out f is gone read here in
    omega (arith, below, furthest)

-- ---- the meeting

pub record IsMeeting (g : Geometry) (publication : Publication) (from : ℕ) (stream : List (ℕ × Frame)) (out : List Datagram) (s : Sending) (r : Received) : Type 0 where
  pub sender : IsWithinReach s
  pub made : IsMadeSending stream s
  pub geometry : s.geometry ≡ g
  pub gone : HaveGone stream (s.flow.consumed + window s.geometry) out
  pub true_of : s.flow.consumed ≤ rebuilt r
  pub image : IsImageOf g publication stream from r

pub meeting_called : (g : Geometry) (publication : Publication) (from to : ℕ) (stream : List (ℕ × Frame)) (out : List Datagram) (s : Sending) (r : Received) (c : Call) → IsRecordedStream g publication from stream to
    → LaysOfStream stream c → IsTrueOf s.geometry r c → IsMeeting g publication from stream out s r → IsMeeting g publication from stream (out ++ goes_out c s) (sending_after c s) r
meeting_called g publication from to stream out s r c is of truth so =
    let it = called r c s truth in
    let same : window (sending_after c s).geometry ≡ window s.geometry = ap window it.geometry in
    let up : s.flow.consumed + window s.geometry ≤ (sending_after c s).flow.consumed + window (sending_after c s).geometry = omega (arith, it.up, same) in
    record {
      sender = call_within c s so.sender;
      made = made_call g publication stream c s is.members of so.made;
      geometry = it.geometry ∙ so.geometry;
      gone = gone_both stream _ out (goes_out c s) (gone_further stream _ _ out up so.gone) (gone_further stream _ _ (goes_out c s) up (call_goes stream c s so.sender so.made));
      true_of = let before = so.true_of in omega (arith, it.true_of);
      image = so.image;
    }

meeting_came : (g : Geometry) (publication : Publication) (from to : ℕ) (stream : List (ℕ × Frame)) (out : List Datagram) (s : Sending) (r : Received) (f : Frame) → IsRecordedStream g publication from stream to
    → IsRecorded stream f → IsMeeting g publication from stream out s r → IsMeeting g publication from stream out s (received r f)
meeting_came g publication from to stream out s r f is recorded so = record {
  sender = so.sender;
  made = so.made;
  geometry = so.geometry;
  gone = so.gone;
  true_of = let before = so.true_of in let up = rebuilt_up g publication stream from r f so.image in omega arith;
  image = image_received g publication stream from r f is.members recorded so.image;
}

-- what comes is of the stream, and in reach
record IsReceived (stream : List (ℕ × Frame)) (r : Received) (fs : List Frame) : Type 0 where
  recorded : AreRecorded stream fs
  furthest : AreInReach stream r fs

meets : (g : Geometry) (publication : Publication) (from to : ℕ) (stream : List (ℕ × Frame)) (ts : List Turn) (out : List Datagram) (s : Sending) (r : Received) → IsRecordedStream g publication from stream to
    → IsMeeting g publication from stream out s r → Meet stream ts out s r → IsReceived stream r (came ts)
meets g publication from to stream [] out s r is so meet = record { recorded = tt; furthest = tt }
meets g publication from to stream (Called c ∷ ts) out s r is so meet =
    meets g publication from to stream ts (out ++ goes_out c s) (sending_after c s) r is (meeting_called g publication from to stream out s r c is meet.0 meet.1 so) meet.2
meets g publication from to stream (Came f ∷ ts) out s r is so meet =
    let recorded = comes_recorded g publication from to stream out f is so.gone.made meet.0 in
    let same : window r.geometry ≡ window s.geometry = ap window (so.image.geometry ∙ sym so.geometry) in
    let low = so.true_of in
    let furthest = comes_in_reach g publication from to (s.flow.consumed + window s.geometry) stream out r f is so.gone (omega (arith, same, low)) meet.0 in
    let rest = meets g publication from to stream ts out s (received r f) is (meeting_came g publication from to stream out s r f is recorded so) meet.1 in
    record { recorded = (recorded, rest.recorded); furthest = (furthest, rest.furthest) }

pub starts : (g : Geometry) (publication : Publication) (from : ℕ) (stream : List (ℕ × Frame)) → IsMeeting g publication from stream [] (new_sending g publication from) (begun g publication from)
starts g publication from stream = record {
  sender = all_within g publication from [];
  made = record { sent = tt; waiting = tt };
  geometry = refl;
  gone = record { made = tt; within = tt };
  true_of = omega arith;
  image = image_begun g publication stream from;
}

pub meeting_alone : (g : Geometry) (publication : Publication) (from to : ℕ) (stream : List (ℕ × Frame)) (ts : List Turn) → IsRecordedStream g publication from stream to
    → Meet stream ts [] (new_sending g publication from) (begun g publication from) → HoldsAlone stream (received_all (begun g publication from) (came ts))
meeting_alone g publication from to stream ts is meet =
    holds_alone g publication from to from stream (came ts) is
    (meets g publication from to stream ts [] (new_sending g publication from) (begun g publication from) is (starts g publication from stream) meet).recorded

pub meeting_copies : (g : Geometry) (publication : Publication) (from to front : ℕ) (stream firsts : List (ℕ × Frame)) (ts : List Turn) → IsRecordedStream g publication from stream to
    → Meet stream ts [] (new_sending g publication from) (begun g publication from) → AreFirst from stream firsts front → HaveCome (came ts) firsts
    → BeginsWith firsts front (received_all (begun g publication from) (came ts))
meeting_copies g publication from to front stream firsts ts is meet first all =
    let it = meets g publication from to stream ts [] (new_sending g publication from) (begun g publication from) is (starts g publication from stream) meet in
    copied g publication from to front stream firsts (came ts) is first it.recorded it.furthest all
