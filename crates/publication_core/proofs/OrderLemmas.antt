-- A sender sends the frames that were laid, in order.
use Rattle.std.proofs.Common.{◌≡◌, ◌∙◌, sym, ap, refl, subst, ◌+◌, ◌<◌, ℕ, List, [], ◌∷◌, ◌++◌, Bool, true, false, Option, Some, None, append_assoc, append-nil}
use Rattle.std.specs.Prelude.{if◌then◌else◌}
use Rattle.std.proofs.lemmas.Bool.{cond_both}
use Rattle.frame_core.specs.declared.block.Publication.{Publication}
use Rattle.frame_core.specs.declared.frame.Frame.{Frame}
use Rattle.frame_core.specs.declared.geometry.Geometry.{Geometry}
use Rattle.frame_core.specs.declared.nak.Nak.{Nak}
use Rattle.frame_core.specs.FrameEncoding.{aligned_length, stored}
use Rattle.frame_core.specs.Position.{position_of}
use Rattle.image_core.specs.Received.{IsChain}
use Rattle.image_core.proofs.ChainLemmas.{chain_append}
use Rattle.publication_core.specs.declared.datagram.Datagram.{Datagram}
use Rattle.publication_core.specs.Datagrams.{alone, has_room, laid, with_next_frame}
use Rattle.publication_core.specs.Flows.{after_datagram, may_go}
use Rattle.publication_core.specs.Meeting.{first_waiting_of}
use Rattle.publication_core.specs.Order.{AreRunsOf, SendsInOrder, firsts, laid_by}
use Rattle.publication_core.specs.Runs.{Call, sending_after, after_calls, after_first, Lay, Hear, Ask, Send, Repeat, NoteSetup, NoteHeartbeat, End}
use Rattle.publication_core.specs.Sending.{Sending, after_repeat_request, is_nak_of, new_sending}
use Rattle.publication_core.proofs.MadeLemmas.{stored_end}
use Rattle.publication_core.proofs.ReachLemmas.{heard}

-- one more frame is laid at the end
runs_alone : (p : ℕ) (f : Frame) → 0 < aligned_length f → AreRunsOf p (alone p f ∷ []) ((p, f) ∷ []) (p + aligned_length f)
runs_alone p f some = ((p, f) ∷ [], [], refl, refl, (refl, some, refl), sym (append-nil (stored f)), (refl, refl))

pub runs_laid : (g : Geometry) (q p : ℕ) (f : Frame) (ds : List Datagram) (frames : List (ℕ × Frame)) → 0 < aligned_length f → AreRunsOf q ds frames p
    → AreRunsOf q (laid g p f ds) (frames ++ (p, f) ∷ []) (p + aligned_length f)
runs_laid g q p f [] frames some (none, at) =
    rw (none, at) (runs_alone p f some)
runs_laid g q p f (d ∷ []) frames some (run, rest, split, at, chain, bytes, (none, end)) = by_room (has_room g d p f) where
  all : frames ≡ run
  all = split ∙ ap (λ (ms : List (ℕ × Frame)). run ++ ms) none ∙ append-nil run

  by_room : (b : Bool) → AreRunsOf q (if b then with_next_frame d p f ∷ [] else d ∷ alone p f ∷ []) (frames ++ (p, f) ∷ []) (p + aligned_length f)
  by_room true = (
    run ++ (p, f) ∷ [],
    [],
    ap (λ (ms : List (ℕ × Frame)). ms ++ (p, f) ∷ []) all ∙ sym (append-nil (run ++ (p, f) ∷ [])),
    at,
    chain_append q p (p + aligned_length f) run ((p, f) ∷ []) (subst (λ (e : ℕ). IsChain q run e) end chain) (refl, some, refl),
    ap (λ (xs : List ℕ). xs ++ stored f) bytes ∙ sym (stored_end (p, f) run),
    (refl, refl),
  )
  by_room false = (
    run,
    (p, f) ∷ [],
    ap (λ (ms : List (ℕ × Frame)). ms ++ (p, f) ∷ []) all,
    at,
    chain,
    bytes,
    rw end (runs_alone p f some),
  )
runs_laid g q p f (d ∷ e ∷ ds) frames some (run, rest, split, at, chain, bytes, others) = (
  run,
  rest ++ (p, f) ∷ [],
  ap (λ (ms : List (ℕ × Frame)). ms ++ (p, f) ∷ []) split ∙ append_assoc run rest ((p, f) ∷ []),
  at,
  chain,
  bytes,
  runs_laid g d.end p f (e ∷ ds) rest some others,
)

-- ---- calls

-- what some further calls make of any sender whose frames wait in order
abbrev GoesOn : List Call → ℕ → Type 0
GoesOn cs last =
    (s : Sending) (rest : List (ℕ × Frame)) (next : ℕ) → AreRunsOf s.flow.position s.waiting rest next → IsChain next (laid_by cs) last
    → SendsInOrder s.flow.position (rest ++ laid_by cs) (firsts cs s) (after_calls cs s) last

send_in_order : (now : ℕ) (cs : List Call) (last next : ℕ) (s : Sending) (ds : List Datagram) (rest : List (ℕ × Frame)) → GoesOn cs last
    → AreRunsOf s.flow.position s.waiting rest next → AreRunsOf s.flow.position ds rest next → IsChain next (laid_by cs) last
    → SendsInOrder s.flow.position (rest ++ laid_by cs) (first_waiting_of s ds ++ firsts cs (after_first now ds s)) (after_calls cs (after_first now ds s)) last
send_in_order now cs last next s [] rest on held runs chain = on s rest next held chain
send_in_order now cs last next s (d ∷ ds) rest on held (run, others, split, at, chained, bytes, tail) chain = by_may (may_go s.geometry s.flow d) where
  new : Sending
  new = record s { flow = after_datagram now d.end s.flow; sent = s.sent ++ d ∷ []; waiting = ds }

  by_may : (b : Bool) → SendsInOrder s.flow.position (rest ++ laid_by cs) ((if b then d ∷ [] else []) ++ firsts cs (if b then new else s)) (after_calls cs (if b then new else s)) last
  by_may true =
      let it = on new others next tail chain in
      record {
        sent = run ++ it.sent;
        rest = it.rest;
        split =
            ap (λ (ms : List (ℕ × Frame)). ms ++ laid_by cs) split
            ∙ append_assoc run others (laid_by cs)
            ∙ ap (λ (ms : List (ℕ × Frame)). run ++ ms) it.split
            ∙ sym (append_assoc run it.sent it.rest);
        went = (run, it.sent, refl, at, chained, bytes, it.went);
        waits = it.waits;
      }
  by_may false = on s rest next held chain

ask_in_order : (now : ℕ) (nak : Nak) (found : Option ℕ) (cs : List Call) (last next : ℕ) (s : Sending) (rest : List (ℕ × Frame)) → GoesOn cs last
    → AreRunsOf s.flow.position s.waiting rest next → IsChain next (laid_by cs) last
    → SendsInOrder s.flow.position (rest ++ laid_by cs) (firsts cs (after_repeat_request now nak found s)) (after_calls cs (after_repeat_request now nak found s)) last
ask_in_order now nak None cs last next s rest on runs chain = on s rest next runs chain
ask_in_order now nak (Some p) cs last next s rest on runs chain = on (after_repeat_request now nak (Some p) s) rest next runs chain

in_order : (cs : List Call) (last : ℕ) → GoesOn cs last
in_order [] last s rest next runs chain = record {
  sent = [];
  rest = rest;
  split = append-nil rest;
  went = (refl, refl);
  waits = subst (λ (to : ℕ). AreRunsOf s.flow.position s.waiting rest to) chain runs;
}
in_order (Lay p f ∷ cs) last s rest next runs (at, some, chain) =
    subst (λ (frames : List (ℕ × Frame)). SendsInOrder s.flow.position frames (firsts cs (sending_after (Lay p f) s)) (after_calls cs (sending_after (Lay p f) s)) last)
    (append_assoc rest ((p, f) ∷ []) (laid_by cs))
    (in_order cs last (sending_after (Lay p f) s) (rest ++ (p, f) ∷ []) (p + aligned_length f)
    (runs_laid s.geometry s.flow.position p f s.waiting rest some (subst (λ (to : ℕ). AreRunsOf s.flow.position s.waiting rest to) at runs))
    chain)
in_order (Hear now status ∷ cs) last s rest next runs chain =
    let same = (heard s.geometry s.publication now status s.flow).position in
    subst (λ (p : ℕ). SendsInOrder p (rest ++ laid_by cs) (firsts cs (sending_after (Hear now status) s)) (after_calls cs (sending_after (Hear now status) s)) last) same
    (in_order cs last (sending_after (Hear now status) s) rest next (subst (λ (p : ℕ). AreRunsOf p s.waiting rest next) (sym same) runs) chain)
in_order (Ask now nak ∷ cs) last s rest next runs chain =
    cond_both (is_nak_of s.publication nak) (after_repeat_request now nak (position_of s.geometry nak.term_id nak.term_offset) s) s
    (λ (it : Sending). SendsInOrder s.flow.position (rest ++ laid_by cs) (firsts cs it) (after_calls cs it) last)
    (λ ours. ask_in_order now nak (position_of s.geometry nak.term_id nak.term_offset) cs last next s rest (in_order cs last) runs chain)
    (λ other. in_order cs last s rest next runs chain)
in_order (Send now ∷ cs) last s rest next runs chain = send_in_order now cs last next s s.waiting rest (in_order cs last) runs runs chain
in_order (Repeat now ∷ cs) last s rest next runs chain = in_order cs last (sending_after (Repeat now) s) rest next runs chain
in_order (NoteSetup now ∷ cs) last s rest next runs chain = in_order cs last (sending_after (NoteSetup now) s) rest next runs chain
in_order (NoteHeartbeat now ∷ cs) last s rest next runs chain = in_order cs last (sending_after (NoteHeartbeat now) s) rest next runs chain
in_order (End ∷ cs) last s rest next runs chain = in_order cs last (sending_after End s) rest next runs chain

pub all_in_order : (g : Geometry) (publication : Publication) (from to : ℕ) (cs : List Call) → IsChain from (laid_by cs) to
    → SendsInOrder from (laid_by cs) (firsts cs (new_sending g publication from)) (after_calls cs (new_sending g publication from)) to
all_in_order g publication from to cs chain = in_order cs to (new_sending g publication from) [] from (refl, refl) chain
