-- Frames that follow one another wait in order.
use Rattle.std.proofs.Common.{sym, refl, subst, ◌+◌, ℕ, List, [], ◌∷◌, ◌++◌, Option, Some, None}
use Rattle.std.proofs.lemmas.Bool.{cond_both}
use Rattle.frame_core.specs.declared.block.Publication.{Publication}
use Rattle.frame_core.specs.declared.frame.Frame.{Frame}
use Rattle.frame_core.specs.declared.geometry.Geometry.{Geometry}
use Rattle.frame_core.specs.declared.nak.Nak.{Nak}
use Rattle.frame_core.specs.FrameEncoding.{aligned_length}
use Rattle.frame_core.specs.Position.{position_of}
use Rattle.image_core.specs.Received.{IsChain}
use Rattle.publication_core.specs.declared.datagram.Datagram.{Datagram}
use Rattle.publication_core.specs.Flows.{after_datagram, may_go}
use Rattle.publication_core.specs.Order.{AreRunsOf, laid_by}
use Rattle.publication_core.specs.Runs.{Call, sending_after, after_first, Lay, Hear, Ask, Send, Repeat, NoteSetup, NoteHeartbeat, End}
use Rattle.publication_core.specs.Sending.{Sending, after_repeat_request, is_nak_of, new_sending}
use Rattle.publication_core.proofs.OrderLemmas.{runs_laid}
use Rattle.publication_core.proofs.ReachLemmas.{heard}

-- ---- what waits

-- what waits follows the sender position, and what further calls lay follows that, up to a position
pub record IsOrdered (s : Sending) (cs : List Call) (last : ℕ) : Type 0 where
  pub rest : List (ℕ × Frame)
  pub next : ℕ
  pub runs : AreRunsOf s.flow.position s.waiting rest next
  pub chain : IsChain next (laid_by cs) last

ordered_first : (now last : ℕ) (cs : List Call) (s : Sending) (ds : List Datagram) (rest : List (ℕ × Frame)) (next : ℕ) → AreRunsOf s.flow.position ds rest next
    → IsChain next (laid_by cs) last → IsOrdered s cs last → IsOrdered (after_first now ds s) cs last
ordered_first now last cs s [] rest next runs chain is = is
ordered_first now last cs s (d ∷ ds) rest next (run, others, split, at, chained, bytes, tail) chain is =
    cond_both (may_go s.geometry s.flow d) (record s { flow = after_datagram now d.end s.flow; sent = s.sent ++ d ∷ []; waiting = ds }) s (λ (it : Sending). IsOrdered it cs last)
    (λ may. record { rest = others; next = next; runs = tail; chain = chain })
    (λ held. is)

ordered_request : (now last : ℕ) (cs : List Call) (nak : Nak) (found : Option ℕ) (s : Sending) → IsOrdered s cs last → IsOrdered (after_repeat_request now nak found s) cs last
ordered_request now last cs nak None s is = is
ordered_request now last cs nak (Some p) s is = record { rest = is.rest; next = is.next; runs = is.runs; chain = is.chain }

-- it stays so
pub ordered_call : (last : ℕ) (c : Call) (cs : List Call) (s : Sending) → IsOrdered s (c ∷ cs) last → IsOrdered (sending_after c s) cs last
ordered_call last (Lay p f) cs s is =
    let chain = is.chain in
    record {
      rest = is.rest ++ (p, f) ∷ [];
      next = p + aligned_length f;
      runs = runs_laid s.geometry s.flow.position p f s.waiting is.rest chain.1 (subst (λ (to : ℕ). AreRunsOf s.flow.position s.waiting is.rest to) chain.0 is.runs);
      chain = chain.2;
    }
ordered_call last (Hear now status) cs s is =
    let same = (heard s.geometry s.publication now status s.flow).position in
    record { rest = is.rest; next = is.next; runs = subst (λ (p : ℕ). AreRunsOf p s.waiting is.rest is.next) (sym same) is.runs; chain = is.chain }
ordered_call last (Ask now nak) cs s is =
    cond_both (is_nak_of s.publication nak) (after_repeat_request now nak (position_of s.geometry nak.term_id nak.term_offset) s) s (λ (it : Sending). IsOrdered it cs last)
    (λ ours. ordered_request now last cs nak (position_of s.geometry nak.term_id nak.term_offset) s (record { rest = is.rest; next = is.next; runs = is.runs; chain = is.chain }))
    (λ other. record { rest = is.rest; next = is.next; runs = is.runs; chain = is.chain })
ordered_call last (Send now) cs s is = ordered_first now last cs s s.waiting is.rest is.next is.runs is.chain (record { rest = is.rest; next = is.next; runs = is.runs; chain = is.chain })
ordered_call last (Repeat now) cs s is = record { rest = is.rest; next = is.next; runs = is.runs; chain = is.chain }
ordered_call last (NoteSetup now) cs s is = record { rest = is.rest; next = is.next; runs = is.runs; chain = is.chain }
ordered_call last (NoteHeartbeat now) cs s is = record { rest = is.rest; next = is.next; runs = is.runs; chain = is.chain }
ordered_call last End cs s is = record { rest = is.rest; next = is.next; runs = is.runs; chain = is.chain }

pub ordered_new : (g : Geometry) (publication : Publication) (from last : ℕ) (cs : List Call) → IsChain from (laid_by cs) last → IsOrdered (new_sending g publication from) cs last
ordered_new g publication from last cs chain = record { rest = []; next = from; runs = (refl, refl); chain = chain }
