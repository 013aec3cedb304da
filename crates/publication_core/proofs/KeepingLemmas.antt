-- What was consumed is not kept.
use Rattle.std.proofs.Common.{◌≡◌, sym, refl, subst, ◌+◌, ◌≤◌, ◌<◌, ℕ, List, [], ◌∷◌, ◌++◌, Bool, true, false, Option, Some, None, arith}
use Rattle.std.specs.Prelude.{◌&&◌, map, nat_le, not, unsigned_abs, if◌then◌else◌}
use Rattle.std.specs.List.{AllByRecursion}
use Rattle.std.proofs.lemmas.Bool.{cond_both}
use Rattle.std.proofs.lemmas.Bool.Decides.{nat_tests}
use Rattle.frame_core.specs.declared.block.Publication.{Publication}
use Rattle.frame_core.specs.declared.frame.Frame.{Frame}
use Rattle.frame_core.specs.declared.geometry.Geometry.{Geometry}
use Rattle.frame_core.specs.declared.nak.Nak.{Nak}
use Rattle.frame_core.specs.declared.status.StatusMessage.{StatusMessage}
use Rattle.frame_core.specs.FrameEncoding.{aligned_length}
use Rattle.frame_core.specs.Position.{position_of}
use Rattle.image_core.specs.Received.{IsChain}
use Rattle.publication_core.specs.declared.datagram.Datagram.{Datagram}
use Rattle.publication_core.specs.declared.flow.Flow.{Flow}
use Rattle.publication_core.specs.Datagrams.{after_repeat, alone, has_room, laid, marked, may_repeat, meets, repeated, unconsumed, with_next_frame}
use Rattle.publication_core.specs.Flows.{after_consumption, after_datagram, asks_for_setup, flow_after_hearing, is_status_of, may_go}
use Rattle.publication_core.specs.Keeping.{EndsPast}
use Rattle.publication_core.specs.Order.{laid_by}
use Rattle.publication_core.specs.Runs.{Call, sending_after, after_calls, after_first, Lay, Hear, Ask, Send, Repeat, NoteSetup, NoteHeartbeat, End}
use Rattle.publication_core.specs.Sending.{Sending, after_repeat_request, is_nak_of, new_sending}

-- ---- lists

-- datagrams end further and further, from past a position up to another
abbrev AreRising : ℕ → List Datagram → ℕ → Type 0
AreRising low [] high = low ≤ high
AreRising low (d ∷ ds) high = (low < d.end) × AreRising d.end ds high

rising_end : (low high : ℕ) (d : Datagram) (ds : List Datagram) → AreRising low ds high → high < d.end → AreRising low (ds ++ d ∷ []) d.end
rising_end low high d [] rising up = (omega (arith, rising, up), omega arith)
rising_end low high d (x ∷ ds) rising up = (rising.0, rising_end x.end high d ds rising.1 up)

rising_unconsumed : (low high consumed : ℕ) (ds : List Datagram) → AreRising low ds high → low ≤ consumed → consumed ≤ high → AreRising consumed (unconsumed consumed ds) high
rising_unconsumed low high consumed [] rising up most = most
rising_unconsumed low high consumed (d ∷ ds) rising up most = by_end (nat_le d.end consumed) refl (λ gone. rising_unconsumed d.end high consumed ds rising.1 gone most) where
  by_end : (b : Bool) → nat_le d.end consumed ≡ b → (d.end ≤ consumed → AreRising consumed (unconsumed consumed ds) high)
      → AreRising consumed (if b then unconsumed consumed ds else d ∷ ds) high
  by_end true gone on = on (grind (arith, nat_tests, gone))
  by_end false kept on = (grind (arith, nat_tests, kept), rising.1)

-- whatever is asked for again
abbrev HasEnd : ℕ → Datagram → Type 0
HasEnd p d = d.end ≡ p

rising_marked : (low high now from to : ℕ) (ds : List Datagram) → AreRising low ds high → AreRising low (map (marked now from to) ds) high
rising_marked low high now from to [] rising = rising
rising_marked low high now from to (d ∷ ds) rising =
    let same : HasEnd d.end (marked now from to d) =
    cond_both (meets from to d && may_repeat now d.again_at) (record d { is_repeat_asked = true }) d (λ (it : Datagram). HasEnd d.end it) (λ asked. refl) (λ other. refl) in
    rw same (rising.0, rising_marked d.end high now from to ds rising.1)

rising_repeat : (low high now : ℕ) (ds : List Datagram) → AreRising low ds high → AreRising low (after_repeat now ds) high
rising_repeat low high now [] rising = rising
rising_repeat low high now (d ∷ ds) rising =
    cond_both d.is_repeat_asked (repeated now d ∷ ds) (d ∷ after_repeat now ds) (λ (it : List Datagram). AreRising low it high)
    (λ asked. rising)
    (λ other. (rising.0, rising_repeat d.end high now ds rising.1))

rising_laid : (g : Geometry) (low p : ℕ) (f : Frame) (ds : List Datagram) → 0 < aligned_length f → AreRising low ds p → AreRising low (laid g p f ds) (p + aligned_length f)
rising_laid g low p f [] some rising = (omega (arith, some, rising), omega arith)
rising_laid g low p f (d ∷ []) some rising = by_room (has_room g d p f) where
  by_room : (b : Bool) → AreRising low (if b then with_next_frame d p f ∷ [] else d ∷ alone p f ∷ []) (p + aligned_length f)
  by_room true = let first = rising.0 in let last = rising.1 in (omega (arith, some, first, last), omega arith)
  by_room false = let last = rising.1 in (rising.0, (omega (arith, some, last), omega arith))
rising_laid g low p f (d ∷ e ∷ ds) some rising = (rising.0, rising_laid g d.end p f (e ∷ ds) some rising.1)

rising_past : (low high : ℕ) (ds : List Datagram) → AreRising low ds high → (p : ℕ) → p ≤ low → AllByRecursion (EndsPast p) ds
rising_past low high [] rising p under = tt
rising_past low high (d ∷ ds) rising p under =
    let first = rising.0 in
    let here : p < d.end = omega (arith, first, under) in
    (here, rising_past d.end high ds rising.1 p (omega (arith, here)))

-- ---- calls

-- what was sent ends past what was consumed, up to the sender position; what waits ends past that, and what further calls lay follows
pub record IsKept (s : Sending) (cs : List Call) (last : ℕ) : Type 0 where
  pub consumed : s.flow.consumed ≤ s.flow.position
  pub sent : AreRising s.flow.consumed s.sent s.flow.position
  pub next : ℕ
  pub waiting : AreRising s.flow.position s.waiting next
  pub chain : IsChain next (laid_by cs) last

-- what was consumed was sent
record IsConsumed (old new : Flow) : Type 0 where
  low : old.consumed ≤ new.consumed
  high : new.consumed ≤ new.position
  position : new.position ≡ old.position

consumption : (g : Geometry) (now : ℕ) (status : StatusMessage) (named : Option ℕ) (f : Flow) → f.consumed ≤ f.position → IsConsumed f (after_consumption g now status named f)
consumption g now status None f most = record { low = omega arith; high = most; position = refl }
consumption g now status (Some p) f most = record { low = omega arith; high = omega (arith, most); position = refl }

consumed_by : (g : Geometry) (publication : Publication) (now : ℕ) (status : StatusMessage) (f : Flow) → f.consumed ≤ f.position → IsConsumed f (flow_after_hearing g publication now status f)
consumed_by g publication now status f most =
    cond_both (not (is_status_of publication status)) f _ (λ (it : Flow). IsConsumed f it)
    (λ other. record { low = omega arith; high = most; position = refl })
    (λ ours. cond_both (asks_for_setup status) (record f { is_setup_asked = true }) _ (λ (it : Flow). IsConsumed f it)
    (λ asks. record { low = omega arith; high = most; position = refl })
    (λ tells. consumption g now status (position_of g status.consumption_term_id status.consumption_term_offset) f most))

-- a call that lays nothing leaves what follows
goes_on : (last : ℕ) (c : Call) (cs : List Call) (s : Sending) → laid_by (c ∷ cs) ≡ laid_by cs → IsKept s (c ∷ cs) last → IsKept s cs last
goes_on last c cs s none kept =
    record { consumed = kept.consumed; sent = kept.sent; next = kept.next; waiting = kept.waiting; chain = subst (λ (ms : List (ℕ × Frame)). IsChain kept.next ms last) none kept.chain }

kept_request : (now last : ℕ) (cs : List Call) (nak : Nak) (found : Option ℕ) (s : Sending) → IsKept s cs last → IsKept (after_repeat_request now nak found s) cs last
kept_request now last cs nak None s kept = kept
kept_request now last cs nak (Some p) s kept = record {
  consumed = kept.consumed;
  sent = rising_marked s.flow.consumed s.flow.position now p (p + unsigned_abs nak.length) s.sent kept.sent;
  next = kept.next;
  waiting = kept.waiting;
  chain = kept.chain;
}

kept_first : (now last next : ℕ) (cs : List Call) (ds : List Datagram) (s : Sending) → AreRising s.flow.position ds next → IsChain next (laid_by cs) last → IsKept s cs last
    → IsKept (after_first now ds s) cs last
kept_first now last next cs [] s waits chain kept = kept
kept_first now last next cs (d ∷ ds) s waits chain kept =
    cond_both (may_go s.geometry s.flow d) (record s { flow = after_datagram now d.end s.flow; sent = s.sent ++ d ∷ []; waiting = ds }) s (λ (it : Sending). IsKept it cs last)
    (λ may. record {
      consumed = let most = kept.consumed in let up = waits.0 in omega (arith, most, up);
      sent = rising_end s.flow.consumed s.flow.position d s.sent kept.sent waits.0;
      next = next;
      waiting = waits.1;
      chain = chain;
    })
    (λ held. kept)

kept_call : (last : ℕ) (c : Call) (cs : List Call) (s : Sending) → IsKept s (c ∷ cs) last → IsKept (sending_after c s) cs last
kept_call last (Lay p f) cs s kept =
    let chain = kept.chain in record {
      consumed = kept.consumed;
      sent = kept.sent;
      next = p + aligned_length f;
      waiting = rising_laid s.geometry s.flow.position p f s.waiting chain.1 (subst (λ (to : ℕ). AreRising s.flow.position s.waiting to) chain.0 kept.waiting);
      chain = chain.2;
    }
kept_call last (Hear now status) cs s kept =
    let it = consumed_by s.geometry s.publication now status s.flow kept.consumed in
    let same = it.position in
    let most = it.high in
    let within : (flow_after_hearing s.geometry s.publication now status s.flow).consumed ≤ s.flow.position = omega (arith, most, same) in
    record {
      consumed = it.high;
      sent = subst (λ (high : ℕ). AreRising (flow_after_hearing s.geometry s.publication now status s.flow).consumed (unconsumed (flow_after_hearing s.geometry s.publication now status s.flow).consumed s.sent) high) (sym same)
          (rising_unconsumed s.flow.consumed s.flow.position _ s.sent kept.sent it.low within);
      next = kept.next;
      waiting = subst (λ (p : ℕ). AreRising p s.waiting kept.next) (sym same) kept.waiting;
      chain = kept.chain;
    }
kept_call last (Ask now nak) cs s kept =
    cond_both (is_nak_of s.publication nak) (after_repeat_request now nak (position_of s.geometry nak.term_id nak.term_offset) s) s (λ (it : Sending). IsKept it cs last)
    (λ ours. kept_request now last cs nak (position_of s.geometry nak.term_id nak.term_offset) s (goes_on last (Ask now nak) cs s refl kept))
    (λ other. goes_on last (Ask now nak) cs s refl kept)
kept_call last (Send now) cs s kept = kept_first now last kept.next cs s.waiting s kept.waiting kept.chain (goes_on last (Send now) cs s refl kept)
kept_call last (Repeat now) cs s kept = record {
  consumed = kept.consumed;
  sent = rising_repeat s.flow.consumed s.flow.position now s.sent kept.sent;
  next = kept.next;
  waiting = kept.waiting;
  chain = kept.chain;
}
kept_call last (NoteSetup now) cs s kept = record { consumed = kept.consumed; sent = kept.sent; next = kept.next; waiting = kept.waiting; chain = kept.chain }
kept_call last (NoteHeartbeat now) cs s kept = record { consumed = kept.consumed; sent = kept.sent; next = kept.next; waiting = kept.waiting; chain = kept.chain }
kept_call last End cs s kept = record { consumed = kept.consumed; sent = kept.sent; next = kept.next; waiting = kept.waiting; chain = kept.chain }

kept_calls : (last : ℕ) (cs : List Call) (s : Sending) → IsKept s cs last → IsKept (after_calls cs s) [] last
kept_calls last [] s kept = kept
kept_calls last (c ∷ cs) s kept = kept_calls last cs (sending_after c s) (kept_call last c cs s kept)

-- each datagram that was sent ends past what was consumed
pub all_past : (g : Geometry) (publication : Publication) (from to : ℕ) (cs : List Call) → IsChain from (laid_by cs) to
    → AllByRecursion (EndsPast (after_calls cs (new_sending g publication from)).flow.consumed) (after_calls cs (new_sending g publication from)).sent
all_past g publication from to cs chain =
    let kept = kept_calls to cs (new_sending g publication from) (record { consumed = omega arith; sent = omega arith; next = from; waiting = omega arith; chain = chain }) in
    rising_past _ _ _ kept.sent _ (omega arith)
