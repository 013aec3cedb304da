-- A recorder's turns, one after another.
use Rattle.std.proofs.Common.{◌≡◌, ◌++◌, ◌∙◌, inl, inr, ℤ, Bool, true, false, List, [], ◌∷◌, Option, Some, None, Result, Ok, Err, sym, refl, ap, subst, append_assoc}
use Rattle.std.specs.Prelude.{◌⊎◌, if◌then◌else◌, int_le, IsOk, MatchResult}
use Rattle.std.specs.Option.{option_or}
use Rattle.std.proofs.lemmas.List.{append-nil}
use Rattle.atomic_table.specs.Seated.{TableId}
use Rattle.frame_core.specs.declared.block.Block.{Block}
use Rattle.frame_core.specs.declared.refusal.Refusal.{Refusal}
use Rattle.disk_core.specs.Life.{Life}
use Rattle.frame_core.specs.declared.refusal.Refusal.TheVariants.{NoMemory}
use Rattle.archive_model.specs.declared.reply.Reply.{Reply}
use Rattle.archive_model.specs.declared.reply.Reply.TheVariants.{Settled}
use Rattle.control_core.specs.declared.event.Event.{Event}
use Rattle.control_core.specs.declared.event.Event.TheVariants.{Settle, Write}
use Rattle.engine_core.specs.Engine.{EngineState}
use Rattle.call_history.specs.Values.{PassView}
use Rattle.position_board.specs.Positions.{Published, last_position, with_position}
use Rattle.archive_lock.specs.declared.history.Made.{Made}
use Rattle.archive_lock.specs.History.{EndsWithAnswer, IsNoted}
use Rattle.agents_core.specs.declared.item.Item.{Item}
use Rattle.agents_core.specs.declared.item.Item.TheVariants.{Block as Handed, End}
use Rattle.agents_core.specs.declared.recorder.Recorder.{Recorder}
use Rattle.agents_core.specs.Handoff.{TakerView}
use Rattle.agents_core.specs.Receivers.{blocks_in}
use Rattle.agents_core.specs.Recorders.{AreTurns, IsTurn, RecorderEnded, RecorderRan, raised_after, raised_by}
use Rattle.recorder_seats.specs.Seat.{SeatView, raised_unless_below}

-- ---- the calls of one turn

-- a call that was noted, of a pass that then has it
pub record IsNotedCall (p : PassView Made) (event : Event) (outcome : Result Reply Refusal) (q : PassView Made) : Type 0 where
  pub call : Made
  pub asked : call.asked ≡ event
  pub answered : call.outcome ≡ outcome
  pub own : q.own ≡ p.own ++ call ∷ []

pub noted_call : {D : Type 0} (life : D → Life) (opening : EngineState) (p q : PassView Made) (event : Event) (outcome : Result Reply Refusal) → EndsWithAnswer life opening p event outcome q → IsNotedCall p event outcome q
noted_call life opening p q event outcome ends = record { call = ends.call; asked = ends.asked; answered = ends.answered; own = ends.extends.gains.own }

refusal_or : (refusal : Refusal) → IsNoted (Err refusal) ⊎ (refusal ≡ NoMemory)
refusal_or NoMemory = inr refl
refusal_or refusal = inl tt

-- a call was refused: it is one of the history, or there was no memory for it
pub refused_how : {D : Type 0} (life : D → Life) (opening : EngineState) (p q : PassView Made) (event : Event) (refusal : Refusal) → (IsNoted (Err refusal) → EndsWithAnswer life opening p event (Err refusal) q) → (refusal ≡ NoMemory → q ≡ p)
    → IsNotedCall p event (Err refusal) q ⊎ ((refusal ≡ NoMemory) × (q ≡ p))
refused_how life opening p q event refusal answers unnoted = by (refusal_or refusal)
  where
    by : IsNoted (Err refusal) ⊎ (refusal ≡ NoMemory) → IsNotedCall p event (Err refusal) q ⊎ ((refusal ≡ NoMemory) × (q ≡ p))
    by (inl noted) = inl (noted_call life opening p q event (Err refusal) (answers noted))
    by (inr none) = inr (none, unnoted none)

-- what a write and a settling make of a turn
abbrev WriteStops : Option Refusal → Result Reply Refusal → Type 0
WriteStops stop outcome = MatchResult outcome (λ _. stop ≡ Some NoMemory) (λ refusal. stop ≡ Some refusal)

abbrev SettleStops : Option Refusal → Result Reply Refusal → Type 0
SettleStops stop outcome = MatchResult outcome (λ _. stop ≡ None) (λ refusal. stop ≡ Some refusal)

not_raised : (event : Event) (outcome : Result Reply Refusal) (session : ℤ) (block : Block) (w : Published) → event ≡ Write session block → raised_after event outcome w ≡ w
not_raised event outcome session block w is = ap (λ (e : Event). raised_after e outcome w) is

raised_table : (position : ℤ) (w : Published) (b : Bool) → (if b then with_position position w else w).table ≡ w.table
raised_table position w true = refl
raised_table position w false = refl

-- the write was refused
pub turn_unwritten : {D : Type 0} (life : D → Life) (opening : EngineState) (old : Recorder) (mid : SeatView) (block : Block) (refusal : Refusal) → (IsNoted (Err refusal) → EndsWithAnswer life opening old.seat.pass (Write old.seat.session block) (Err refusal) mid.pass)
    → (refusal ≡ NoMemory → mid.pass ≡ old.seat.pass) → mid.pass.table ≡ old.seat.pass.table → mid.pass.number ≡ old.seat.pass.number → mid ≡ record old.seat { pass = mid.pass }
    → RecorderRan (block ∷ []) old (record { seat = mid; refused = Some refusal }) (Some refusal)
turn_unwritten life opening old mid block refusal answers unnoted table number same = by (refused_how life opening old.seat.pass mid.pass (Write old.seat.session block) refusal answers unnoted)
  where
    by : IsNotedCall old.seat.pass (Write old.seat.session block) (Err refusal) mid.pass ⊎ ((refusal ≡ NoMemory) × (mid.pass ≡ old.seat.pass)) → RecorderRan (block ∷ []) old (record { seat = mid; refused = Some refusal }) (Some refusal)
    by (inl noted) = record {
      calls = noted.call ∷ [];
      own = noted.own;
      turns = (noted.asked, subst (WriteStops (Some refusal)) (sym noted.answered) refl);
      writer = ap (λ (s : SeatView). s.writer) same ∙ sym (not_raised noted.call.asked noted.call.outcome old.seat.session block old.seat.writer noted.asked);
      refused = refl;
      session = ap (λ (s : SeatView). s.session) same;
      pass = table;
      number = number;
      board = ap (λ (s : SeatView). s.writer.table) same;
    }
    by (inr none) = record {
      calls = [];
      own = ap (λ (p : PassView Made). p.own) none.1 ∙ sym (append-nil old.seat.pass.own);
      turns = ap Some none.0;
      writer = ap (λ (s : SeatView). s.writer) same;
      refused = refl;
      session = ap (λ (s : SeatView). s.session) same;
      pass = table;
      number = number;
      board = ap (λ (s : SeatView). s.writer.table) same;
    }

-- the block was written
module _ {D : Type 0} (life : D → Life) (opening : EngineState) (old : Recorder) (mid new : SeatView) (block : Block) (reply : Reply) (written : EndsWithAnswer life opening old.seat.pass (Write old.seat.session block) (Ok reply) mid.pass) (table : mid.pass.table ≡ old.seat.pass.table)
    (number : mid.pass.number ≡ old.seat.pass.number) (same : mid ≡ record old.seat { pass = mid.pass }) (table' : new.pass.table ≡ mid.pass.table) (number' : new.pass.number ≡ mid.pass.number) (session : new.session ≡ mid.session) where
  write : IsNotedCall old.seat.pass (Write old.seat.session block) (Ok reply) mid.pass
  write = noted_call life opening old.seat.pass mid.pass (Write old.seat.session block) (Ok reply) written

  same_session : mid.session ≡ old.seat.session
  same_session = ap (λ (s : SeatView). s.session) same

  same_writer : mid.writer ≡ old.seat.writer
  same_writer = ap (λ (s : SeatView). s.writer) same

  is_written : IsOk write.call.outcome
  is_written = subst (λ (o : Result Reply Refusal). IsOk o) (sym write.answered) refl

  both_own : (settle : Made) → new.pass.own ≡ mid.pass.own ++ settle ∷ [] → new.pass.own ≡ old.seat.pass.own ++ write.call ∷ settle ∷ []
  both_own settle own = own ∙ ap (λ (calls : List Made). calls ++ settle ∷ []) write.own ∙ append_assoc old.seat.pass.own (write.call ∷ []) (settle ∷ [])

  -- and settled
  pub turn_settled : (position : ℤ) → EndsWithAnswer life opening mid.pass (Settle mid.session) (Ok (Settled position)) new.pass → new.writer ≡ raised_unless_below position mid.writer
      → RecorderRan (block ∷ []) old (record { seat = new; refused = old.refused }) None
  turn_settled position settled raised =
      let settle = noted_call life opening mid.pass new.pass (Settle mid.session) (Ok (Settled position)) settled in
      let asked : settle.call.asked ≡ Settle old.seat.session = settle.asked ∙ ap Settle same_session in record {
        calls = write.call ∷ settle.call ∷ [];
        own = both_own settle.call settle.own;
        turns = (write.asked, is_written, asked, subst (SettleStops None) (sym settle.answered) refl);
        writer = raised ∙ ap (raised_unless_below position) same_writer ∙ sym (ap (λ (w : Published). raised_after settle.call.asked settle.call.outcome w) (not_raised write.call.asked write.call.outcome old.seat.session block old.seat.writer write.asked)
            ∙ (λ i. raised_after (asked i) (settle.answered i) old.seat.writer));
        refused = refl;
        session = session ∙ same_session;
        pass = table' ∙ table;
        number = number' ∙ number;
        board = ap (λ (w : Published). w.table) raised ∙ raised_table position mid.writer (int_le (last_position mid.writer.positions) position) ∙ ap (λ (w : Published). w.table) same_writer;
      }

  -- its settling was refused
  pub turn_unsettled : (refusal : Refusal) → (IsNoted (Err refusal) → EndsWithAnswer life opening mid.pass (Settle mid.session) (Err refusal) new.pass) → (refusal ≡ NoMemory → new.pass ≡ mid.pass) → new.writer ≡ mid.writer
      → RecorderRan (block ∷ []) old (record { seat = new; refused = Some refusal }) (Some refusal)
  turn_unsettled refusal answers unnoted kept = by (refused_how life opening mid.pass new.pass (Settle mid.session) refusal answers unnoted)
    where
      by : IsNotedCall mid.pass (Settle mid.session) (Err refusal) new.pass ⊎ ((refusal ≡ NoMemory) × (new.pass ≡ mid.pass)) → RecorderRan (block ∷ []) old (record { seat = new; refused = Some refusal }) (Some refusal)
      by (inl settle) = let asked : settle.call.asked ≡ Settle old.seat.session = settle.asked ∙ ap Settle same_session in record {
        calls = write.call ∷ settle.call ∷ [];
        own = both_own settle.call settle.own;
        turns = (write.asked, is_written, asked, subst (SettleStops (Some refusal)) (sym settle.answered) refl);
        writer = kept ∙ same_writer ∙ sym (ap (λ (w : Published). raised_after settle.call.asked settle.call.outcome w) (not_raised write.call.asked write.call.outcome old.seat.session block old.seat.writer write.asked)
            ∙ (λ i. raised_after (asked i) (settle.answered i) old.seat.writer));
        refused = refl;
        session = session ∙ same_session;
        pass = table' ∙ table;
        number = number' ∙ number;
        board = ap (λ (w : Published). w.table) (kept ∙ same_writer);
      }
      by (inr none) = record {
        calls = write.call ∷ [];
        own = ap (λ (p : PassView Made). p.own) none.1 ∙ write.own;
        turns = (write.asked, subst (WriteStops (Some refusal)) (sym write.answered) (ap Some none.0));
        writer = kept ∙ same_writer ∙ sym (not_raised write.call.asked write.call.outcome old.seat.session block old.seat.writer write.asked);
        refused = refl;
        session = session ∙ same_session;
        pass = table' ∙ table;
        number = number' ∙ number;
        board = ap (λ (w : Published). w.table) (kept ∙ same_writer);
      }

-- ---- turns and then turns

turns_append : (session : ℤ) (xs ys : List Block) (calls more : List Made) (stop : Option Refusal) → AreTurns session xs calls None → AreTurns session ys more stop → AreTurns session (xs ++ ys) (calls ++ more) stop
turns_append session [] ys calls more stop these those = subst (λ (c : List Made). AreTurns session ys (c ++ more) stop) (sym these.0) those
turns_append session (x ∷ []) [] calls more stop these those =
    subst (λ (z : List Made × Option Refusal). IsTurn session x (calls ++ z.0) z.1) (λ i. (sym those.0 i, sym those.1 i)) (subst (λ (c : List Made). IsTurn session x c None) (sym (append-nil calls)) these)
turns_append session (x ∷ []) (y ∷ ys) calls more stop these those = (calls, more, refl, these, those)
turns_append session (x ∷ x' ∷ xs) ys calls more stop these those =
    (these.0, these.1 ++ more, ap (λ (c : List Made). c ++ more) these.2 ∙ append_assoc these.0 these.1 more, these.3, turns_append session (x' ∷ xs) ys these.1 more stop these.4 those)

raised_append : (calls more : List Made) (w : Published) → raised_by (calls ++ more) w ≡ raised_by more (raised_by calls w)
raised_append [] more w = refl
raised_append (call ∷ calls) more w = raised_append calls more (raised_after call.asked call.outcome w)

-- nothing was taken
pub recorder_none : (r : Recorder) → RecorderRan [] r r None
recorder_none r = record { calls = []; own = sym (append-nil r.seat.pass.own); turns = (refl, refl); writer = refl; refused = refl; session = refl; pass = refl; number = refl; board = refl }

-- turns, of which none was refused, and then turns
pub recorder_more : (old mid new : Recorder) (xs ys : List Block) (stop : Option Refusal) → RecorderRan xs old mid None → RecorderRan ys mid new stop → RecorderRan (xs ++ ys) old new stop
recorder_more old mid new xs ys stop a b = record {
  calls = a.calls ++ b.calls;
  own = b.own ∙ ap (λ (calls : List Made). calls ++ b.calls) a.own ∙ append_assoc old.seat.pass.own a.calls b.calls;
  turns = turns_append old.seat.session xs ys a.calls b.calls stop a.turns (subst (λ (session : ℤ). AreTurns session ys b.calls stop) a.session b.turns);
  writer = b.writer ∙ ap (raised_by b.calls) a.writer ∙ sym (raised_append a.calls b.calls old.seat.writer);
  refused = b.refused ∙ ap (option_or stop) a.refused;
  session = b.session ∙ a.session;
  pass = b.pass ∙ a.pass;
  number = b.number ∙ a.number;
  board = b.board ∙ a.board;
}

-- ---- the loop

blocks_behind : (items : List Item) (block : Block) → blocks_in (items ++ Handed block ∷ []) ≡ blocks_in items ++ block ∷ []
blocks_behind [] block = refl
blocks_behind (Handed b ∷ items) block = ap (λ (blocks : List Block). b ∷ blocks) (blocks_behind items block)
blocks_behind (End ∷ items) block = blocks_behind items block

blocks_ended : (items : List Item) → blocks_in (items ++ End ∷ []) ≡ blocks_in items
blocks_ended [] = refl
blocks_ended (Handed b ∷ items) = ap (λ (blocks : List Block). b ∷ blocks) (blocks_ended items)
blocks_ended (End ∷ items) = blocks_ended items

-- a recorder while it goes on
pub record TakesAll (first : Recorder) (handoff : TableId) (recorder : Recorder) (taker : TakerView Item) : Type 0 where
  pub ran : RecorderRan (blocks_in taker.taken) first recorder None
  pub same : taker.handoff ≡ handoff

pub taking_none : (first : Recorder) (handoff : TableId) (taker : TakerView Item) → taker.handoff ≡ handoff → taker.taken ≡ [] → TakesAll first handoff first taker
taking_none first handoff taker same empty = record { ran = subst (λ (items : List Item). RecorderRan (blocks_in items) first first None) (sym empty) (recorder_none first); same = same }

module _ (first old : Recorder) (handoff : TableId) (taker next : TakerView Item) (on : TakesAll first handoff old taker) where
  taken_more : (new : Recorder) (block : Block) (stop : Option Refusal) → next ≡ record taker { taken = taker.taken ++ Handed block ∷ [] } → RecorderRan (block ∷ []) old new stop → RecorderRan (blocks_in next.taken) first new stop
  taken_more new block stop is ran =
      subst (λ (blocks : List Block). RecorderRan blocks first new stop) (sym (ap (λ (t : TakerView Item). blocks_in t.taken) is ∙ blocks_behind taker.taken block)) (recorder_more first old new (blocks_in taker.taken) (block ∷ []) stop on.ran ran)

  -- a block was taken, and its turn made
  pub taking_more : (new : Recorder) (block : Block) (stop : Option Refusal) → next ≡ record taker { taken = taker.taken ++ Handed block ∷ [] } → RecorderRan (block ∷ []) old new stop → RecorderEnded first handoff new next
  taking_more new block stop is ran = record { stop = stop; ran = taken_more new block stop is ran; same = ap (λ (t : TakerView Item). t.handoff) is ∙ on.same }

  -- and it was not refused
  pub taking_on : (new : Recorder) (block : Block) (stop : Option Refusal) → stop ≡ None → next ≡ record taker { taken = taker.taken ++ Handed block ∷ [] } → RecorderRan (block ∷ []) old new stop → TakesAll first handoff new next
  taking_on new block stop goes is ran = record { ran = taken_more new block None is (subst (RecorderRan (block ∷ []) old new) goes ran); same = ap (λ (t : TakerView Item). t.handoff) is ∙ on.same }

  -- the end was taken
  pub taking_end : next ≡ record taker { taken = taker.taken ++ End ∷ [] } → RecorderEnded first handoff old next
  taking_end is = record {
    stop = None;
    ran = subst (λ (blocks : List Block). RecorderRan blocks first old None) (sym (ap (λ (t : TakerView Item). blocks_in t.taken) is ∙ blocks_ended taker.taken)) on.ran;
    same = ap (λ (t : TakerView Item). t.handoff) is ∙ on.same;
  }

  -- nothing was there
  pub taking_same : next ≡ taker → TakesAll first handoff old next
  taking_same is = subst (TakesAll first handoff old) (sym is) on
