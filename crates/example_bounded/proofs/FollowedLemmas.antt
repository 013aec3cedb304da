-- What one turn more hands out, and how far that is durable once the log is closed.
use Rattle.std.proofs.Common.{◌≡◌, ◌<ℤ◌, ◌≤ℤ◌, ◌++◌, ◌∙◌, ℕ, ℤ, Bool, List, [], ◌∷◌, sym, ap, subst, arith}
use Rattle.std.specs.Prelude.{Contains}
use Rattle.std.proofs.lemmas.Int.{ints}
use Rattle.std.proofs.lemmas.List.Elements.{All-push, All-weaker}
use Rattle.archive_model.specs.declared.reply.PolledFrame.{PolledFrame}
use Rattle.archive_model.specs.Keyed.{Each}
use Rattle.control_core.specs.Desk.{DeskState}
use Rattle.engine_core.specs.Engine.{Content, EngineState, archive_of}
use Rattle.call_history.specs.declared.stored.Stored.{Stored}
use Rattle.call_history.specs.Passes.{AllFit, calls_by}
use Rattle.call_history.specs.Values.{PassView}
use Rattle.position_board.specs.Positions.{Published, Seen, position_at, seen_at}
use Rattle.archive_lock.specs.declared.history.Call.{Call}
use Rattle.archive_lock.specs.declared.history.Made.{Made}
use Rattle.archive_lock.specs.Closing.{ClosesWith}
use Rattle.archive_lock.specs.Durable.{SettlingsStay}
use Rattle.archive_lock.specs.History.{Member}
use Rattle.recorder_seats.specs.declared.bounded.Turn.{Turn}
use Rattle.recorder_seats.specs.HandedOut.{IsDurableTo}
use Rattle.recorder_seats.specs.Seat.{RaisedAreSettled}
use Rattle.example_bounded.specs.Followed.{HandedOutBefore, IsDurablyFollowed}

abbrev Before : ℤ → PolledFrame → Type 0
Before position f = f.position <ℤ position

abbrev GaveBefore : ℤ → Turn → Type 0
GaveBefore position turn = Each (Before position) turn.frames

still_before : (low high : ℤ) (frames : List PolledFrame) → low ≤ℤ high → Each (Before low) frames → Each (Before high) frames
still_before low high [] rises all = tt
still_before low high (f ∷ fs) rises all = let here = all.0 in (omega (arith, ints), still_before low high fs rises all.1)

pub one_turn_more : (slot : ℕ) (old new : Seen) (turns after : List Turn) (turn : Turn) → slot ≡ 0 → seen_at slot old ≤ℤ seen_at slot new → turn.seen ≡ seen_at slot new → Each (Before turn.seen) turn.frames
    → HandedOutBefore (seen_at 0 old) turns → after ≡ turns ++ turn ∷ [] → HandedOutBefore (seen_at 0 new) after
one_turn_more slot old new turns after turn first rises seen before below is =
    let low = seen_at 0 old in
    let high = seen_at 0 new in
    let higher : low ≤ℤ high = subst (λ (k : ℕ). seen_at k old ≤ℤ seen_at k new) first rises in
    let sees : turn.seen ≡ high = seen ∙ ap (λ (k : ℕ). seen_at k new) first in
    subst (HandedOutBefore high) (sym is)
    (All-push (GaveBefore high) turns turn
    (All-weaker (GaveBefore low) (GaveBefore high) (λ (t : Turn) all. still_before low high t.frames higher all) turns below)
    (subst (λ (position : ℤ). Each (Before position) turn.frames) sees before))

-- the law of recorder_seats that is cited
abbrev pub Durable : Type 0
Durable = (opening now : EngineState) (c : Content) (members : List Member) (pass : PassView Made) (writer : Published) (seen : ℤ) → SettlingsStay (archive_of opening c) members now → pass.own ≡ calls_by pass.number members
    → RaisedAreSettled pass writer → Contains writer.positions seen → position_at 0 writer.positions <ℤ seen → IsDurableTo (archive_of opening c) members now seen

pub closed_durably : Durable → (opening now : EngineState) (keeps : Bool) (pass : PassView Made) (passes : List (PassView Made)) (calls : List Member) (begun : DeskState) (history : Stored Call) (writer met : Published) (reader : Seen) (turns : List Turn)
    → ClosesWith opening keeps passes calls now begun history → passes ≡ pass ∷ [] → met ≡ writer → writer.slot ≡ 0 → RaisedAreSettled pass met → Contains met.positions (seen_at met.slot reader) → HandedOutBefore (seen_at 0 reader) turns
    → IsDurablyFollowed opening now writer (seen_at 0 reader) turns
closed_durably law opening now keeps pass passes calls begun history writer met reader turns closes all same first raised among below =
    let fit : AllFit calls (pass ∷ []) = subst (AllFit calls) all closes.all.fit in
    let settled : RaisedAreSettled pass writer = subst (RaisedAreSettled pass) same raised in
    let seen : Contains writer.positions (seen_at writer.slot reader) = subst (λ (w : Published). Contains w.positions (seen_at w.slot reader)) same among in
    let at_first : Contains writer.positions (seen_at 0 reader) = subst (λ (k : ℕ). Contains writer.positions (seen_at k reader)) first seen in
    record {
      below = below;
      members = calls;
      durable = λ c was obeys past. law opening now c calls pass writer (seen_at 0 reader) (closes.settled c was obeys) fit.0.1 settled at_first past;
    }
