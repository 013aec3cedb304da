-- What was seen of a recorder's slot is durable, and where frames end that were recorded up to it.
use Rattle.std.proofs.Common.{◌≡◌, ◌<◌, ◌<ℤ◌, ◌≤ℤ◌, ◌+ℤ◌, ◌++◌, ◌∙◌, ℕ, zero, suc, ℤ, pos, Bool, true, false, cond, List, [], ◌∷◌, length, drop, inl, inr, refl, sym, ap, subst, arith}
use Rattle.std.specs.Prelude.{Contains, eqb, slice_index_or}
use Rattle.std.proofs.lemmas.Int.{ints}
use Rattle.frame_core.specs.declared.frame.Frame.{Frame}
use Rattle.frame_core.specs.Block.{covered}
use Rattle.frame_core.specs.FrameEncoding.{aligned_length}
use Rattle.archive_model.specs.Keyed.{Each}
use Rattle.archive_model.specs.Replay.{EndBy, placed}
use Rattle.engine_core.specs.Engine.{Content, EngineState, archive_of}
use Rattle.call_history.specs.Passes.{calls_by}
use Rattle.call_history.specs.Values.{PassView}
use Rattle.position_board.specs.Positions.{Published, position_at}
use Rattle.archive_lock.specs.declared.history.Made.{Made}
use Rattle.archive_lock.specs.Durable.{GroupsStay, SettlingsStay, StaysSettled}
use Rattle.archive_lock.specs.History.{Member}
use Rattle.recorder_seats.specs.HandedOut.{IsDurableTo, IsGroupDurableTo}
use Rattle.recorder_seats.specs.Bench.{IsSettledAmong, RaisedAreAmong, SettlesTo}
use Rattle.recorder_seats.specs.Seat.{IsSettledIn, RaisedAreSettled}

-- ---- among positions and calls

each_at : {X : Type 0} (P : X → Type 0) (xs : List X) (k : ℕ) (x : X) → Each P xs → k < length xs → slice_index_or xs k x ≡ x → P x
each_at P [] k x all small is = absurd (omega arith)
each_at P (y ∷ ys) zero x all small is = subst P is all.0
each_at P (y ∷ ys) (suc k) x all small is = each_at P ys k x all.1 (omega arith) is

-- a position past the first has what each of the others has
past_first : (P : ℤ → Type 0) (positions : List ℤ) (k : ℕ) (seen : ℤ) → Each P (drop 1 positions) → k < length positions → slice_index_or positions k seen ≡ seen → position_at 0 positions <ℤ seen → P seen
past_first P [] k seen all small is above = absurd (omega arith)
past_first P (x ∷ xs) zero seen all small is above = absurd (omega (arith, ints))
past_first P (x ∷ xs) (suc k) seen all small is above = each_at P xs k seen all (omega arith) is

-- a call stands among the calls of a history
record StandsIn (members : List Member) (call : Made) : Type 0 where
  front : List Member
  member : Member
  back : List Member
  among : members ≡ front ++ member ∷ back
  is : member.1 ≡ call

one_later : (x : Member) (members : List Member) (call : Made) → StandsIn members call → StandsIn (x ∷ members) call
one_later x members call s = record { front = x ∷ s.front; member = s.member; back = s.back; among = ap (λ (ms : List Member). x ∷ ms) s.among; is = s.is }

stands_in : (n : ℕ) (members : List Member) (call : Made) (k : ℕ) → k < length (calls_by n members) → slice_index_or (calls_by n members) k call ≡ call → StandsIn members call
stands_in n [] call k small is = absurd (omega arith)
stands_in n (x ∷ xs) call k small is = by (eqb x.0 n) k (stands_in n xs call) small is
  where
    by : (b : Bool) (i : ℕ) → ((j : ℕ) → j < length (calls_by n xs) → slice_index_or (calls_by n xs) j call ≡ call → StandsIn xs call)
        → i < length (cond b (x.1 ∷ calls_by n xs) (calls_by n xs)) → slice_index_or (cond b (x.1 ∷ calls_by n xs) (calls_by n xs)) i call ≡ call → StandsIn (x ∷ xs) call
    by false i rest small is = one_later x xs call (rest i small is)
    by true zero rest small is = record { front = []; member = x; back = xs; among = refl; is = is }
    by true (suc j) rest small is = one_later x xs call (rest j (omega arith) is)

-- ---- where frames end

end_by : (limit at : ℤ) (fs : List Frame) → (at +ℤ pos (covered fs)) ≤ℤ limit → EndBy limit (placed at fs)
end_by limit at [] within = tt
end_by limit at (f ∷ fs) within =
    let here : (at +ℤ pos (aligned_length f)) ≤ℤ limit = omega (arith, ints) in
    let rest : ((at +ℤ pos (aligned_length f)) +ℤ pos (covered fs)) ≤ℤ limit = omega (arith, ints) in
    (here, end_by limit (at +ℤ pos (aligned_length f)) fs rest)

-- ---- what was seen is durable

settled_is_durable : (opening now : EngineState) (c : Content) (members : List Member) (pass : PassView Made) (seen : ℤ) → SettlingsStay (archive_of opening c) members now → pass.own ≡ calls_by pass.number members
    → IsSettledIn pass.own seen → IsDurableTo (archive_of opening c) members now seen
settled_is_durable opening now c members pass seen stay own s =
    let among : Contains (calls_by pass.number members) s.call = subst (λ (calls : List Made). Contains calls s.call) own s.among in
    let at = stands_in pass.number members s.call among.0 among.1 among.2 in
    let asked = ap (λ (call : Made). call.asked) at.is ∙ s.asked in
    let answered = ap (λ (call : Made). call.outcome) at.is ∙ s.answered in
    let stays = stay at.front at.back at.member s.session seen at.among asked answered in
    let settled = stays.settled in
    record {
      front = at.front;
      call = at.member;
      back = at.back;
      among = at.among;
      session = s.session;
      asked = asked;
      answered = answered;
      stays = stays;
      frames = end_by seen stays.recording.descriptor.start_position stays.recording.frames (omega (arith, ints));
    }

pub seen_is_durable : (opening now : EngineState) (c : Content) (members : List Member) (pass : PassView Made) (writer : Published) (seen : ℤ) → SettlingsStay (archive_of opening c) members now → pass.own ≡ calls_by pass.number members
    → RaisedAreSettled pass writer → Contains writer.positions seen → position_at 0 writer.positions <ℤ seen → IsDurableTo (archive_of opening c) members now seen
seen_is_durable opening now c members pass writer seen stay own raised among past = settled_is_durable opening now c members pass seen stay own (past_first (IsSettledIn pass.own) writer.positions among.0 seen raised among.1 among.2 past)

-- ---- of a bench

group_is_durable : (opening now : EngineState) (c : Content) (members : List Member) (pass : PassView Made) (seen : ℤ) → SettlingsStay (archive_of opening c) members now → GroupsStay (archive_of opening c) members now → pass.own ≡ calls_by pass.number members
    → IsSettledAmong pass.own seen → IsGroupDurableTo (archive_of opening c) members now seen
group_is_durable opening now c members pass seen stay together own s =
    let among : Contains (calls_by pass.number members) s.call = subst (λ (calls : List Made). Contains calls s.call) own s.among in
    let at = stands_in pass.number members s.call among.0 among.1 among.2 in
    let settles : SettlesTo at.member.1 s.session seen = subst (λ (call : Made). SettlesTo call s.session seen) (sym at.is) s.settles in
    let stays = stays_by at settles in
    let settled = stays.settled in
    record {
      front = at.front;
      call = at.member;
      back = at.back;
      among = at.among;
      session = s.session;
      settles = settles;
      stays = stays;
      frames = end_by seen stays.recording.descriptor.start_position stays.recording.frames (omega (arith, ints));
    }
  where
    stays_by : (at : StandsIn members s.call) → SettlesTo at.member.1 s.session seen → StaysSettled (archive_of opening c) at.front at.member.1 at.back s.session seen now
    stays_by at (inl alone) = stay at.front at.back at.member s.session seen at.among alone.0 alone.1
    stays_by at (inr group) = together at.front at.back at.member group.0 group.1 s.session seen at.among group.2 group.3 group.4

pub seen_of_bench : (opening now : EngineState) (c : Content) (members : List Member) (pass : PassView Made) (writer : Published) (seen : ℤ) → SettlingsStay (archive_of opening c) members now → GroupsStay (archive_of opening c) members now → pass.own ≡ calls_by pass.number members
    → RaisedAreAmong pass writer → Contains writer.positions seen → position_at 0 writer.positions <ℤ seen → IsGroupDurableTo (archive_of opening c) members now seen
seen_of_bench opening now c members pass writer seen stay together own raised among past = group_is_durable opening now c members pass seen stay together own (past_first (IsSettledAmong pass.own) writer.positions among.0 seen raised among.1 among.2 past)
