-- What a writer raised stays settled among the calls of a pass.
use Rattle.std.proofs.Common.{◌≡◌, ◌++◌, ◌∙◌, inl, inr, ℤ, List, [], ◌∷◌, Result, Ok, Err, sym, refl, ap, subst, arith, drop}
use Rattle.std.specs.Prelude.{◌⊎◌, Contains}
use Rattle.std.proofs.lemmas.List.Elements.{Contains-append_left, Contains-append_right}
use Rattle.frame_core.specs.declared.refusal.Refusal.{Refusal}
use Rattle.frame_core.specs.declared.refusal.Refusal.TheVariants.{NoMemory}
use Rattle.disk_core.specs.Life.{Life}
use Rattle.archive_model.specs.declared.reply.Reply.{Reply}
use Rattle.archive_model.specs.declared.reply.Reply.TheVariants.{Settled}
use Rattle.archive_model.specs.Keyed.{Each}
use Rattle.control_core.specs.declared.event.Event.{Event}
use Rattle.control_core.specs.declared.event.Event.TheVariants.{Settle}
use Rattle.engine_core.specs.Engine.{EngineState}
use Rattle.call_history.specs.Values.{PassView}
use Rattle.position_board.specs.Positions.{Published, with_position}
use Rattle.archive_lock.specs.declared.history.Made.{Made}
use Rattle.archive_lock.specs.History.{EndsWithAnswer, IsNoted, Member}
use Rattle.recorder_seats.specs.Seat.{IsSettledIn, RaisedAreSettled, raised_positions, settling_outcome}

pub each_append : {X : Type 0} (P : X → Type 0) (xs ys : List X) → Each P xs → Each P ys → Each P (xs ++ ys)
each_append P [] ys these those = those
each_append P (x ∷ xs) ys these those = (these.0, each_append P xs ys these.1 those)

pub each_of : {X : Type 0} (P Q : X → Type 0) → ((x : X) → P x → Q x) → (xs : List X) → Each P xs → Each Q xs
each_of P Q f [] all = tt
each_of P Q f (x ∷ xs) all = (f x all.0, each_of P Q f xs all.1)

in_longer : (calls more : List Made) (position : ℤ) → IsSettledIn calls position → IsSettledIn (calls ++ more) position
in_longer calls more position is = record {
  call = is.call;
  among = Contains-append_left calls more is.call is.among;
  session = is.session;
  asked = is.asked;
  answered = is.answered;
}

-- what was raised stays settled where the pass gains calls
pub still_settled : (p q : PassView Made) (w : Published) (calls : List Made) → q.own ≡ p.own ++ calls → RaisedAreSettled p w → RaisedAreSettled q w
still_settled p q w calls own all = subst (λ (xs : List Made). Each (IsSettledIn xs) (raised_positions w)) (sym own) (each_of (IsSettledIn p.own) (IsSettledIn (p.own ++ calls)) (in_longer p.own calls) (raised_positions w) all)

pub one_more : (P : ℤ → Type 0) (positions : List ℤ) (position : ℤ) → P position → Each P (drop 1 positions) → Each P (drop 1 (positions ++ position ∷ []))
one_more P [] position is all = tt
one_more P (x ∷ xs) position is all = each_append P xs (position ∷ []) all (is, tt)

-- a position that was answered to a settling of the pass may be raised
pub settled_then_raised : {D : Type 0} (life : D → Life) (opening : EngineState) (p q : PassView Made) (w new : Published) (session position : ℤ) (answer : Result ℤ Refusal) (outcome : Result Reply Refusal) → settling_outcome answer ≡ outcome → answer ≡ Ok position
    → (IsNoted outcome → EndsWithAnswer life opening p (Settle session) outcome q) → new ≡ with_position position w → RaisedAreSettled p w → RaisedAreSettled q new
settled_then_raised life opening p q w new session position answer outcome told is answers risen all =
    let e : Ok (Settled position) ≡ outcome = ap settling_outcome (sym is) ∙ told in
    let ends = answers (subst IsNoted e tt) in
    let own = ends.extends.gains.own in
    let among : Contains q.own ends.call = subst (λ (xs : List Made). Contains xs ends.call) (sym own) (Contains-append_right p.own (ends.call ∷ []) ends.call (0, omega arith, refl)) in
    let now : IsSettledIn q.own position = record { call = ends.call; among = among; session = session; asked = ends.asked; answered = ends.answered ∙ sym e } in
    let still = still_settled p q w (ends.call ∷ []) own all in
    subst (RaisedAreSettled q) (sym risen) (one_more (IsSettledIn q.own) w.positions position now still)

-- a call is one of the history, or there was no memory for it
pub noted_or : (outcome : Result Reply Refusal) → IsNoted outcome ⊎ (outcome ≡ Err NoMemory)
noted_or (Err NoMemory) = inr refl
noted_or outcome = inl tt

-- what was raised stays settled over any call
pub settled_over : {D : Type 0} (life : D → Life) (opening : EngineState) (p q : PassView Made) (w : Published) (event : Event) (outcome : Result Reply Refusal) → (IsNoted outcome → EndsWithAnswer life opening p event outcome q) → (outcome ≡ Err NoMemory → q ≡ p)
    → RaisedAreSettled p w → RaisedAreSettled q w
settled_over life opening p q w event outcome answers unnoted all = by (noted_or outcome)
  where
    by : IsNoted outcome ⊎ (outcome ≡ Err NoMemory) → RaisedAreSettled q w
    by (inl noted) = let ends = answers noted in still_settled p q w (ends.call ∷ []) ends.extends.gains.own all
    by (inr none) = subst (λ (x : PassView Made). RaisedAreSettled x w) (sym (unnoted none)) all

-- and over a look at the history
pub settled_looking : (p q : PassView Made) (w : Published) (seen : List Member) → q ≡ record p { seen = seen } → RaisedAreSettled p w → RaisedAreSettled q w
settled_looking p q w seen is all = subst (λ (own : List Made). Each (IsSettledIn own) (raised_positions w)) (sym (ap (λ (x : PassView Made). x.own) is)) all
