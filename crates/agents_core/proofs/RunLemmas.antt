-- Agents that ran, one more at the end of their lists.
use Rattle.std.proofs.Common.{◌≡◌, ◌++◌, ◌∙◌, Bool, List, [], ◌∷◌, map, Option, None, Result, Ok, Err, sym, refl, subst}
use Rattle.std.specs.Prelude.{IfErr, IfOk}
use mathlib.Core.List.{IsPrefix}
use Rattle.atomic_table.specs.Seated.{TableId}
use Rattle.frame_core.specs.declared.block.Block.{Block}
use Rattle.frame_core.specs.declared.refusal.Refusal.{Refusal}
use Rattle.frame_core.specs.declared.refusal.Refusal.TheVariants.{NoMemory}
use Rattle.archive_model.specs.declared.reply.PolledFrame.{PolledFrame}
use Rattle.archive_model.specs.Keyed.{Each}
use Rattle.agents_core.specs.declared.agents.Agents.{Agents}
use Rattle.agents_core.specs.declared.receiver.Receiver.{Receiver}
use Rattle.agents_core.specs.declared.recorder.Recorder.{Recorder}
use Rattle.agents_core.specs.declared.replayer.Replayer.{Replayer}
use Rattle.agents_core.specs.declared.item.Item.{Item}
use Rattle.agents_core.specs.Handoff.{PutterView, TakerView}
use Rattle.agents_core.specs.Receivers.{ReceiverEnded}
use Rattle.agents_core.specs.Recorders.{RecorderEnded}
use Rattle.agents_core.specs.Replayers.{ReplayerEnded}
use Rattle.agents_core.specs.Runs.{AgentsBack, AgentsRan, AreReading, AreSeated, PairRan, PairsRan, ReplayersRan, pass_numbers}
use Rattle.agents_core.proofs.ReceiverLemmas.{handed_none}
use Rattle.agents_core.proofs.RecorderLemmas.{recorder_none}

-- what is known of a result that is Ok, or that is not
pub ok_part : {T E : Type 0} (P : T → Type 0) (r : Result T E) (value : T) → r ≡ Ok value → IfOk r P → P value
ok_part P r value is h = subst (λ (x : Result _ _). IfOk x P) is h

pub err_part : {T E : Type 0} (P : E → Type 0) (r : Result T E) (error : E) → r ≡ Err error → IfErr r P → P error
err_part P r error is h = subst (λ (x : Result _ _). IfErr x P) is h

-- what each of a list has, but for its last; and its last
pub each_before : {X : Type 0} (P : X → Type 0) (all xs : List X) (x : X) → all ≡ xs ++ x ∷ [] → Each P all → Each P xs × P x
each_before {X} P all xs x is each = parted xs (subst (Each P) is each)
  where
    parted : (ys : List X) → Each P (ys ++ x ∷ []) → Each P ys × P x
    parted [] h = (tt, h.0)
    parted (y ∷ ys) h = let rest = parted ys h.1 in ((h.0, rest.0), rest.1)

-- ---- replayers

module _ {K : Type 0} (takes : K → List PolledFrame → Bool → K → Type 0) where
  -- the same of equal ones
  pub replayer_moved : (old old' new new' : Replayer K) → old ≡ old' → new' ≡ new → ReplayerEnded takes old new → ReplayerEnded takes old' new'
  replayer_moved old old' new new' olds news ended = subst (λ (z : Replayer K × Replayer K). ReplayerEnded takes z.0 z.1) (λ i. (olds i, sym news i)) ended

  pub replayers_more : (olds news : List (Replayer K)) (old new : Replayer K) → ReplayersRan takes olds news → ReplayerEnded takes old new → ReplayersRan takes (olds ++ old ∷ []) (news ++ new ∷ [])
  replayers_more [] [] old new all one = (one, tt)
  replayers_more [] (n ∷ ns) old new all one = absurd all
  replayers_more (o ∷ os) [] old new all one = absurd all
  replayers_more (o ∷ os) (n ∷ ns) old new all one = (all.0, replayers_more os ns old new all.1 one)

-- ---- pairs

module _ {S : Type 0} (gives : S → Option Block → S → Type 0) where
  pub pair_same : (r : Receiver S) (c : Recorder) → PairRan gives r c r c
  pair_same r c = record { put = []; waiting = None; handed = handed_none gives r.source; taken = []; begins = ([], refl); stop = None; recorded = recorder_none c }

  pub pairs_more : (olds : List (Receiver S)) (weres : List Recorder) (news : List (Receiver S)) (are : List Recorder) (old : Receiver S) (was : Recorder) (new : Receiver S) (is : Recorder) → PairsRan gives olds weres news are → PairRan gives old was new is
      → PairsRan gives (olds ++ old ∷ []) (weres ++ was ∷ []) (news ++ new ∷ []) (are ++ is ∷ [])
  pairs_more [] [] [] [] old was new is all one = (one, tt)
  pairs_more [] [] [] (d ∷ ds) old was new is all one = absurd all
  pairs_more [] [] (s ∷ ss) are old was new is all one = absurd all
  pairs_more [] (c ∷ cs) news are old was new is all one = absurd all
  pairs_more (r ∷ rs) [] news are old was new is all one = absurd all
  pairs_more (r ∷ rs) (c ∷ cs) [] are old was new is all one = absurd all
  pairs_more (r ∷ rs) (c ∷ cs) (s ∷ ss) [] old was new is all one = absurd all
  pairs_more (r ∷ rs) (c ∷ cs) (s ∷ ss) (d ∷ ds) old was new is all one = (all.0, pairs_more rs cs ss ds old was new is all.1 one)

-- ---- a pair

pub receiver_moved : {S : Type 0} (gives : S → Option Block → S → Type 0) (old old' : Receiver S) (h h' : TableId) (r r' : Receiver S × PutterView Item) → old ≡ old' → h ≡ h' → r' ≡ r → ReceiverEnded gives old h r.0 r.1 → ReceiverEnded gives old' h' r'.0 r'.1
receiver_moved {S} gives old old' h h' r r' olds hs is ended = subst (λ (z : Receiver S × TableId × (Receiver S × PutterView Item)). ReceiverEnded gives z.0 z.1 (z.2).0 (z.2).1) (λ i. (olds i, hs i, sym is i)) ended

-- a receiver and its recorder have ended
pub pair_ran : {S : Type 0} (gives : S → Option Block → S → Type 0) (h h' : TableId) (old : Receiver S) (was : Recorder) (r : Receiver S × PutterView Item) (c : Recorder × TakerView Item) → ReceiverEnded gives old h r.0 r.1 → RecorderEnded was h' c.0 c.1 → IsPrefix (c.1).taken (r.1).put
    → PairRan gives old was r.0 c.0
pair_ran gives h h' old was r c handed took begins = record { put = (r.1).put; waiting = handed.waiting; handed = handed.ran; taken = (c.1).taken; begins = begins; stop = took.stop; recorded = took.ran }

-- ---- what stays

-- recorders stay with their history and their board
pub pairs_seated : {S : Type 0} (gives : S → Option Block → S → Type 0) (table board : TableId) (olds : List (Receiver S)) (weres : List Recorder) (news : List (Receiver S)) (are : List Recorder) → PairsRan gives olds weres news are → AreSeated table board weres
    → AreSeated table board are
pairs_seated gives table board [] [] [] [] all seated = tt
pairs_seated gives table board [] [] [] (d ∷ ds) all seated = absurd all
pairs_seated gives table board [] [] (s ∷ ss) are all seated = absurd all
pairs_seated gives table board [] (c ∷ cs) news are all seated = absurd all
pairs_seated gives table board (r ∷ rs) [] news are all seated = absurd all
pairs_seated gives table board (r ∷ rs) (c ∷ cs) [] are all seated = absurd all
pairs_seated gives table board (r ∷ rs) (c ∷ cs) (s ∷ ss) [] all seated = absurd all
pairs_seated gives table board (r ∷ rs) (c ∷ cs) (s ∷ ss) (d ∷ ds) all seated = let ran = (all.0).recorded in ((ran.pass ∙ (seated.0).0, ran.board ∙ (seated.0).1), pairs_seated gives table board rs cs ss ds all.1 seated.1)

-- and replayers
pub replayers_reading : {K : Type 0} (takes : K → List PolledFrame → Bool → K → Type 0) (table board : TableId) (olds news : List (Replayer K)) → ReplayersRan takes olds news → AreReading table board olds → AreReading table board news
replayers_reading takes table board [] [] all reading = tt
replayers_reading takes table board [] (n ∷ ns) all reading = absurd all
replayers_reading takes table board (o ∷ os) [] all reading = absurd all
replayers_reading takes table board (o ∷ os) (n ∷ ns) all reading = let ran = (all.0).ran in ((ran.pass ∙ (reading.0).0, ran.reader ∙ (reading.0).1), replayers_reading takes table board os ns all.1 reading.1)

-- the passes keep their numbers
recorder_numbers : {S : Type 0} (gives : S → Option Block → S → Type 0) (olds : List (Receiver S)) (weres : List Recorder) (news : List (Receiver S)) (are : List Recorder) → PairsRan gives olds weres news are
    → map (λ (r : Recorder). r.seat.pass.number) are ≡ map (λ (r : Recorder). r.seat.pass.number) weres
recorder_numbers gives [] [] [] [] all = refl
recorder_numbers gives [] [] [] (d ∷ ds) all = absurd all
recorder_numbers gives [] [] (s ∷ ss) are all = absurd all
recorder_numbers gives [] (c ∷ cs) news are all = absurd all
recorder_numbers gives (r ∷ rs) [] news are all = absurd all
recorder_numbers gives (r ∷ rs) (c ∷ cs) [] are all = absurd all
recorder_numbers gives (r ∷ rs) (c ∷ cs) (s ∷ ss) [] all = absurd all
recorder_numbers gives (r ∷ rs) (c ∷ cs) (s ∷ ss) (d ∷ ds) all = λ i. (all.0).recorded.number i ∷ recorder_numbers gives rs cs ss ds all.1 i

replayer_numbers : {K : Type 0} (takes : K → List PolledFrame → Bool → K → Type 0) (olds news : List (Replayer K)) → ReplayersRan takes olds news → map (λ (r : Replayer K). r.pass.number) news ≡ map (λ (r : Replayer K). r.pass.number) olds
replayer_numbers takes [] [] all = refl
replayer_numbers takes [] (n ∷ ns) all = absurd all
replayer_numbers takes (o ∷ os) [] all = absurd all
replayer_numbers takes (o ∷ os) (n ∷ ns) all = λ i. (all.0).ran.number i ∷ replayer_numbers takes os ns all.1 i

pub same_numbers : {S K : Type 0} (gives : S → Option Block → S → Type 0) (takes : K → List PolledFrame → Bool → K → Type 0) (old new : Agents S K) → PairsRan gives old.receivers.items old.recorders.items new.receivers.items new.recorders.items
    → ReplayersRan takes old.replayers.items new.replayers.items → pass_numbers new ≡ pass_numbers old
same_numbers gives takes old new pairs replayers =
    let recorded = recorder_numbers gives old.receivers.items old.recorders.items new.receivers.items new.recorders.items pairs in
    let replayed = replayer_numbers takes old.replayers.items new.replayers.items replayers in
    λ i. recorded i ++ replayed i

module _ {S K : Type 0} (gives : S → Option Block → S → Type 0) (takes : K → List PolledFrame → Bool → K → Type 0) where
  -- the same of equal ones
  pub back_moved : (old old' : Agents S K) (r r' : Agents S K × Result (Unit {0}) Refusal) → old ≡ old' → r' ≡ r → AgentsBack gives takes old r.0 r.1 → AgentsBack gives takes old' r'.0 r'.1
  back_moved old old' r r' olds is back = subst (λ (z : Agents S K × (Agents S K × Result (Unit {0}) Refusal)). AgentsBack gives takes z.0 (z.1).0 (z.1).1) (λ i. (olds i, sym is i)) back

  -- a pair ran next to the others
  pub with_pair : (rest mid new : Agents S K) (outcome after : Result (Unit {0}) Refusal) (old r : Receiver S) (was c : Recorder) → AgentsBack gives takes rest mid outcome → PairRan gives old was r c
      → new.receivers.items ≡ mid.receivers.items ++ r ∷ [] → new.recorders.items ≡ mid.recorders.items ++ c ∷ [] → new.replayers.items ≡ mid.replayers.items → IfErr after (λ refusal. refusal ≡ NoMemory)
      → AgentsRan gives takes (rest.receivers.items ++ old ∷ []) (rest.recorders.items ++ was ∷ []) rest.replayers.items new after
  with_pair rest mid new outcome after old r was c back ran receivers recorders replayers refused = record {
    pairs_ran = subst (λ (z : List (Receiver S) × List Recorder). PairsRan gives (rest.receivers.items ++ old ∷ []) (rest.recorders.items ++ was ∷ []) z.0 z.1) (λ i. (sym receivers i, sym recorders i))
        (pairs_more gives rest.receivers.items rest.recorders.items mid.receivers.items mid.recorders.items old was r c back.ran.pairs_ran ran);
    replayers_ran = subst (ReplayersRan takes rest.replayers.items) (sym replayers) back.ran.replayers_ran;
    refused = refused;
  }
