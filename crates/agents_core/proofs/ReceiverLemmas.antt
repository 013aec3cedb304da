-- A receiver's turns, one after another.
use Rattle.std.proofs.Common.{◌≡◌, ◌++◌, ◌∙◌, false, true≢false, List, [], ◌∷◌, Option, Some, None, sym, refl, ap, subst}
use Rattle.std.specs.Prelude.{MatchOption, ⊤}
use Rattle.std.proofs.lemmas.List.{append-nil}
use Rattle.atomic_table.specs.Seated.{TableId}
use Rattle.frame_core.specs.declared.block.Block.{Block}
use Rattle.agents_core.specs.declared.item.Item.{Item}
use Rattle.agents_core.specs.declared.item.Item.TheVariants.{Block as Handed, End}
use Rattle.agents_core.specs.Handoff.{PutterView}
use Rattle.agents_core.specs.Steps.{StepsThrough}
use Rattle.agents_core.specs.Receivers.{EndsLast, ReceiverRan, SourceGives, answer_of, is_end_item}

module _ {S A : Type 0} (steps : S → A → S → Type 0) where
  -- steps, and then others
  pub steps_append : (a b c : S) (xs ys : List A) → StepsThrough steps a xs b → StepsThrough steps b ys c → StepsThrough steps a (xs ++ ys) c
  steps_append a b c [] ys these those = subst (λ (s : S). StepsThrough steps s ys c) these those
  steps_append a b c (x ∷ xs) ys these those = (these.0, these.1, steps_append these.0 b c xs ys these.2 those)

-- blocks alone
abbrev pub AreBlocks : List Item → Type 0
AreBlocks [] = ⊤
AreBlocks (Handed block ∷ items) = AreBlocks items
AreBlocks (End ∷ items) = ⊥

ends_behind : (put : List Item) (item : Item) → AreBlocks put → EndsLast (put ++ item ∷ [])
ends_behind [] (Handed block) blocks = tt
ends_behind [] End blocks = refl
ends_behind (Handed block ∷ put) item blocks = ends_behind put item blocks
ends_behind (End ∷ put) item blocks = absurd blocks

pub blocks_more : (put : List Item) (block : Block) → AreBlocks put → AreBlocks (put ++ Handed block ∷ [])
blocks_more [] block blocks = tt
blocks_more (Handed b ∷ put) block blocks = blocks_more put block blocks
blocks_more (End ∷ put) block blocks = absurd blocks

module _ {S : Type 0} (gives : S → Option Block → S → Type 0) where
  -- nothing was asked
  pub handed_none : (s : S) → ReceiverRan gives s [] None s
  handed_none s = record { answers = refl; last = tt }

  -- an answer waits, or the source is asked for one
  pub handed_asked : (old s t : S) (put : List Item) (waiting : Option Item) (item : Item) → ReceiverRan gives old put waiting s → AreBlocks put
      → MatchOption waiting (gives s (answer_of item) t) (λ it. (item ≡ it) × (t ≡ s)) → ReceiverRan gives old put (Some item) t
  handed_asked old s t put None item ran blocks asked = record {
    answers = steps_append (λ (a : S) (i : Item) (b : S). gives a (answer_of i) b) old s t put (item ∷ []) (subst (λ (items : List Item). SourceGives gives old items s) (append-nil put) ran.answers) (t, asked, refl);
    last = ends_behind put item blocks;
  }
  handed_asked old s t put (Some it) item ran blocks asked = subst (λ (z : Item × S). ReceiverRan gives old put (Some z.0) z.1) (λ i. (sym asked.0 i, sym asked.1 i)) ran

  -- what waited was put
  pub handed_put : (old t : S) (put : List Item) (item : Item) → ReceiverRan gives old put (Some item) t → ReceiverRan gives old (put ++ item ∷ []) None t
  handed_put old t put item ran =
      let same : (put ++ item ∷ []) ++ [] ≡ put ++ item ∷ [] = append-nil (put ++ item ∷ []) in record {
        answers = subst (λ (items : List Item). SourceGives gives old items t) (sym same) ran.answers;
        last = subst EndsLast (sym same) ran.last;
      }

-- a receiver while it goes on: it has put blocks alone
pub record HandsOn {S : Type 0} (gives : S → Option Block → S → Type 0) (first : S) (handoff : TableId) (source : S) (putter : PutterView Item) (waiting : Option Item) : Type 0 where
  pub ran : ReceiverRan gives first putter.put waiting source
  pub blocks : AreBlocks putter.put
  pub same : putter.handoff ≡ handoff

module _ {S : Type 0} (gives : S → Option Block → S → Type 0) (first s t : S) (handoff : TableId) (old : PutterView Item) (waiting : Option Item) (item : Item) (on : HandsOn gives first handoff s old waiting)
    (asked : MatchOption waiting (gives s (answer_of item) t) (λ it. (item ≡ it) × (t ≡ s))) where
  put_ran : ReceiverRan gives first (old.put ++ item ∷ []) None t
  put_ran = handed_put gives first t old.put item (handed_asked gives first s t old.put waiting item on.ran on.blocks asked)

  -- an item was put
  pub handed_last : (new : PutterView Item) → new ≡ record old { put = old.put ++ item ∷ [] } → ReceiverRan gives first new.put None t × (new.handoff ≡ handoff)
  handed_last new is = (subst (λ (p : PutterView Item). ReceiverRan gives first p.put None t) (sym is) put_ran, ap (λ (p : PutterView Item). p.handoff) is ∙ on.same)

  block_put : (it : Item) → is_end_item it ≡ false → AreBlocks (old.put ++ it ∷ [])
  block_put (Handed block) goes = blocks_more old.put block on.blocks
  block_put End goes = absurd (true≢false goes)

  -- a block was put
  pub handed_on : (new : PutterView Item) → new ≡ record old { put = old.put ++ item ∷ [] } → is_end_item item ≡ false → HandsOn gives first handoff t new None
  handed_on new is goes = let last = handed_last new is in record { ran = last.0; blocks = subst (λ (p : PutterView Item). AreBlocks p.put) (sym is) (block_put item goes); same = last.1 }

  -- there was no room
  pub handed_back : (new : PutterView Item) (back : Item) → back ≡ item → new ≡ old → HandsOn gives first handoff t new (Some back)
  handed_back new back is same = subst (λ (z : PutterView Item × Item). HandsOn gives first handoff t z.0 (Some z.1)) (λ i. (sym same i, sym is i)) (record { ran = handed_asked gives first s t old.put waiting item on.ran on.blocks asked; blocks = on.blocks; same = on.same })

-- nothing was put
pub handing_none : {S : Type 0} (gives : S → Option Block → S → Type 0) (s : S) (handoff : TableId) (putter : PutterView Item) → putter.handoff ≡ handoff → putter.put ≡ [] → HandsOn gives s handoff s putter None
handing_none gives s handoff putter same empty = record {
  ran = subst (λ (put : List Item). ReceiverRan gives s put None s) (sym empty) (handed_none gives s);
  blocks = subst AreBlocks (sym empty) tt;
  same = same;
}
