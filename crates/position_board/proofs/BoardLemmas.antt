-- Each kind of step keeps the rule of a board.
use Rattle.std.proofs.Common.{◌≡◌, ◌≢◌, ℕ, zero, suc, ◌+◌, ◌^◌, ◌<◌, ◌≤ℤ◌, ◌⊎◌, inl, inr, ⊎_elim, ℤ, pos, List, [], ◌∷◌, ◌++◌, map, length, get_or, set, sym, refl, ap, ◌∙◌, subst, arith, length-set, get_or-set_same, get_or-set_other}
use Rattle.std.specs.Prelude.{All, Contains}
use Rattle.std.proofs.lemmas.List.{set-get_or, length-map}
use Rattle.std.proofs.lemmas.List.Elements.{Contains-append_left}
use mathlib.Core.Option.{some, some-injective, some-ne-none}
use native.Mathlib.Decide.{ℕ_discrete}
use lib.ListN.{get_elem?}
use Rattle.atomic_table.specs.Table.{State, keeps, Allows, Splits, Joins}
use Rattle.atomic_table.proofs.Lists.{at_set, set_else}
use Rattle.position_board.specs.declared.rule.Maker.{Maker}
use Rattle.position_board.specs.declared.rule.Raiser.{Raiser}
use Rattle.position_board.specs.declared.rule.View.{View}
use Rattle.position_board.specs.Positions.{position_at, last_position, NeverFall}
use Rattle.position_board.specs.Rule.{making, writing, reading, no_part, with_reader, without_reader, reader_part, raised_to, Looked, Met, MakesFrom, RaisesIn, HasSeen, KnowsRightly, IsBoard}
use Rattle.position_board.proofs.PositionLemmas.{last_push, push_rises, one_rises, below_last, last_among, but_at, but_here, but_else, if_some}

abbrev pub Holds : State (Unit {0}) View → Type 0
Holds s = IsBoard s.words s.views

abbrev Each : (ℕ → ℕ) → ℕ → (ℕ → List ℤ) → List View → Type 0
Each seat slots lists views = (by : ℕ) (v : View) → get_elem? views by ≡ some v → KnowsRightly seat slots lists by v

-- the last one of a longer list is at its end
at_end : (views : List View) (w : View) (by : ℕ) (v : View) → get_elem? (views ++ w ∷ []) by ≡ some v → (get_elem? views by ≡ some v) ⊎ ((by ≡ length views) × (w ≡ v))
at_end [] w zero v e = inr (refl, some-injective w v e)
at_end [] w (suc by) v e = absurd (some-ne-none v (sym e))
at_end (x ∷ views) w zero v e = inl e
at_end (x ∷ views) w (suc by) v e = ⊎_elim (λ t. inl t) (λ t. inr (ap suc t.0, t.1)) (at_end views w by v e)

-- each is so where one has changed
each_set : (seat : ℕ → ℕ) (slots : ℕ) (lists : ℕ → List ℤ) (views : List View) (id : ℕ) (w : View) → KnowsRightly seat slots lists id w
    → ((by : ℕ) (v : View) → by ≢ id → get_elem? views by ≡ some v → KnowsRightly seat slots lists by v) → Each seat slots lists (set views id w)
each_set seat slots lists views id w fits others by v at =
    ⊎_elim (λ t. subst (λ (z : ℕ × View). KnowsRightly seat slots lists z.0 z.1) (λ i. (sym t.0 i, t.1 i)) fits) (λ t. others by v t.0 t.1) (at_set views id by w v at)

-- and where one came
each_push : (seat : ℕ → ℕ) (slots : ℕ) (lists : ℕ → List ℤ) (views : List View) (w : View) → KnowsRightly seat slots lists (length views) w
    → Each seat slots lists views → Each seat slots lists (views ++ w ∷ [])
each_push seat slots lists views w fits each by v at =
    ⊎_elim (λ t. each by v t) (λ t. subst (λ (z : ℕ × View). KnowsRightly seat slots lists z.0 z.1) (λ i. (sym t.0 i, t.1 i)) fits) (at_end views w by v at)

-- one seat knows something else
module _ (words : List ℕ) (views : List View) (b : IsBoard words views) where
  with_view : (id : ℕ) (w : View) → KnowsRightly b.seat (length words) b.lists id w → IsBoard words (set views id w)
  with_view id w fits = record {
    seat = b.seat;
    lists = b.lists;
    last = b.last;
    rising = b.rising;
    small = b.small;
    each = each_set b.seat (length words) b.lists views id w fits (λ by v _ at. b.each by v at);
  }

  loaded : (slot id : ℕ) (w : View) → KnowsRightly b.seat (length words) b.lists id w → IsBoard (set words slot (get_or words slot 0)) (set views id w)
  loaded slot id w fits = subst (λ (ws : List ℕ). IsBoard ws (set views id w)) (sym (set-get_or words slot 0)) (with_view id w fits)

  with_two : (id : ℕ) (w new : View) → KnowsRightly b.seat (length words) b.lists id w → KnowsRightly b.seat (length words) b.lists (length views) new → IsBoard words (set views id w ++ new ∷ [])
  with_two id w new fits fits_new =
      let one = with_view id w fits in record {
        seat = b.seat;
        lists = b.lists;
        last = b.last;
        rising = b.rising;
        small = b.small;
        each = each_push b.seat (length words) b.lists (set views id w) new (subst (λ (n : ℕ). KnowsRightly b.seat (length words) b.lists n new) (sym (length-set views id w)) fits_new) (each_set b.seat (length words) b.lists views id w fits (λ by v _ at. b.each by v at));
      }

  -- what a reader knows once it has seen the word of a slot
  sees : (slot : ℕ) (seen : List ℤ) → slot < length words → HasSeen (length words) b.lists seen → HasSeen (length words) b.lists (set seen slot (pos (get_or words slot 0)))
  sees slot seen inside has = record {
    wide = length-set seen slot (pos (get_or words slot 0)) ∙ has.wide;
    among = λ k within. sees_at k within (ℕ_discrete k slot);
  } where
    sees_at : (k : ℕ) → k < length words → Dec (k ≡ slot) → Contains (b.lists k) (position_at k (set seen slot (pos (get_or words slot 0))))
    sees_at k within (yes same) =
        let wide = has.wide in
        let short : slot < length seen = omega arith in
        let is = get_or-set_same seen slot (pos (get_or words slot 0)) (pos 0) short in
        subst (λ (j : ℕ). Contains (b.lists j) (position_at j (set seen slot (pos (get_or words slot 0))))) (sym same)
        (subst (Contains (b.lists slot)) (sym (is ∙ b.last slot inside)) (last_among (b.lists slot) (position_at slot seen) (has.among slot inside)))
    sees_at k within (no other) = subst (Contains (b.lists k)) (sym (get_or-set_other seen slot k (pos (get_or words slot 0)) (pos 0) other)) (has.among k within)

  -- it does not fall
  not_below : (slot : ℕ) (seen : List ℤ) → slot < length words → HasSeen (length words) b.lists seen → position_at slot seen ≤ℤ pos (get_or words slot 0)
  not_below slot seen inside has = subst (λ (x : ℤ). position_at slot seen ≤ℤ x) (sym (b.last slot inside)) (below_last (b.lists slot) (position_at slot seen) (b.rising slot inside) (has.among slot inside))

-- what others know stays so where a slot gets a new writer
pub moved : (seat : ℕ → ℕ) (slots : ℕ) (lists : ℕ → List ℤ) (slot new by : ℕ) (v : View) → by ≢ seat slot → KnowsRightly seat slots lists by v → KnowsRightly (but_at slot new seat) slots lists by v
moved seat slots lists slot new by v other fits = record {
  maker = if_some v.maker (λ (m : Maker) (is : MakesFrom seat slots lists by m). record {
    wide = is.wide;
    own = λ k from within. still k (is.own k from within);
    start = is.start;
    among = is.among;
  }) fits.maker;
  raiser = if_some v.raiser (λ (r : Raiser) (is : RaisesIn seat slots lists by r). record {
    own = still r.slot is.own;
    inside = is.inside;
    all = is.all;
  }) fits.raiser;
  reader = fits.reader;
} where
  still : (k : ℕ) → seat k ≡ by → but_at slot new seat k ≡ by
  still k own = but_else slot new seat k (λ same. other (sym own ∙ ap seat same)) ∙ own

-- what others know stays so where a slot's list grows
pub grown : (seat : ℕ → ℕ) (slots : ℕ) (lists : ℕ → List ℤ) (slot : ℕ) (x : ℤ) (by : ℕ) (v : View) → by ≢ seat slot → KnowsRightly seat slots lists by v
    → KnowsRightly seat slots (but_at slot (lists slot ++ x ∷ []) lists) by v
grown seat slots lists slot x by v other fits = record {
  maker = if_some v.maker (λ (m : Maker) (is : MakesFrom seat slots lists by m). record {
    wide = is.wide;
    own = is.own;
    start = λ k from within. still k (is.own k from within) ∙ is.start k from within;
    among = λ k within. more k (position_at k m.starts) (is.among k within);
  }) fits.maker;
  raiser = if_some v.raiser (λ (r : Raiser) (is : RaisesIn seat slots lists by r). record {
    own = is.own;
    inside = is.inside;
    all = is.all ∙ sym (still r.slot is.own);
  }) fits.raiser;
  reader = if_some v.reader (λ (seen : List ℤ) (is : HasSeen slots lists seen). record {
    wide = is.wide;
    among = λ k within. more k (position_at k seen) (is.among k within);
  }) fits.reader;
} where
  still : (k : ℕ) → seat k ≡ by → but_at slot (lists slot ++ x ∷ []) lists k ≡ lists k
  still k own = but_else slot (lists slot ++ x ∷ []) lists k (λ same. other (sym own ∙ ap seat same))

  more_at : (k : ℕ) (y : ℤ) → Dec (k ≡ slot) → Contains (lists k) y → Contains (but_at slot (lists slot ++ x ∷ []) lists k) y
  more_at k y (yes same) among = subst (λ (j : ℕ). Contains (but_at slot (lists slot ++ x ∷ []) lists j) y) (sym same)
      (subst (λ (xs : List ℤ). Contains xs y) (sym (but_here slot (lists slot ++ x ∷ []) lists)) (Contains-append_left (lists slot) (x ∷ []) y (subst (λ (j : ℕ). Contains (lists j) y) same among)))
  more_at k y (no different) among = subst (λ (xs : List ℤ). Contains xs y) (sym (but_else slot (lists slot ++ x ∷ []) lists k different)) among

  more : (k : ℕ) (y : ℤ) → Contains (lists k) y → Contains (but_at slot (lists slot ++ x ∷ []) lists k) y
  more k y among = more_at k y (ℕ_discrete k slot) among

-- a board at its start
pub begins : (starts : List ℕ) → All (λ word. word < 2 ^ 63) starts → IsBoard starts (making 0 (map pos starts) ∷ [])
begins starts small = record {
  seat = λ _. 0;
  lists = λ k. pos (get_or starts k 0) ∷ [];
  last = λ k within. refl;
  rising = λ k within. one_rises (pos (get_or starts k 0));
  small = λ k within. small k 0 within;
  each = only;
} where
  position_of : (xs : List ℕ) (k : ℕ) → position_at k (map pos xs) ≡ pos (get_or xs k 0)
  position_of [] k = refl
  position_of (x ∷ xs) zero = refl
  position_of (x ∷ xs) (suc k) = position_of xs k

  maker : MakesFrom (λ _. 0) (length starts) (λ k. pos (get_or starts k 0) ∷ []) 0 (record { next = 0; starts = map pos starts })
  maker = record {
    wide = length-map starts pos;
    own = λ k from within. refl;
    start = λ k from within. ap (λ (x : ℤ). x ∷ []) (sym (position_of starts k));
    among = λ k within. (0, omega arith, sym (position_of starts k));
  }

  only : Each (λ _. 0) (length starts) (λ k. pos (get_or starts k 0) ∷ []) (making 0 (map pos starts) ∷ [])
  only zero v at = subst (KnowsRightly (λ _. 0) (length starts) (λ k. pos (get_or starts k 0) ∷ []) 0) (some-injective (making 0 (map pos starts)) v at) (record { maker = maker; raiser = tt; reader = tt })
  only (suc by) v at = absurd (some-ne-none v (sym at))

-- the maker makes the writer of the next slot
pub makes_writer : (id next : ℕ) (starts : List ℤ) → next < length starts → Splits Holds id (making next starts) (making (next + 1) starts) (writing next (position_at next starts ∷ []))
makes_writer id next starts inside s b at = record {
  seat = seat;
  lists = b.lists;
  last = b.last;
  rising = b.rising;
  small = b.small;
  each = each_push seat (length s.words) b.lists (set s.views id (making (next + 1) starts)) (writing next (position_at next starts ∷ []))
      (record {
        maker = tt;
        raiser = record {
          own = but_here next (length s.views) b.seat ∙ sym (length-set s.views id (making (next + 1) starts));
          inside = within;
          all = sym (makes.start next (omega arith) within);
        };
        reader = tt;
      })
      (each_set seat (length s.words) b.lists s.views id (making (next + 1) starts)
      (record {
        maker = record {
          wide = makes.wide;
          own = λ k from below. but_else next (length s.views) b.seat k (λ same. absurd (omega arith)) ∙ makes.own k (omega arith) below;
          start = λ k from below. makes.start k (omega arith) below;
          among = makes.among;
        };
        raiser = tt;
        reader = tt;
      })
      (λ by v other at_by. moved b.seat (length s.words) b.lists next (length s.views) by v (λ same. other (same ∙ own)) (b.each by v at_by)));
} where
  makes : MakesFrom b.seat (length s.words) b.lists id (record { next = next; starts = starts })
  makes = (b.each id (making next starts) at).maker

  within : next < length s.words
  within = let wide = makes.wide in omega arith

  own : b.seat next ≡ id
  own = makes.own next (omega arith) within

  seat : ℕ → ℕ
  seat = but_at next (length s.views) b.seat

-- the maker makes a reader
pub makes_reader : (id next : ℕ) (starts : List ℤ) → Splits Holds id (making next starts) (making next starts) (reading starts)
makes_reader id next starts s b at = let fits = b.each id (making next starts) at in
    with_two s.words s.views b id (making next starts) (reading starts) fits (record { maker = tt; raiser = tt; reader = record { wide = fits.maker.wide; among = fits.maker.among } })

-- the reader's part goes out of a seat
pub parts : (id : ℕ) (v : View) → Splits Holds id v (without_reader v) (reader_part v)
parts id v s b at = let fits = b.each id v at in with_two s.words s.views b id (without_reader v) (reader_part v)
    (record { maker = fits.maker; raiser = fits.raiser; reader = tt })
    (record { maker = tt; raiser = tt; reader = fits.reader })

-- a reader's part comes to a writer's seat
pub joins : (id slot : ℕ) (positions : List ℤ) (other : ℕ) (seen : List ℤ) → Joins Holds id (writing slot positions) other (reading seen) (with_reader (writing slot positions) (reading seen)) no_part
joins id slot positions other seen s b at apart at_other =
    let at_reader = sym (set_else s.views id other (with_reader (writing slot positions) (reading seen)) apart) ∙ at_other in
    let writer = b.each id (writing slot positions) at in
    let reader = b.each other (reading seen) at_reader in
    let one = with_view s.words s.views b id (with_reader (writing slot positions) (reading seen)) (record { maker = tt; raiser = writer.raiser; reader = reader.reader }) in
    with_view s.words (set s.views id (with_reader (writing slot positions) (reading seen))) one other no_part (record { maker = tt; raiser = tt; reader = tt })

-- a writer raises its slot's position
pub raises : (slots id slot : ℕ) (positions : List ℤ) (word : ℕ) → last_position positions ≤ℤ pos word → word < 2 ^ 63
    → Allows Holds slots id (writing slot positions, []) slot (λ _. word) (λ _ m. m ≡ (raised_to (pos word) (writing slot positions), []))
raises slots id slot positions word above low s b _ at _ = (
  writing slot (positions ++ pos word ∷ []),
  keeps,
  tt,
  record {
    seat = b.seat;
    lists = lists;
    last = λ k below. last_at k (subst (λ (n : ℕ). k < n) (length-set s.words slot word) below) (ℕ_discrete k slot);
    rising = λ k below. rising_at k (subst (λ (n : ℕ). k < n) (length-set s.words slot word) below) (ℕ_discrete k slot);
    small = λ k below. small_at k (subst (λ (n : ℕ). k < n) (length-set s.words slot word) below) (ℕ_discrete k slot);
    each = subst (λ (n : ℕ). Each b.seat n lists (set s.views id (writing slot (positions ++ pos word ∷ [])))) (sym (length-set s.words slot word)) each;
  },
  refl,
) where
  writer : RaisesIn b.seat (length s.words) b.lists id (record { slot = slot; positions = positions })
  writer = (b.each id (writing slot positions) at).raiser

  lists : ℕ → List ℤ
  lists = but_at slot (b.lists slot ++ pos word ∷ []) b.lists

  here : lists slot ≡ b.lists slot ++ pos word ∷ []
  here = but_here slot (b.lists slot ++ pos word ∷ []) b.lists

  elsewhere : (k : ℕ) → k ≢ slot → lists k ≡ b.lists k
  elsewhere k other = but_else slot (b.lists slot ++ pos word ∷ []) b.lists k other

  last_at : (k : ℕ) → k < length s.words → Dec (k ≡ slot) → pos (get_or (set s.words slot word) k 0) ≡ last_position (lists k)
  last_at k below (yes same) = subst (λ (j : ℕ). pos (get_or (set s.words slot word) j 0) ≡ last_position (lists j)) (sym same)
      (ap pos (get_or-set_same s.words slot word 0 writer.inside) ∙ sym (ap last_position here ∙ last_push (b.lists slot) (pos word)))
  last_at k below (no other) = ap pos (get_or-set_other s.words slot k word 0 other) ∙ b.last k below ∙ sym (ap last_position (elsewhere k other))

  rising_at : (k : ℕ) → k < length s.words → Dec (k ≡ slot) → NeverFall (lists k)
  rising_at k below (yes same) = subst NeverFall (sym (ap lists same ∙ here))
      (push_rises (b.lists slot) (pos word) (b.rising slot writer.inside) (subst (λ (xs : List ℤ). last_position xs ≤ℤ pos word) writer.all above))
  rising_at k below (no other) = subst NeverFall (sym (elsewhere k other)) (b.rising k below)

  small_at : (k : ℕ) → k < length s.words → Dec (k ≡ slot) → get_or (set s.words slot word) k 0 < 2 ^ 63
  small_at k below (yes same) = subst (λ (j : ℕ). get_or (set s.words slot word) j 0 < 2 ^ 63) (sym same) (subst (λ (x : ℕ). x < 2 ^ 63) (sym (get_or-set_same s.words slot word 0 writer.inside)) low)
  small_at k below (no other) = subst (λ (x : ℕ). x < 2 ^ 63) (sym (get_or-set_other s.words slot k word 0 other)) (b.small k below)

  each : Each b.seat (length s.words) lists (set s.views id (writing slot (positions ++ pos word ∷ [])))
  each = each_set b.seat (length s.words) lists s.views id (writing slot (positions ++ pos word ∷ []))
      (record {
        maker = tt;
        raiser = record {
          own = writer.own;
          inside = writer.inside;
          all = ap (λ (xs : List ℤ). xs ++ pos word ∷ []) writer.all ∙ sym here;
        };
        reader = tt;
      })
      (λ by v other at_by. grown b.seat (length s.words) b.lists slot (pos word) by v (λ same. other (same ∙ writer.own)) (b.each by v at_by))

-- a reader looks at a slot
pub looks : (slots id slot : ℕ) (seen : List ℤ) → slot < length seen
    → Allows Holds slots id (reading seen, []) slot (λ word. word) (λ word m. Looked slot word (reading seen) m.0 × (m.1 ≡ []))
looks slots id slot seen inside s b _ at _ =
    let has : HasSeen (length s.words) b.lists seen = (b.each id (reading seen) at).reader in
    let wide = has.wide in
    let within : slot < length s.words = omega arith in (
      reading (set seen slot (pos (get_or s.words slot 0))),
      keeps,
      tt,
      loaded s.words s.views b slot id (reading (set seen slot (pos (get_or s.words slot 0)))) (record { maker = tt; raiser = tt; reader = sees s.words s.views b slot seen within has }),
      (record { view = refl; rises = not_below s.words s.views b slot seen within has; small = b.small slot within }, refl),
    )

-- a seat with the slot's writer and a reader looks at it
pub meets : (slots id slot : ℕ) (positions seen : List ℤ)
    → Allows Holds slots id (with_reader (writing slot positions) (reading seen), []) slot (λ word. word) (λ word m. Met slot word (with_reader (writing slot positions) (reading seen)) m.0 × (m.1 ≡ []))
meets slots id slot positions seen s b _ at _ =
    let fits = b.each id (with_reader (writing slot positions) (reading seen)) at in
    let has : HasSeen (length s.words) b.lists seen = fits.reader in
    let writer : RaisesIn b.seat (length s.words) b.lists id (record { slot = slot; positions = positions }) = fits.raiser in (
      with_reader (writing slot positions) (reading (set seen slot (pos (get_or s.words slot 0)))),
      keeps,
      tt,
      loaded s.words s.views b slot id (with_reader (writing slot positions) (reading (set seen slot (pos (get_or s.words slot 0)))))
          (record { maker = tt; raiser = writer; reader = sees s.words s.views b slot seen writer.inside has }),
      (
        record {
          view = refl;
          was = subst (λ (xs : List ℤ). Contains xs (position_at slot seen)) (sym writer.all) (has.among slot writer.inside);
          last = b.last slot writer.inside ∙ ap last_position (sym writer.all);
          small = b.small slot writer.inside;
        },
        refl,
      ),
    )
