-- What the steps of a board ask of the seats that take them.
use Rattle.std.proofs.Common.{◌≡◌, ℕ, suc, take, ◌+◌, ◌^◌, ◌<◌, ◌≤ℤ◌, ℤ, pos, List, [], ◌∷◌, ◌++◌, length, sym, refl, ap, ◌∙◌, subst, arith}
use Rattle.std.specs.Prelude.{Contains, IfSome}
use Rattle.std.proofs.lemmas.List.{length-take-le, take_more}
use Rattle.atomic_table.specs.Seated.{TableId}
use Rattle.atomic_table.specs.Table.{Allows, Splits, Joins}
use Rattle.position_board.specs.declared.rule.View.{View}
use Rattle.position_board.specs.Positions.{Published, position_at, last_position, new_writers}
use Rattle.position_board.specs.Rule.{making, writing, reading, no_part, with_reader, reader_part, writer_made, next_writer, new_reader, raised_to, Looked, Met, Known, IsMakerSeat, IsWriterSeat, IsReaderSeat, positions_of, seen_of, starts_of, maker_next}
use Rattle.position_board.proofs.PositionLemmas.{last_push, push_rises, below_last}
use Rattle.position_board.proofs.BoardLemmas.{Holds, makes_writer, makes_reader, raises, looks, joins, meets}

pub looks_by : (table : TableId) (slots id slot : ℕ) (me : Known) → IsReaderSeat table me → slot < table.words
    → Allows Holds slots id me slot (λ word. word) (λ word m. Looked slot word me.0 m.0 × (m.1 ≡ me.1))
looks_by table slots id slot me is inside =
    let wide = is.wide in
    subst (λ (k : Known). Allows Holds slots id k slot (λ word. word) (λ word m. Looked slot word k.0 m.0 × (m.1 ≡ k.1))) (sym is.known) (looks slots id slot (seen_of me.0) (omega arith))

pub raises_by : (table : TableId) (slots id slot last word : ℕ) (me : Known) → IsWriterSeat table slot last me → last_position (positions_of me.0) ≤ℤ pos word → word < 2 ^ 63
    → Allows Holds slots id me slot (λ _. word) (λ _ m. m ≡ (raised_to (pos word) me.0, me.1))
raises_by table slots id slot last word me is above low =
    subst (λ (k : Known). Allows Holds slots id k slot (λ _. word) (λ _ m. m ≡ (raised_to (pos word) k.0, k.1))) (sym is.known) (raises slots id slot (positions_of me.0) word above low)

-- a writer that has raised its slot's position
pub raised_is : (table : TableId) (slot last word : ℕ) (me new : Known) → IsWriterSeat table slot last me → last_position (positions_of me.0) ≤ℤ pos word → word < 2 ^ 63
    → new ≡ (raised_to (pos word) me.0, me.1) → IsWriterSeat table slot word new
raised_is table slot last word me new is above low e =
    let all : new ≡ (writing slot (positions_of me.0 ++ pos word ∷ []), []) = e ∙ ap (λ (k : Known). (raised_to (pos word) k.0, k.1)) is.known in
    subst (IsWriterSeat table slot word) (sym all) (record {
      known = refl;
      inside = is.inside;
      last = sym (last_push (positions_of me.0) (pos word));
      small = low;
      rising = push_rises (positions_of me.0) (pos word) is.rising above;
    })

pub joins_by : (table also : TableId) (id other slot last : ℕ) (writer reader part : Known) → IsWriterSeat table slot last writer → IsReaderSeat also reader → part ≡ (reader_part reader.0, [])
    → Joins Holds id writer.0 other part.0 (with_reader writer.0 part.0) no_part
joins_by table also id other slot last writer reader part writes reads out =
    let is : part ≡ (reading (seen_of reader.0), []) = out ∙ ap (λ (k : Known). (reader_part k.0, [])) reads.known in
    subst (λ (z : Known × Known). Joins Holds id z.0.0 other z.1.0 (with_reader z.0.0 z.1.0) no_part) (λ i. (sym writes.known i, sym is i)) (joins id slot (positions_of writer.0) other (seen_of reader.0))

pub meets_by : (slots id slot : ℕ) (positions seen : List ℤ) (me : Known) → me ≡ (with_reader (writing slot positions) (reading seen), [])
    → Allows Holds slots id me slot (λ word. word) (λ word m. Met slot word me.0 m.0 × (m.1 ≡ me.1))
meets_by slots id slot positions seen me e =
    subst (λ (k : Known). Allows Holds slots id k slot (λ word. word) (λ word m. Met slot word k.0 m.0 × (m.1 ≡ k.1))) (sym e) (meets slots id slot positions seen)

-- a writer's seat with a reader's part
module _ (table also : TableId) (slot last : ℕ) (writer reader part joined : Known) (writes : IsWriterSeat table slot last writer) (reads : IsReaderSeat also reader)
    (out : part ≡ (reader_part reader.0, [])) (both : joined ≡ (with_reader writer.0 part.0, writer.1)) where
  part_is : part ≡ (reading (seen_of reader.0), [])
  part_is = out ∙ ap (λ (k : Known). (reader_part k.0, [])) reads.known

  pub joined_is : joined ≡ (with_reader (writing slot (positions_of writer.0)) (reading (seen_of reader.0)), [])
  joined_is = both ∙ (λ i. (with_reader (writes.known i).0 (part_is i).0, (writes.known i).1))

  module _ (word : ℕ) (after : View) (met : Met slot word joined.0 after) where
    pub was_among : Contains (positions_of writer.0) (position_at slot (seen_of reader.0))
    was_among = subst (λ (k : Known). IfSome k.0.reader (λ seen. IfSome k.0.raiser (λ r. Contains r.positions (position_at slot seen)))) joined_is met.was

    pub word_is : pos word ≡ last_position (positions_of writer.0)
    word_is = subst (λ (k : Known). IfSome k.0.raiser (λ r. pos word ≡ last_position r.positions)) joined_is met.last

    pub was_below : position_at slot (seen_of reader.0) ≤ℤ pos word
    was_below = subst (λ (x : ℤ). position_at slot (seen_of reader.0) ≤ℤ x) (sym word_is) (below_last (positions_of writer.0) (position_at slot (seen_of reader.0)) writes.rising was_among)

pub makes_writer_by : (id next : ℕ) (starts : List ℤ) (me : Known) → me ≡ (making next starts, []) → next < length starts → Splits Holds id me.0 (writer_made me.0) (next_writer me.0)
makes_writer_by id next starts me e inside = subst (λ (k : Known). Splits Holds id k.0 (writer_made k.0) (next_writer k.0)) (sym e) (makes_writer id next starts inside)

pub makes_reader_by : (table : TableId) (id : ℕ) (me : Known) → IsMakerSeat table me → Splits Holds id me.0 me.0 (new_reader me.0)
makes_reader_by table id me is = subst (λ (k : Known). Splits Holds id k.0 k.0 (new_reader k.0)) (sym is.known) (makes_reader id (maker_next me.0.maker) (starts_of me.0))

-- the writer behind others
one_more : (table : TableId) (first : ℕ) (starts : List ℤ) (start : ℤ)
    → new_writers table first (starts ++ start ∷ []) ≡ new_writers table first starts ++ record { table = table; slot = first + length starts; positions = start ∷ [] } ∷ []
one_more table first [] start = ap (λ (n : ℕ). record { table = table; slot = n; positions = start ∷ [] } ∷ []) (omega arith)
one_more table first (x ∷ starts) start =
    let rest = one_more table (first + 1) starts start in
    let same : first + 1 + length starts ≡ first + suc (length starts) = omega arith in
    ap (λ (ws : List Published). record { table = table; slot = first; positions = x ∷ [] } ∷ ws)
    (rest ∙ ap (λ (n : ℕ). new_writers table (first + 1) starts ++ record { table = table; slot = n; positions = start ∷ [] } ∷ []) same)

-- the writers once the next one is made
pub writers_made : (table own_table : TableId) (starts : List ℤ) (slot : ℕ) (before after : List Published) (seat own : Known) → slot < length starts
    → before ≡ new_writers table 0 (take slot starts) → seat ≡ (making slot starts, []) → own ≡ (next_writer seat.0, []) → own_table ≡ table
    → after ≡ before ++ record { table = own_table; slot = slot; positions = positions_of own.0 } ∷ [] → after ≡ new_writers table 0 (take (slot + 1) starts)
writers_made table own_table starts slot before after seat own inside so_far makes out same e =
    let start : positions_of own.0 ≡ position_at slot starts ∷ [] = ap (λ (k : Known). positions_of k.0) (out ∙ ap (λ (k : Known). (next_writer k.0, [])) makes) in
    let long : 0 + length (take slot starts) ≡ slot = omega (arith, length-take-le slot starts (omega arith)) in
    let last = one_more table 0 (take slot starts) (position_at slot starts) in
    e ∙ (λ i. so_far i ++ record { table = same i; slot = sym long i; positions = start i } ∷ []) ∙ sym last ∙ ap (new_writers table 0) (sym (take_more starts slot (pos 0) inside))
