-- A byte written over ranges of offsets.
use Rattle.std.proofs.Common.{◌≡◌, ◌⊎◌, ℕ, ◌+◌, ◌<◌, ◌≤◌, List, [], ◌∷◌, ◌++◌, take, length, get_or, reverse, inl, inr, ⊎_elim, sym, ◌∙◌, subst, arith, lt_of_not-le}
use Rattle.std.proofs.lemmas.Bool.{cases_lt}
use Rattle.std.proofs.lemmas.List.{take_more, reverse-append}
use Rattle.disk_core.specs.DiskImage.{FileState, IsWithin}
use Rattle.disk_core.specs.Memory.{AreFilled}
use Rattle.disk_core.specs.CrashChoice.{IsFilled}

within_append : (some more : List (ℕ × ℕ)) (offset : ℕ) → IsWithin (some ++ more) offset → IsWithin some offset ⊎ IsWithin more offset
within_append [] more offset within = inr within
within_append (range ∷ some) more offset within = elim within [
  | inl here ↦ inl (inl here)
  | inr later ↦ ⊎_elim (λ l. inl (inr l)) (λ r. inr r) (within_append some more offset later)
]

within_left : (some more : List (ℕ × ℕ)) (offset : ℕ) → IsWithin some offset → IsWithin (some ++ more) offset
within_left [] more offset within = absurd within
within_left (range ∷ some) more offset within = elim within [ inl here ↦ inl here | inr later ↦ inr (within_left some more offset later) ]

within_right : (some more : List (ℕ × ℕ)) (offset : ℕ) → IsWithin more offset → IsWithin (some ++ more) offset
within_right [] more offset within = within
within_right (range ∷ some) more offset within = inr (within_right some more offset within)

reverse_cons : (range : ℕ × ℕ) (ranges : List (ℕ × ℕ)) → reverse (range ∷ ranges) ≡ reverse ranges ++ range ∷ []
reverse_cons range ranges = reverse-append (range ∷ []) ranges

-- the order of the ranges does not matter
within_reverse : (ranges : List (ℕ × ℕ)) (offset : ℕ) → IsWithin (reverse ranges) offset → IsWithin ranges offset
within_reverse [] offset within = within
within_reverse (range ∷ ranges) offset within =
    ⊎_elim (λ l. inr (within_reverse ranges offset l)) (λ r. elim r [ inl here ↦ inl here | inr none ↦ absurd none ])
    (within_append (reverse ranges) (range ∷ []) offset (subst (λ (l : List (ℕ × ℕ)). IsWithin l offset) (reverse_cons range ranges) within))

reverse_within : (ranges : List (ℕ × ℕ)) (offset : ℕ) → IsWithin ranges offset → IsWithin (reverse ranges) offset
reverse_within [] offset within = within
reverse_within (range ∷ ranges) offset within =
    subst (λ (l : List (ℕ × ℕ)). IsWithin l offset) (sym (reverse_cons range ranges))
    (elim within [
      | inl here ↦ within_right (reverse ranges) (range ∷ []) offset (inl here)
      | inr later ↦ within_left (reverse ranges) (range ∷ []) offset (reverse_within ranges offset later)
    ])

-- an offset of the ranges that is not in the last is in one of the others
earlier : (some : List (ℕ × ℕ)) (last : ℕ × ℕ) (offset : ℕ) → ((last.0 ≤ offset) × (offset < last.0 + last.1) → ⊥) → IsWithin (some ++ last ∷ []) offset → IsWithin some offset
earlier some last offset apart within =
    ⊎_elim (λ l. l) (λ r. elim r [ inl here ↦ absurd (apart here) | inr none ↦ absurd none ]) (within_append some (last ∷ []) offset within)

-- one range more
pub filled_more : (ranges : List (ℕ × ℕ)) (i byte : ℕ) (old mid new : List ℕ) → i < length ranges → AreFilled (take i ranges) byte old mid → length mid ≡ length old
    → ((offset : ℕ) → (get_or ranges i (0, 0)).0 ≤ offset → offset < (get_or ranges i (0, 0)).0 + (get_or ranges i (0, 0)).1 → offset < length mid → get_or new offset 0 ≡ byte)
    → ((offset : ℕ) → (offset < (get_or ranges i (0, 0)).0) ⊎ ((get_or ranges i (0, 0)).0 + (get_or ranges i (0, 0)).1 ≤ offset) → get_or new offset 0 ≡ get_or mid offset 0)
    → AreFilled (take (i + 1) ranges) byte old new
filled_more ranges i byte old mid new within filled long inside outside =
    let range : ℕ × ℕ = get_or ranges i (0, 0) in
    let more : take (i + 1) ranges ≡ take i ranges ++ range ∷ [] = take_more ranges i (0, 0) within in
    let beside : (offset : ℕ) → ((range.0 ≤ offset) × (offset < range.0 + range.1) → ⊥) → get_or new offset 0 ≡ get_or mid offset 0 =
    λ offset apart. outside offset (⊎_elim (λ below. inl below) (λ from. ⊎_elim (λ here. absurd (apart (from, here))) (λ past. inr past) (cases_lt offset (range.0 + range.1))) (cases_lt offset range.0)) in
    record {
      inside = λ offset in_one short.
          ⊎_elim (λ below. outside offset (inl below) ∙ filled.inside offset (earlier (take i ranges) range offset (λ here. omega (arith, here.0, below)) (subst (λ (l : List (ℕ × ℕ)). IsWithin l offset) more in_one)) short)
          (λ from. ⊎_elim (λ here. inside offset from here (omega (arith, short, long)))
          (λ past. outside offset (inr past) ∙ filled.inside offset (earlier (take i ranges) range offset (λ here. omega (arith, here.1, past)) (subst (λ (l : List (ℕ × ℕ)). IsWithin l offset) more in_one)) short)
          (cases_lt offset (range.0 + range.1)))
          (cases_lt offset range.0);
      outside = λ offset in_none.
          let none : IsWithin (take i ranges ++ range ∷ []) offset → ⊥ = λ w. in_none (subst (λ (l : List (ℕ × ℕ)). IsWithin l offset) (sym more) w) in
          beside offset (λ here. none (within_right (take i ranges) (range ∷ []) offset (inl here)))
          ∙ filled.outside offset (λ w. none (within_left (take i ranges) (range ∷ []) offset w));
    }

-- the ranges, and all from an offset on
pub filled_file : (file : FileState) (ranges : List (ℕ × ℕ)) (byte far : ℕ) (old mid new : List ℕ) → file.written ≡ reverse ranges → AreFilled ranges byte old mid → length mid ≡ length old → length new ≡ length mid
    → length old ≤ far
    → ((offset : ℕ) → file.least ≤ offset → offset < file.least + far → offset < length mid → get_or new offset 0 ≡ byte)
    → ((offset : ℕ) → (offset < file.least) ⊎ (file.least + far ≤ offset) → get_or new offset 0 ≡ get_or mid offset 0)
    → IsFilled byte file old new
filled_file file ranges byte far old mid new written filled long same_long fits inside outside = record {
  long = same_long ∙ long;
  unsynced = λ offset short unsynced. ⊎_elim
      (λ below. outside offset (inl below) ∙ filled.inside offset (elim unsynced [
        | inl w ↦ within_reverse ranges offset (subst (λ (l : List (ℕ × ℕ)). IsWithin l offset) written w)
        | inr past ↦ absurd (omega (arith, past, below))
      ]) short)
      (λ past. inside offset past (omega (arith, short, fits)) (omega (arith, short, long)))
      (cases_lt offset file.least);
  durable = λ offset fixed.
      let below : offset < file.least = lt_of_not-le (λ past. fixed (inr past)) in
      outside offset (inl below) ∙ filled.outside offset (λ w. fixed (inl (subst (λ (l : List (ℕ × ℕ)). IsWithin l offset) (sym written) (reverse_within ranges offset w))));
}
