-- The bytes of a file after a write.
use Rattle.std.proofs.Common.{true, ◌≡◌, ℕ, ◌+◌, ◌-◌, ◌<◌, ◌≤◌, max, List, [], ◌∷◌, ◌++◌, length, get_or, take, drop, replicate, Option, Some, inl, inr, sym, ap, ◌∙◌, refl, arith, length-append, length-take, length-drop, ap₂, drop_of_length-le, le_of_eq, append-nil}
use Rattle.std.proofs.lemmas.Bool.{cases_lt}
use Rattle.std.proofs.lemmas.List.{get_or_append_left, get_or-append_right, get_or-take, get_or-drop, get_or-replicate, get_or_past, length-replicate, ext_get_or, take_all}
use Rattle.disk_core.specs.DiskImage.{FileState, bytes_of}
use Rattle.disk_core.specs.Calls.{overwritten, write_to, IsWritten}
use Rattle.disk_core.specs.Standing.{Holds}

-- what stands before the bytes: the old ones, and zeros in a gap
abbrev front : ℕ → List ℕ → List ℕ
front at old = take at old ++ replicate (at - length old) 0

length_front : (at : ℕ) (old : List ℕ) → length (front at old) ≡ at
length_front at old = omega (arith, length-append (take at old) (replicate (at - length old) 0), length-take at old, length-replicate {A = ℕ} (at - length old) 0)

get_or_front : (at : ℕ) (old : List ℕ) (offset : ℕ) → offset < at → get_or (front at old) offset 0 ≡ get_or old offset 0
get_or_front at old offset below = elim (cases_lt offset (length old)) [
  | inl inside ↦
      let short : offset < length (take at old) = omega (arith, length-take at old) in
      get_or_append_left (take at old) (replicate (at - length old) 0) 0 offset short ∙ get_or-take at old offset 0 below
  | inr past ↦
      let long : length (take at old) ≡ length old = omega (arith, length-take at old) in
      get_or-append_right (take at old) (replicate (at - length old) 0) (length old) offset 0 long past
      ∙ get_or-replicate (at - length old) (offset - length old) 0 0 (omega arith) ∙ sym (get_or_past old offset 0 past)
]

module _ (at : ℕ) (bytes old : List ℕ) where
  abbrev whole : List ℕ
  whole = front at old ++ bytes ++ drop (at + length bytes) old

  length_whole : length whole ≡ max (length old) (at + length bytes)
  length_whole = omega (arith, length-append (front at old ++ bytes) (drop (at + length bytes) old), length-append (front at old) bytes, length_front at old, length-drop (at + length bytes) old)

  length_behind : length (front at old ++ bytes) ≡ at + length bytes
  length_behind = omega (arith, length-append (front at old) bytes, length_front at old)

  whole_below : (offset : ℕ) → offset < at → get_or whole offset 0 ≡ get_or old offset 0
  whole_below offset below =
      get_or_append_left (front at old ++ bytes) (drop (at + length bytes) old) 0 offset (omega (arith, length_behind))
      ∙ get_or_append_left (front at old) bytes 0 offset (omega (arith, length_front at old))
      ∙ get_or_front at old offset below

  whole_above : (offset : ℕ) → at + length bytes ≤ offset → get_or whole offset 0 ≡ get_or old offset 0
  whole_above offset past =
      get_or-append_right (front at old ++ bytes) (drop (at + length bytes) old) (at + length bytes) offset 0 length_behind past
      ∙ get_or-drop (at + length bytes) old (offset - (at + length bytes)) 0
      ∙ ap (λ (p : ℕ). get_or old p 0) (omega arith)

  whole_inside : (k : ℕ) → k < length bytes → get_or whole (at + k) 0 ≡ get_or bytes k 0
  whole_inside k inside =
      get_or_append_left (front at old ++ bytes) (drop (at + length bytes) old) 0 (at + k) (omega (arith, length_behind))
      ∙ get_or-append_right (front at old) bytes at (at + k) 0 (length_front at old) (omega arith)
      ∙ ap (λ (p : ℕ). get_or bytes p 0) (omega arith)

-- zeros behind the bytes are what lies past them
get_or_padded : (old : List ℕ) (count offset : ℕ) → get_or (old ++ replicate count 0) offset 0 ≡ get_or old offset 0
get_or_padded old count offset = elim (cases_lt offset (length old)) [
  | inl inside ↦ get_or_append_left old (replicate count 0) 0 offset inside
  | inr past ↦
      get_or-append_right old (replicate count 0) (length old) offset 0 refl past
      ∙ elim (cases_lt (offset - length old) count) [
        | inl zero_there ↦ get_or-replicate count (offset - length old) 0 0 zero_there
        | inr behind ↦ get_or_past (replicate count 0) (offset - length old) 0 (omega (arith, behind, length-replicate {A = ℕ} count 0))
      ]
      ∙ sym (get_or_past old offset 0 past)
]

-- bytes put over a file that was first filled up with zeros to where they reach
pub overwritten_by_parts : (at : ℕ) (bytes old grown : List ℕ) → 0 < length bytes → grown ≡ old ++ replicate (at + length bytes - length old) 0
    → take at grown ++ bytes ++ drop (at + length bytes) grown ≡ overwritten at bytes old
overwritten_by_parts at [] old grown some is = absurd (omega arith)
overwritten_by_parts at (byte ∷ bytes) old grown some is =
    let reach : ℕ = at + length (byte ∷ bytes) in
    let long : length grown ≡ length old + (reach - length old) = ap length is ∙ length-append old (replicate (reach - length old) 0) ∙ ap (λ (n : ℕ). length old + n) (length-replicate {A = ℕ} (reach - length old) 0) in
    let reads_old : (offset : ℕ) → get_or grown offset 0 ≡ get_or old offset 0 = λ offset. ap (λ (l : List ℕ). get_or l offset 0) is ∙ get_or_padded old (reach - length old) offset in
    let before : take at grown ≡ front at old = ext_get_or 0 (take at grown) (front at old) (omega (arith, length-take at grown, long, length_front at old))
    (λ i inside.
    let below : i < at = omega (arith, inside, length-take at grown) in
    get_or-take at grown i 0 below ∙ reads_old i ∙ sym (get_or_front at old i below)) in
    let behind : drop reach grown ≡ drop reach old = ext_get_or 0 (drop reach grown) (drop reach old) (omega (arith, length-drop reach grown, length-drop reach old, long))
    (λ i inside. get_or-drop reach grown i 0 ∙ reads_old (reach + i) ∙ sym (get_or-drop reach old i 0)) in
    ap₂ (λ (a b : List ℕ). a ++ (byte ∷ bytes) ++ b) before behind

-- how long a file is after a write of some bytes
pub length_overwritten : (at : ℕ) (bytes old : List ℕ) → 0 < length bytes → length (overwritten at bytes old) ≡ max (length old) (at + length bytes)
length_overwritten at [] old some = absurd (omega arith)
length_overwritten at (byte ∷ bytes) old some = length_whole at (byte ∷ bytes) old

-- it is no shorter than before, nor than what was written
pub overwritten_no_shorter : (at : ℕ) (bytes old : List ℕ) → (length old ≤ length (overwritten at bytes old)) × (0 < length bytes → at + length bytes ≤ length (overwritten at bytes old))
overwritten_no_shorter at [] old = (omega arith, λ some. absurd (omega arith))
overwritten_no_shorter at (byte ∷ bytes) old = (omega (arith, length_whole at (byte ∷ bytes) old), λ some. omega (arith, length_whole at (byte ∷ bytes) old))

-- below it the file is as before, zeros in a gap
pub overwritten_below : (at : ℕ) (bytes old : List ℕ) (offset : ℕ) → offset < at → get_or (overwritten at bytes old) offset 0 ≡ get_or old offset 0
overwritten_below at [] old offset below = refl
overwritten_below at (byte ∷ bytes) old offset below = whole_below at (byte ∷ bytes) old offset below

-- past the range the file is as before
pub overwritten_above : (at : ℕ) (bytes old : List ℕ) (offset : ℕ) → at + length bytes ≤ offset → get_or (overwritten at bytes old) offset 0 ≡ get_or old offset 0
overwritten_above at [] old offset past = refl
overwritten_above at (byte ∷ bytes) old offset past = whole_above at (byte ∷ bytes) old offset past

-- in the range stand the bytes
pub overwritten_inside : (at : ℕ) (bytes old : List ℕ) (k : ℕ) → k < length bytes → get_or (overwritten at bytes old) (at + k) 0 ≡ get_or bytes k 0
overwritten_inside at [] old k inside = absurd (omega arith)
overwritten_inside at (byte ∷ bytes) old k inside = whole_inside at (byte ∷ bytes) old k inside

-- what is written stands there
pub overwritten_holds : (at : ℕ) (bytes old : List ℕ) → Holds (overwritten at bytes old) at bytes
overwritten_holds at bytes old k inside = ((omega (arith, (overwritten_no_shorter at bytes old).1 (omega arith))), overwritten_inside at bytes old k inside)

-- a write adds its bytes to those that stand before it
pub holds_more : (old done bytes : List ℕ) (at : ℕ) → Holds old at done → Holds (overwritten (at + length done) bytes old) at (done ++ bytes)
holds_more old done bytes at holds k inside = elim (cases_lt k (length done)) [
  | inl before ↦
      let stood = holds k before in (
        omega (arith, stood.0, (overwritten_no_shorter (at + length done) bytes old).0),
        overwritten_below (at + length done) bytes old (at + k) (omega arith) ∙ stood.1 ∙ sym (get_or_append_left done bytes 0 k before),
      )
  | inr behind ↦
      let new : k - length done < length bytes = omega (arith, length-append done bytes) in
      let there = overwritten_holds (at + length done) bytes old (k - length done) new in
      let offset : at + length done + (k - length done) ≡ at + k = omega arith in (
        omega (arith, there.0),
        ap (λ (p : ℕ). get_or (overwritten (at + length done) bytes old) p 0) (sym offset) ∙ there.1
            ∙ sym (get_or-append_right done bytes (length done) k 0 refl behind),
      )
]

-- what a file reads as after a write
pub bytes_of_write : (at : ℕ) (bytes : List ℕ) (file : FileState) → bytes_of (write_to at bytes file).reads ≡ overwritten at bytes (bytes_of file.reads)
bytes_of_write at [] file = refl
bytes_of_write at (byte ∷ bytes) file = refl

-- a write is one that may have been done in part
pub write_is_written : (at : ℕ) (bytes : List ℕ) (file : FileState) → IsWritten at (length bytes) file (write_to at bytes file)
write_is_written at [] file = inl refl
write_is_written at (byte ∷ bytes) file = inr (record {
  some = omega arith;
  touched = refl;
  written = refl;
  least = refl;
  was_absent = refl;
  last_synced = refl;
  stays = λ _. refl;
  no_shorter = (overwritten_no_shorter at (byte ∷ bytes) (bytes_of file.reads)).0;
  no_longer = omega (arith, length_whole at (byte ∷ bytes) (bytes_of file.reads));
  below = whole_below at (byte ∷ bytes) (bytes_of file.reads);
  above = whole_above at (byte ∷ bytes) (bytes_of file.reads);
})

-- what a file that is there reads as after a write
pub reads_of_write : (at : ℕ) (bytes : List ℕ) (file : FileState) (old : List ℕ) → file.reads ≡ Some old → (write_to at bytes file).reads ≡ Some (overwritten at bytes old)
reads_of_write at [] file old is = is
reads_of_write at (byte ∷ bytes) file old is = ap (λ (r : Option (List ℕ)). Some (overwritten at (byte ∷ bytes) (bytes_of r))) is

-- a list that is put back in the offset of another of its length
pub put_back : (count : ℕ) (new old : List ℕ) → length new ≡ length old → length new ≤ count → take count (new ++ drop (length new) old) ≡ new
put_back count new old same fits =
    let none : drop (length new) old ≡ [] = drop_of_length-le old (le_of_eq (sym same)) in
    ap (λ (rest : List ℕ). take count (new ++ rest)) none ∙ ap (λ (l : List ℕ). take count l) (append-nil new) ∙ take_all count new fits

-- what a write of some bytes makes of a file
pub write_of_some : (at : ℕ) (bytes : List ℕ) (file : FileState) → 0 < length bytes
    → write_to at bytes file ≡ record file { reads = Some (overwritten at bytes (bytes_of file.reads)); is_touched = true; written = (at, length bytes) ∷ file.written }
write_of_some at [] file some = absurd (omega arith)
write_of_some at (byte ∷ bytes) file some = refl
