-- A listing, descriptor by descriptor.
use Rattle.std.proofs.Common.{◌≡◌, ℕ, ℤ, ◌≤◌, ◌<◌, ◌+◌, true, false, List, [], ◌∷◌, ◌++◌, length, take, drop, refl, sym, ap, ◌∙◌, append_assoc, arith, get_or, suc}
use Rattle.std.specs.Prelude.{filter, map, int_le}
use Rattle.std.proofs.lemmas.List.{append-nil, length-append, take-append-le, take_all}
use Rattle.std.proofs.Math.Seq.{drop-cons}
use Rattle.archive_model.specs.declared.descriptor.Descriptor.{Descriptor}
use Rattle.archive_model.specs.declared.registration.Registration.{Registration}

-- the descriptors of at least an id
abbrev pub from_id : ℤ → List Registration → List Descriptor
from_id from rs = filter (λ d. int_le from d.recording) (map (λ r. r.descriptor) rs)

-- what was found and what is still to be looked at have the same first descriptors as all
pub record IsAsFar (from : ℤ) (count : ℕ) (found : List Descriptor) (rest all : List Registration) : Type 0 where
  pub within : length found ≤ count
  pub same : take count (found ++ from_id from rest) ≡ take count (from_id from all)

pub far-start : (from : ℤ) (count : ℕ) (all : List Registration) → IsAsFar from count [] all all
far-start from count all = record { within = omega arith; same = refl }

-- a descriptor of a lower id is left out
pub far-skip : (from : ℤ) (count : ℕ) (found : List Descriptor) (r : Registration) (rest all : List Registration) → int_le from r.descriptor.recording ≡ false → IsAsFar from count found (r ∷ rest) all → IsAsFar from count found rest all
far-skip from count found r rest all low far = record { within = far.within; same = ap (λ ds. take count (found ++ ds)) (sym (skipped low)) ∙ far.same }
  where
    skipped : int_le from r.descriptor.recording ≡ false → from_id from (r ∷ rest) ≡ from_id from rest
    skipped low = rw low refl

-- another is found
pub far-more : (from : ℤ) (count : ℕ) (found : List Descriptor) (r : Registration) (rest all : List Registration) → int_le from r.descriptor.recording ≡ true → length found < count → IsAsFar from count found (r ∷ rest) all → IsAsFar from count (found ++ r.descriptor ∷ []) rest all
far-more from count found r rest all high room far =
    let one : length (found ++ r.descriptor ∷ []) ≡ length found + 1 = length-append found (r.descriptor ∷ []) in
    let kept : from_id from (r ∷ rest) ≡ r.descriptor ∷ from_id from rest = rw high refl in
    record {
      within = omega (arith, one);
      same = ap (take count) (append_assoc found (r.descriptor ∷ []) (from_id from rest) ∙ ap (λ ds. found ++ ds) (sym kept)) ∙ far.same;
    }

-- as many are found as are asked for
pub far-full : (from : ℤ) (count : ℕ) (found : List Descriptor) (rest all : List Registration) → length found ≡ count → IsAsFar from count found rest all → found ≡ take count (from_id from all)
far-full from count found rest all full far =
    let most : count ≤ length found = omega (arith, full) in
    let least : length found ≤ count = omega (arith, full) in
    sym (take_all count found least) ∙ sym (take-append-le count found (from_id from rest) most) ∙ far.same

-- all were looked at
pub far-end : (from : ℤ) (count : ℕ) (found : List Descriptor) (all : List Registration) → IsAsFar from count found [] all → found ≡ take count (from_id from all)
far-end from count found all far = sym (take_all count found far.within) ∙ ap (take count) (sym (append-nil found)) ∙ far.same

-- the recording at an index, and those behind it
pub drop-item : (rs : List Registration) (i : ℕ) (r : Registration) → i < length rs → r ≡ get_or rs i r → drop i rs ≡ r ∷ drop (i + 1) rs
drop-item rs i r within is =
    let next : suc i ≡ i + 1 = omega arith in
    drop-cons rs i r within ∙ ap (λ x. x ∷ drop (suc i) rs) (sym is) ∙ ap (λ n. r ∷ drop n rs) next
