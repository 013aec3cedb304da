-- Numbers in the names of files.
use Rattle.std.proofs.Common.{negsuc, codes, get_or, append_assoc, ◌≡◌, ℕ, ◌+◌, ◌<◌, ◌≤◌, ◌^◌, Bool, true, false, cond, not, List, [], ◌∷◌, ◌++◌, length, take, drop, Some, ℤ, Result, Ok, pos, w64, refl, sym, ap, ◌∙◌, subst, arith, rules, eq-eqb, ne_eqb, length-append, to_z, of_z}
use lib.Dec.{eqb}
use Rattle.std.proofs.lemmas.Bool.Decides.{nat_tests}
use lib.Signed.{le_z}
use Rattle.std.specs.Char.{digit_value}
use Rattle.disk_core.specs.declared.file_id.FileId.{FileId}
use Rattle.disk_core.specs.declared.file_id.FileId.TheVariants.{BankA, BankB, Segment}
use Rattle.disk_core.specs.FileNames.{name_of}
use Rattle.host_disk.specs.ArchiveFiles.{IsArchiveFile}
use Rattle.std.specs.Fmt.{decimal}
use Rattle.std.specs.List.{position_or_len, before_first, after_first}
use Rattle.std.specs.Str.Parse.{AllDigits, ParsesSigned}
use Rattle.std.proofs.lemmas.Fmt.{decimal_is_IsNumeral, parse-signed_decimal}
use Rattle.std.proofs.lemmas.List.{take_at, drop_at, drop-drop}

-- where a byte that is no digit stands first behind digits
first_behind : (ds rest : List ℕ) (c : ℕ) → AllDigits 10 ds → 10 ≤ digit_value c → position_or_len (λ b. eqb b c) (ds ++ c ∷ rest) ≡ length ds
first_behind [] rest c all high = let same : eqb c c ≡ true = eq-eqb c c refl in ap (λ (b : Bool). cond (not b) (1 + position_or_len (λ b. eqb b c) rest) 0) same
first_behind (d ∷ ds) rest c all high =
    let other : eqb d c ≡ false = ne_eqb d c (λ is. omega (arith, high, subst (λ n. digit_value n < 10) is all.0)) in
    ap (λ (b : Bool). cond (not b) (1 + position_or_len (λ b. eqb b c) (ds ++ c ∷ rest)) 0) other ∙ omega (arith, first_behind ds rest c all.1 high)

-- a number is read from its text
pub count_read : {E : Type 0} (n : ℕ) (text : List ℕ) (r : Result ℤ E) → n < 2 ^ 63 → decimal n ≡ text → ParsesSigned w64 10 text r → r ≡ Ok (pos n)
count_read n text r small is parses = parse-signed_decimal w64 (pos n) text r (search (rules, small)) small (sym is) parses

pub kept_count : (n : ℕ) → n < 2 ^ 63 → to_z w64 (of_z w64 (pos n)) ≡ pos n
kept_count n small = search (rules, small)

pub is_count : (n : ℕ) (z : ℤ) → z ≡ pos n → le_z (pos 0) z ≡ false → ⊥
is_count n z same below = let no : le_z (pos 0) (pos n) ≡ false = subst (λ (y : ℤ). le_z (pos 0) y ≡ false) same below in grind (arith, nat_tests, no)

-- a text behind a number and a mark is cut at the mark
pub count_cut : (n c : ℕ) (rest bs : List ℕ) → n < 2 ^ 63 → 10 ≤ digit_value c → decimal n ++ c ∷ rest ≡ bs
    → (position_or_len (λ b. eqb b c) bs < length bs) × (before_first (λ b. eqb b c) bs ≡ decimal n) × (after_first (λ b. eqb b c) bs ≡ rest)
count_cut n c rest bs small high is =
    let first : position_or_len (λ b. eqb b c) (decimal n ++ c ∷ rest) ≡ length (decimal n) = first_behind (decimal n) rest c (decimal_is_IsNumeral n (omega arith)).0.1 high in
    subst (λ (l : List ℕ). (position_or_len (λ b. eqb b c) l < length l) × (before_first (λ b. eqb b c) l ≡ decimal n) × (after_first (λ b. eqb b c) l ≡ rest)) is (
      omega (arith, first, length-append (decimal n) (c ∷ rest)),
      ap (λ k. take k (decimal n ++ c ∷ rest)) first ∙ take_at (decimal n) (c ∷ rest) (length (decimal n)) refl,
      ap (λ k. drop (k + 1) (decimal n ++ c ∷ rest)) first ∙ sym (drop-drop 1 (length (decimal n)) (decimal n ++ c ∷ rest)) ∙ ap (drop 1) (drop_at (decimal n) (c ∷ rest) (length (decimal n)) refl),
    )

digits_first : (ds rest more : List ℕ) (c : ℕ) → 0 < length ds → AllDigits 10 ds → 10 ≤ digit_value c → ds ++ rest ≡ c ∷ more → ⊥
digits_first [] rest more c some all high is = omega arith
digits_first (d ∷ ds) rest more c some all high is =
    let same : d ≡ c = ap (λ (l : List ℕ). get_or l 0 0) is in
    omega (arith, high, subst (λ n. digit_value n < 10) same all.0)

-- no segment's name begins with a letter
no_segment : (n : ℕ) (rest more : List ℕ) (c : ℕ) → n < 2 ^ 63 → 10 ≤ digit_value c → decimal n ++ rest ≡ c ∷ more → ⊥
no_segment n rest more c small high is = let digits = decimal_is_IsNumeral n (omega arith) in digits_first (decimal n) rest more c digits.0.0 digits.0.1 high is

-- the files that have the names of the banks
pub only_bank_a : (file : FileId) → IsArchiveFile file → name_of file ≡ codes "catalogue-a.bank" → Some BankA ≡ Some file
only_bank_a BankA proper is = refl
only_bank_a BankB proper is = let differ : 98 ≡ 97 = ap (λ (l : List ℕ). get_or l 10 0) is in absurd (omega (arith, differ))
only_bank_a (Segment (pos recording) (pos base)) proper is = absurd (no_segment recording _ _ 99 proper.0 (omega arith) (sym (append_assoc (decimal recording) (45 ∷ decimal base) (codes ".rec")) ∙ is))
only_bank_a (Segment (negsuc recording) base) proper is = absurd proper.0
only_bank_a (Segment (pos recording) (negsuc base)) proper is = absurd proper.1

pub only_bank_b : (file : FileId) → IsArchiveFile file → name_of file ≡ codes "catalogue-b.bank" → Some BankB ≡ Some file
only_bank_b BankA proper is = let differ : 97 ≡ 98 = ap (λ (l : List ℕ). get_or l 10 0) is in absurd (omega (arith, differ))
only_bank_b BankB proper is = refl
only_bank_b (Segment (pos recording) (pos base)) proper is = absurd (no_segment recording _ _ 99 proper.0 (omega arith) (sym (append_assoc (decimal recording) (45 ∷ decimal base) (codes ".rec")) ∙ is))
only_bank_b (Segment (negsuc recording) base) proper is = absurd proper.0
only_bank_b (Segment (pos recording) (negsuc base)) proper is = absurd proper.1
