-- Which words are numbers.
use Rattle.std.proofs.Common.{◌≡◌, ℕ, ◌^◌, ◌<◌, ℤ, pos, negsuc, Bool, true, false, ◌&&◌, List, Result, Err, FitsSigned, w64, refl, sym, rules, tests}
use Rattle.std.specs.Str.{bytes_eq}
use Rattle.std.specs.Fmt.{signed_decimal}
use Rattle.std.specs.Str.Parse.{signed_digits_value, ParsesSigned}
use Rattle.std.specs.Int.Signed.{mag}
use Rattle.std.proofs.lemmas.Fmt.{parse-signed_decimal}
use Rattle.std.proofs.lemmas.Slice.Eq.{bytes_eq-Decides}
use Rattle.frame_core.specs.declared.refusal.Refusal.TheVariants.{BadLine}
use Rattle.control_lines.specs.Numbers.{fits, long_of}

-- a number that fits, as other crates say it
pub FitsSigned-from_fits : (z : ℤ) → fits 63 z ≡ true → FitsSigned w64 z
FitsSigned-from_fits (pos n) e = search (rules, tests)
FitsSigned-from_fits (negsuc n) e = search (rules, tests)

pub mag_below : (z : ℤ) → fits 63 z ≡ true → mag z < 2 ^ 63
mag_below (pos n) e = search (rules, tests)
mag_below (negsuc n) e = search (rules, tests)

both : (a b : Bool) → (a && b) ≡ true → (a ≡ true) × (b ≡ true)
both true b e = (refl, e)
both false b e = (cc, cc)

-- the text of a number is one word for it alone
refused_by : {E : Type 0} (e : E) (word : List ℕ) (z : ℤ) (t : Bool) → t ≡ (bytes_eq (signed_decimal z) word && fits 63 z) → ParsesSigned w64 10 word (Err e) → t ≡ false
refused_by e word z false is h = refl
refused_by e word z true is h =
    let two = both (bytes_eq (signed_decimal z) word) (fits 63 z) (sym is) in
    let same : word ≡ signed_decimal z = sym ((bytes_eq-Decides (signed_decimal z) word).0 two.0) in
    let read = parse-signed_decimal w64 z word (Err e) (FitsSigned-from_fits z two.1) (mag_below z two.1) same h in
    cc

-- what does not parse is no number
pub long_of-refused : {E : Type 0} (r : Result ℤ E) (e : E) (word : List ℕ) → r ≡ Err e → ParsesSigned w64 10 word r → long_of word ≡ Err BadLine
unfolding long_of
long_of-refused r e word is h =
    let z = signed_digits_value 10 word in
    let no = refused_by e word z (bytes_eq (signed_decimal z) word && fits 63 z) refl (rw is at h) in
    rw no
