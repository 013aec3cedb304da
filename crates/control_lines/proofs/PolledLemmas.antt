-- A frame's line is written part by part.
use Rattle.std.proofs.Common.{◌≡◌, ◌∙◌, ap, refl, sym, subst, ℕ, ℤ, List, [], ◌∷◌, ◌++◌, Option, append_assoc, append-nil, codes, slice_index, ◌/◌, ◌%◌}
use Rattle.std.proofs.KnownBytes.{Appends-nil, Appends-trans}
use Rattle.std.specs.Io.KnownBytes.{Appends}
use Rattle.std.specs.Fmt.{signed_decimal}
use Rattle.hex.specs.Hex.{encode_lower, encode_with, lower_digits}
use Rattle.control_lines.specs.ReplyText.{encoded_line}

encoded_by : (digits xs ys : List ℕ) → encode_with digits (xs ++ ys) ≡ encode_with digits xs ++ encode_with digits ys
unfolding encode_with
encoded_by digits [] ys = refl
encoded_by digits (x ∷ xs) ys = ap (λ text. slice_index digits (x / 16) ∷ slice_index digits (x % 16) ∷ text) (encoded_by digits xs ys)

no_digits : encode_lower [] ≡ []
unfolding encode_with
no_digits = refl

-- digits of one part behind those of another are those of both
pub digits_of_both : (xs ys : List ℕ) → encode_lower xs ++ encode_lower ys ≡ encode_lower (xs ++ ys)
digits_of_both xs ys = sym (encoded_by lower_digits xs ys)

-- The first of these bytes stand as digits behind a front: what was written of that, and what lies in the buffer; the rest
-- is left.
pub record HasBegun (front bytes rest held : List ℕ) (contents written : Option (List ℕ)) : Type 0 where
  pub done : List ℕ
  pub text : List ℕ
  pub split : bytes ≡ done ++ rest
  pub told : Appends contents written text
  pub whole : text ++ held ≡ front ++ encode_lower done

-- the front lies in the buffer
pub front_held : (front bytes : List ℕ) (contents : Option (List ℕ)) → HasBegun front bytes bytes front contents contents
front_held front bytes contents = record {
  done = [];
  text = [];
  split = refl;
  told = Appends-nil contents;
  whole = sym (append-nil front) ∙ ap (λ l. front ++ l) (sym no_digits);
}

-- the digits of one part more were put behind what lay in the buffer
digits_more : (front bytes rest now later held : List ℕ) (contents written : Option (List ℕ)) → (so_far : HasBegun front bytes rest held contents written) → rest ≡ now ++ later
    → so_far.text ++ (held ++ encode_lower now) ≡ front ++ encode_lower (so_far.done ++ now)
digits_more front bytes rest now later held contents written so_far split =
    sym (append_assoc so_far.text held (encode_lower now)) ∙ ap (λ l. l ++ encode_lower now) so_far.whole ∙ append_assoc front (encode_lower so_far.done) (encode_lower now)
    ∙ ap (λ l. front ++ l) (digits_of_both so_far.done now)

-- .. and all of that was written
pub part_written : (front bytes rest now later held : List ℕ) (contents written then : Option (List ℕ)) → HasBegun front bytes rest held contents written → rest ≡ now ++ later
    → Appends written then (held ++ encode_lower now) → HasBegun front bytes later [] contents then
part_written front bytes rest now later held contents written then so_far split told = record {
  done = so_far.done ++ now;
  text = so_far.text ++ (held ++ encode_lower now);
  split = so_far.split ∙ ap (λ l. so_far.done ++ l) split ∙ sym (append_assoc so_far.done now later);
  told = Appends-trans contents written then _ _ so_far.told told;
  whole = append-nil _ ∙ digits_more front bytes rest now later held contents written so_far split;
}

-- the digits of the rest and an end were written
all_written : (front bytes rest held end : List ℕ) (contents written then : Option (List ℕ)) → HasBegun front bytes rest held contents written
    → Appends written then ((held ++ encode_lower rest) ++ end) → Appends contents then (front ++ (encode_lower bytes ++ end))
all_written front bytes rest held end contents written then so_far told =
    let all : so_far.text ++ ((held ++ encode_lower rest) ++ end) ≡ front ++ (encode_lower bytes ++ end) =
    sym (append_assoc so_far.text (held ++ encode_lower rest) end)
    ∙ ap (λ l. l ++ end) (digits_more front bytes rest rest [] held contents written so_far (sym (append-nil rest)) ∙ ap (λ l. front ++ encode_lower l) (sym so_far.split))
    ∙ append_assoc front (encode_lower bytes) end in
    subst (Appends contents then) all (Appends-trans contents written then _ _ so_far.told told)

-- a line up to its payload
abbrev pub front_text : ℤ → List ℕ → List ℕ
front_text position header = codes "frame " ++ (signed_decimal position ++ (codes " " ++ encode_lower header))

same_line : (position : ℤ) (header payload : List ℕ) → front_text position header ++ (encode_lower payload ++ codes "\n") ≡ encoded_line position (header ++ payload)
same_line position header payload =
    let digits : encode_lower header ++ (encode_lower payload ++ codes "\n") ≡ encode_lower (header ++ payload) ++ codes "\n" =
    sym (append_assoc (encode_lower header) (encode_lower payload) (codes "\n")) ∙ ap (λ l. l ++ codes "\n") (digits_of_both header payload) in
    ap (λ l. codes "frame " ++ l)
    (append_assoc (signed_decimal position) (codes " " ++ encode_lower header) (encode_lower payload ++ codes "\n") ∙ ap (λ l. signed_decimal position ++ (codes " " ++ l)) digits)

pub line_written : (position : ℤ) (header payload rest held : List ℕ) (contents written then : Option (List ℕ)) → HasBegun (front_text position header) payload rest held contents written
    → Appends written then ((held ++ encode_lower rest) ++ codes "\n") → Appends contents then (encoded_line position (header ++ payload))
line_written position header payload rest held contents written then so_far told =
    subst (Appends contents then) (same_line position header payload) (all_written (front_text position header) payload rest held (codes "\n") contents written then so_far told)
