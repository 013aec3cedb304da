-- Texts that were put one after another.
use Rattle.std.proofs.Common.{◌≡◌, ◌++◌, ◌∙◌, ◌+◌, ◌<◌, ℕ, List, [], Result, ap, sym, append_assoc, append-nil, drop, get_or, length}
use Rattle.std.specs.Prelude.{OnOk}
use Rattle.std.proofs.lemmas.List.{at_drop_more}
use Rattle.std.proofs.lemmas.Result.{on_ok_weaker}
use Rattle.metrics_text.specs.MetricsText.{bucket_line, bucket_lines, time_labels}
use Rattle.metrics_text.specs.SettleTimes.{held_sum}
use Rattle.metrics_text.specs.declared.settle_times.SettleBucket.{SettleBucket}

-- all that was put behind the first text was put behind what the first one left
pub put_first : (old text next rest end : List ℕ) → next ≡ old ++ text → end ≡ next ++ rest → end ≡ old ++ (text ++ rest)
put_first old text next rest end is then = then ∙ (ap (λ (left : List ℕ). left ++ rest) is ∙ append_assoc old text rest)

-- nothing was put behind the last one
put_last : (old text end : List ℕ) → end ≡ old ++ text → end ≡ old ++ (text ++ [])
put_last old text end is = is ∙ ap (λ (last : List ℕ). old ++ last) (sym (append-nil text))

-- two texts, three, and four
pub put_two : {T E : Type 0} (r : Result T E) (old a first b second : List ℕ) → first ≡ old ++ a → OnOk r (second ≡ first ++ b)
    → OnOk r (second ≡ old ++ (a ++ (b ++ [])))
put_two r old a first b second one = on_ok_weaker r (λ two. put_first old a first (b ++ []) second one (put_last first b second two))

pub put_three : {T E : Type 0} (r : Result T E) (old a first b second c third : List ℕ) → first ≡ old ++ a → second ≡ first ++ b → OnOk r (third ≡ second ++ c)
    → OnOk r (third ≡ old ++ (a ++ (b ++ (c ++ []))))
put_three r old a first b second c third one two = on_ok_weaker r (λ three. put_first old a first (b ++ (c ++ [])) third one
    (put_first first b second (c ++ []) third two (put_last second c third three)))

pub put_four : {T E : Type 0} (r : Result T E) (old a first b second c third d fourth : List ℕ) → first ≡ old ++ a → second ≡ first ++ b → third ≡ second ++ c
    → OnOk r (fourth ≡ third ++ d) → OnOk r (fourth ≡ old ++ (a ++ (b ++ (c ++ (d ++ [])))))
put_four r old a first b second c third d fourth one two three = on_ok_weaker r (λ four. put_first old a first (b ++ (c ++ (d ++ []))) fourth one
    (put_first first b second (c ++ (d ++ [])) fourth two (put_first second c third (d ++ []) fourth three (put_last third d fourth four))))

-- ---- buckets

-- what was put behind a text, and what is left to put, are what was left before
put_more : (old text rest new all : List ℕ) → new ≡ old ++ text → old ++ (text ++ rest) ≡ all → new ++ rest ≡ all
put_more old text rest new all is whole = ap (λ (front : List ℕ). front ++ rest) is ∙ (append_assoc old text rest ∙ whole)

-- the line of the next bucket was put: the lines of the others are left
pub next_bucket : (who name old new : List ℕ) (before n : ℕ) (bs : List SettleBucket) (i : ℕ) (d : SettleBucket) (all : List ℕ) → i < length bs
    → n ≡ held_sum before (get_or bs i d).count → new ≡ old ++ bucket_line name (time_labels who (get_or bs i d).most) n
    → old ++ bucket_lines who name before (drop i bs) ≡ all → new ++ bucket_lines who name n (drop (i + 1) bs) ≡ all
next_bucket who name old new before n bs i d all within sum is whole =
    let left = at_drop_more (λ (rest : List SettleBucket). old ++ bucket_lines who name before rest) bs i d within in
    put_more old (bucket_line name (time_labels who (get_or bs i d).most) n) (bucket_lines who name n (drop (i + 1) bs)) new all is
    (ap (λ (m : ℕ). old ++ (bucket_line name (time_labels who (get_or bs i d).most) m ++ bucket_lines who name m (drop (i + 1) bs))) sum ∙ (sym left ∙ whole))
