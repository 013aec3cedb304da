-- The last recording that a publication goes on with.
use Rattle.std.proofs.Common.{◌≡◌, ◌+◌, ◌<◌, ℕ, zero, suc, ℤ, List, [], ◌∷◌, Option, Some, None, refl, sym, ap, ◌∙◌, arith, subst, length, drop, get_or}
use Rattle.archive_model.specs.declared.descriptor.Descriptor.{Descriptor}
use Rattle.stream_pairs.specs.declared.points.StreamPoint.{StreamPoint}
use Rattle.server_recorder.specs.Streams.{continued, last_continued, or_else}

grouped : (a b c : Option ℤ) → or_else a (or_else b c) ≡ or_else (or_else a b) c
grouped None b c = refl
grouped (Some r) b c = refl

or_none : (a : Option ℤ) → or_else a None ≡ a
or_none None = refl
or_none (Some r) = refl

next_one : (p : StreamPoint) (ds : List Descriptor) (i : ℕ) (d : Descriptor) → i < length ds → last_continued p (drop i ds) ≡ or_else (last_continued p (drop (i + 1) ds)) (continued p (get_or ds i d))
next_one p [] i d below = absurd (omega arith)
next_one p (x ∷ ds) zero d below = refl
next_one p (x ∷ ds) (suc i) d below =
    let same : suc (i + 1) ≡ suc i + 1 = omega arith in
    subst (λ (k : ℕ). last_continued p (drop i ds) ≡ or_else (last_continued p (drop k (x ∷ ds))) (continued p (get_or ds i d))) same (next_one p ds i d (omega arith))

-- one recording more, at a step of the loop
pub last_more : (p : StreamPoint) (ds : List Descriptor) (i : ℕ) (d : Descriptor) (last : Option ℤ) → i < length ds
    → or_else (last_continued p (drop i ds)) last ≡ last_continued p ds → or_else (last_continued p (drop (i + 1) ds)) (or_else (continued p (get_or ds i d)) last) ≡ last_continued p ds
last_more p ds i d last below is =
    grouped (last_continued p (drop (i + 1) ds)) (continued p (get_or ds i d)) last
    ∙ (ap (λ (o : Option ℤ). or_else o last) (sym (next_one p ds i d below)) ∙ is)

pub last_first : (p : StreamPoint) (ds : List Descriptor) → or_else (last_continued p ds) None ≡ last_continued p ds
last_first p ds = or_none (last_continued p ds)
