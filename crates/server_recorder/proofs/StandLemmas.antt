-- The last recording that says where a publication stands.
use Rattle.std.proofs.Common.{◌≡◌, ◌+◌, ◌<◌, ℕ, zero, suc, List, [], ◌∷◌, Option, Some, None, refl, sym, ap, ◌∙◌, arith, subst, length, drop, get_or}
use Rattle.archive_model.specs.declared.descriptor.Descriptor.{Descriptor}
use Rattle.server_state.specs.declared.resuming.Stand.{Stand}
use Rattle.stream_pairs.specs.declared.points.StreamPoint.{StreamPoint}
use Rattle.server_recorder.specs.Streams.{told_stand, last_stand, stand_or_else}

grouped : (a b c : Option Stand) → stand_or_else a (stand_or_else b c) ≡ stand_or_else (stand_or_else a b) c
grouped None b c = refl
grouped (Some r) b c = refl

or_none : (a : Option Stand) → stand_or_else a None ≡ a
or_none None = refl
or_none (Some r) = refl

next_one : (p : StreamPoint) (ds : List Descriptor) (i : ℕ) (d : Descriptor) → i < length ds → last_stand p (drop i ds) ≡ stand_or_else (last_stand p (drop (i + 1) ds)) (told_stand p (get_or ds i d))
next_one p [] i d below = absurd (omega arith)
next_one p (x ∷ ds) zero d below = refl
next_one p (x ∷ ds) (suc i) d below =
    let same : suc (i + 1) ≡ suc i + 1 = omega arith in
    subst (λ (k : ℕ). last_stand p (drop i ds) ≡ stand_or_else (last_stand p (drop k (x ∷ ds))) (told_stand p (get_or ds i d))) same (next_one p ds i d (omega arith))

-- one recording more, at a step of the loop
pub stand_more : (p : StreamPoint) (ds : List Descriptor) (i : ℕ) (d : Descriptor) (last : Option Stand) → i < length ds
    → stand_or_else (last_stand p (drop i ds)) last ≡ last_stand p ds → stand_or_else (last_stand p (drop (i + 1) ds)) (stand_or_else (told_stand p (get_or ds i d)) last) ≡ last_stand p ds
stand_more p ds i d last below is =
    grouped (last_stand p (drop (i + 1) ds)) (told_stand p (get_or ds i d)) last
    ∙ (ap (λ (o : Option Stand). stand_or_else o last) (sym (next_one p ds i d below)) ∙ is)

pub stand_first : (p : StreamPoint) (ds : List Descriptor) → stand_or_else (last_stand p ds) None ≡ last_stand p ds
stand_first p ds = or_none (last_stand p ds)
