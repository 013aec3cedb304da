-- Taking out what was put in.
use Rattle.std.proofs.Common.{◌≡◌, ◌∙◌, sym, ap, refl, ℕ, List, [], ◌∷◌, ◌++◌}
use Rattle.std.specs.Ordering.{nat_cmp}
use Rattle.std.specs.Map.{remove_entry}
use Rattle.std.specs.BTreeMap.{is_at}
use Rattle.frame_core.specs.declared.frame.Frame.{Frame}
use Rattle.image_core.specs.Kept.{without_positions}

-- the last position goes first
pub without_push : (ps : List ℕ) (p : ℕ) (ms : List (ℕ × Frame)) → without_positions (ps ++ p ∷ []) ms ≡ without_positions ps (remove_entry (is_at (nat_cmp p)) ms)
without_push [] p ms = refl
without_push (q ∷ ps) p ms = ap (remove_entry (is_at (nat_cmp q))) (without_push ps p ms)

-- the last of some positions took its frame out, and the others take out the rest
pub without_last : (ps all : List ℕ) (p : ℕ) (old new : List (ℕ × Frame)) → all ≡ ps ++ p ∷ [] → new ≡ remove_entry (is_at (nat_cmp p)) old → without_positions ps new ≡ without_positions all old
without_last ps all p old new last out = ap (without_positions ps) out ∙ sym (without_push ps p old) ∙ ap (λ (qs : List ℕ). without_positions qs old) (sym last)
