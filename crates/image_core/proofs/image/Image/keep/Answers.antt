use Rattle.std.proofs.Common.{◌∙◌, ◌++◌, ◌∷◌, [], ℕ, List, ap}
use Rattle.frame_core.specs.FrameEncoding.{frame_of}
use Rattle.image_core.proofs.KeptLemmas.{kept_join, undone_join, wide_join}
use Rattle.image_core.proofs.image.Image.keep.Goals as goal

pub chain_end-reached-requires-clause-spaced : goal.chain_end-reached-requires-clause-spaced
chain_end-reached-requires-clause-spaced c =
    rw (c.in_ok-put.ensures.entries, c.in_ok-owned.ensures.same)
    (wide_join _ _ c.args.position (frame_of c.args.frame.now) c.self.invariant c.requires.encodable (rw (← c.self.view_is) at c.requires.joins))

pub invariant_of-self-2 : goal.invariant_of-self-2
invariant_of-self-2 c =
    rw (c.chain_end-reached.ensures, c.max-self-inside.ensures, c.in_ok-put.ensures.entries, c.in_ok-owned.ensures.same, c.aligned_length.ensures.value)
    (kept_join _ _ c.args.position (frame_of c.args.frame.now) c.self.invariant c.requires.encodable (rw (← c.self.view_is) at c.requires.joins))

pub returns-clause-back : goal.returns-clause-back
returns-clause-back c high =
    let noted = c.push_reserved.ensures.items ∙ ap (λ (ps : List ℕ). ps ++ c.args.position ∷ []) c.in_ok-reserve.ensures.items in
    rw (c.in_ok-put.ensures.entries, c.in_ok-owned.ensures.same, ← c.self.view_is)
    (undone_join c.args.noted.now.items _ high _ _ c.args.position (frame_of c.args.frame.now) c.self.invariant c.requires.encodable (rw (← c.self.view_is) at c.requires.joins) noted)
