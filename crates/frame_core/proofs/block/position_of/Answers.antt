use Rattle.std.proofs.Common.{refl}
use Rattle.frame_core.specs.FrameEncoding.{frame_of}
use Rattle.frame_core.proofs.BlockLemmas.{block_of_first, first_rest}
use Rattle.frame_core.proofs.block.position_of.Goals as goal

pub returns-in_default-span_of : goal.returns-in_default-span_of
returns-in_default-span_of c position block =
    let begins = first_rest frame_of c.args.lent.now _ _ c.in-len1-up.len_at_least refl in
    c.in_default-span_of.ensures.span position (block_of_first _ _ _ _ _ position begins c.publication_behind-publication.ensures block)
