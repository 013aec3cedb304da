use Rattle.std.proofs.Common.{rules, refl, FitsSigned, w32, arith}
use Rattle.std.proofs.lemmas.Int.{ints, to_z-of_z}
use Rattle.frame_core.proofs.FrameEncodingLemmas.{aligned_decided}
use Rattle.frame_core.proofs.frame.is_aligned.Goals as goal

pub returns-then-term_offset-ge0 : goal.returns-then-term_offset-ge0
returns-then-term_offset-ge0 c =
    let fits : FitsSigned w32 c.args.term_offset.now = search rules in
    aligned_decided c.args.term_offset.now _ (omega (arith, ints)) (simp to_z-of_z refl)
