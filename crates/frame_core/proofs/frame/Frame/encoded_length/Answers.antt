use Rattle.std.proofs.Common.{◌∙◌, sym, ap, ◌+◌, ℕ, List, length}
use Rattle.frame_core.proofs.FrontLemmas.{length-encoded}
use Rattle.frame_core.proofs.frame.Frame.encoded_length.Goals as goal

pub returns : goal.returns
returns c = ap (λ (xs : List ℕ). 32 + length xs) c.as_slice.ensures ∙ sym (length-encoded c.args.self.now)
