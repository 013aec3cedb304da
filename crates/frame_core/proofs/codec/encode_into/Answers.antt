use Rattle.std.proofs.Common.{◌≡◌, ◌∙◌, sym, ap, ◌++◌, ℕ, List, length, drop, append_assoc}
use Rattle.std.proofs.lemmas.List.{drop-drop}
use Rattle.frame_core.specs.declared.frame.Frame.{Frame}
use Rattle.frame_core.specs.FrameEncoding.{encoded, header_of}
use Rattle.frame_core.proofs.FrontLemmas.{length-encoded}
use Rattle.frame_core.proofs.codec.encode_into.Goals as goal

-- a header and a payload over the first bytes are the encoding over them
written : (f : Frame) (out header payload behind rest : List ℕ) → header ≡ header_of f → payload ≡ f.payload → behind ≡ drop 32 out → rest ≡ drop (length f.payload) behind
    → header ++ (payload ++ rest) ≡ encoded f ++ drop (length (encoded f)) out
written f out header payload behind rest header_is payload_is behind_is rest_is =
    let last : rest ≡ drop (length (encoded f)) out =
    rest_is ∙ ap (drop (length f.payload)) behind_is ∙ drop-drop (length f.payload) 32 out ∙ ap (λ (n : ℕ). drop n out) (sym (length-encoded f)) in
    rw (header_is, payload_is, last) (sym (append_assoc (header_of f) f.payload (drop (length (encoded f)) out)))

pub returns-clause-written : goal.returns-clause-written
returns-clause-written c =
    written
    c.args.frame.now
    c.args.out.now
    c.copy_from_slice.new.self
    c.copy_from_slice-2.new.self
    c.split_at_mut-front.result.1.now
    c.split_at_mut-body.result.1.now
    (c.copy_from_slice.ensures.after ∙ c.header-header.ensures)
    (c.copy_from_slice-2.ensures.after ∙ c.as_slice-payload.ensures)
    c.split_at_mut-front.ensures.back
    (c.split_at_mut-body.ensures.back ∙ ap (λ (xs : List ℕ). drop (length xs) c.split_at_mut-front.result.1.now) c.as_slice-payload.ensures)
