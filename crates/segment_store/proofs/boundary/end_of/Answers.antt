use Rattle.std.proofs.Common.{◌≡◌, ◌∙◌, sym, ap, arith}
use Rattle.frame_core.specs.FrameEncoding.{frame_of}
use Rattle.frame_core.proofs.HeaderLemmas.{one_header}
use Rattle.segment_store.specs.Reading.{encoded_size}
use Rattle.segment_store.proofs.boundary.end_of.Goals as goal

pub returns-then-offset-encoded_size : goal.returns-then-offset-encoded_size
returns-then-offset-encoded_size c header starts belongs whole =
    let same : header ≡ frame_of c.in_ok-header.header = one_header c.args.bytes.now header (frame_of c.in_ok-header.header) starts c.in_ok-header.ensures.0 in
    let size : encoded_size header ≡ c.encoded_size.result = ap encoded_size same ∙ sym c.encoded_size.ensures.value in
    omega (arith, whole, size, c.if-offset-encoded_size.true)
