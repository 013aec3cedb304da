use Rattle.std.proofs.Common.{rules, subst, sym, ◌∙◌, Option, FitsSigned, w32, arith}
use Rattle.std.proofs.lemmas.Int.{to_z-of_z}
use Rattle.std.specs.Prelude.{MatchOption}
use Rattle.frame_core.specs.FrameEncoding.{IsAligned, i32_at, frame_of}
use Rattle.frame_core.specs.Header.{StartsWithHeader, HasHeaderLength}
use Rattle.frame_core.specs.declared.frame.Frame.{Frame}
use Rattle.frame_core.specs.declared.frame.FrameRef.{FrameRef}
use Rattle.frame_core.proofs.HeaderLemmas.{header_fields, header_kind_is, header_read}
use Rattle.frame_core.proofs.codec.decode_header.Goals as goal

pub returns-then-bytes-lt-HEADER_LENGTH : goal.returns-then-bytes-lt-HEADER_LENGTH
returns-then-bytes-lt-HEADER_LENGTH c header starts = omega (arith, starts.whole)

pub returns-then-not-has_version : goal.returns-then-not-has_version
returns-then-not-has_version c header starts =
    let version = (header_fields c.args.bytes.now header starts).version_at in search rules

pub returns-then-not-is_aligned : goal.returns-then-not-is_aligned
returns-then-not-is_aligned c header starts =
    let fits : FitsSigned w32 c.read_i32-term_offset.result = search rules in
    let offset : IsAligned (i32_at c.args.bytes.now 8) = rw (header_fields c.args.bytes.now header starts).term_offset_at starts.offset in
    c.if-not-is_aligned.ensures (subst IsAligned (sym (to_z-of_z w32 c.read_i32-term_offset.result fits)) (rw c.read_i32-term_offset.ensures offset))

pub returns-in_err-kind : goal.returns-in_err-kind
returns-in_err-kind c =
    let fits : FitsSigned w32 c.read_i32.result = search rules in
    let none : (header : Frame) → StartsWithHeader c.args.bytes.now header → ⊥ = λ header starts.
    let of_kind = header_kind_is c.args.bytes.now header starts in
    c.in_err-kind.ensures header.kind (
      c.read_u16.ensures ∙ of_kind.0,
      subst (HasHeaderLength header.kind) (sym (to_z-of_z w32 c.read_i32.result fits ∙ c.read_i32.ensures)) of_kind.1,
    ) in
    subst (λ (o : Option FrameRef). MatchOption o ((header : Frame) → StartsWithHeader c.args.bytes.now header → ⊥) (λ header. StartsWithHeader c.args.bytes.now (frame_of header)))
    (sym c.from_residual.ensures) none

pub returns : goal.returns
returns c =
    let fits : FitsSigned w32 c.read_i32-term_offset.result = search rules in
    let size : FitsSigned w32 c.read_i32.result = search rules in
    let offset : IsAligned (i32_at c.args.bytes.now 8) = rw (← c.read_i32-term_offset.ensures) (subst IsAligned (to_z-of_z w32 c.read_i32-term_offset.result fits) c.if-not-is_aligned.ensures) in
    let of_kind = c.in_ok-kind.ensures in
    subst (StartsWithHeader c.args.bytes.now) (sym c.frame_at.ensures)
    (header_read c.args.bytes.now c.in_ok-kind.kind (λ k. (c.type_inv.bytes k).fits) (omega arith) (search rules) offset
    (sym c.read_u16.ensures ∙ of_kind.0, subst (HasHeaderLength c.in_ok-kind.kind) (to_z-of_z w32 c.read_i32.result size ∙ c.read_i32.ensures) of_kind.1))
