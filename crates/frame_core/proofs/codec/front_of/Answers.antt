use Rattle.std.proofs.Common.{rules, subst, sym, FitsSigned, w32, arith}
use Rattle.std.proofs.lemmas.Int.{to_z-of_z}
use Rattle.frame_core.specs.FrameEncoding.{IsAligned, i32_at}
use Rattle.frame_core.specs.declared.frame.Frame.{Frame}
use Rattle.frame_core.specs.Front.{IsFront}
use Rattle.frame_core.proofs.FrontLemmas.{front_header, front_body, front_read}
use Rattle.frame_core.proofs.codec.front_of.Goals as goal

pub returns-then-bytes-lt-HEADER_LENGTH : goal.returns-then-bytes-lt-HEADER_LENGTH
returns-then-bytes-lt-HEADER_LENGTH c f used front = omega (arith, (front_header c.args.bytes.now f used front).whole)

pub returns-then-not-has_version : goal.returns-then-not-has_version
returns-then-not-has_version c f used front =
    let version = (front_header c.args.bytes.now f used front).version_at in search rules

pub returns-then-not-is_aligned : goal.returns-then-not-is_aligned
returns-then-not-is_aligned c f used front =
    let fits : FitsSigned w32 c.read_i32.result = search rules in
    let offset : IsAligned (i32_at c.args.bytes.now 8) = rw (front_header c.args.bytes.now f used front).term_offset_at front.encodable.offset in
    c.if-not-is_aligned.ensures (subst IsAligned (sym (to_z-of_z w32 c.read_i32.result fits)) (rw c.read_i32.ensures offset))

pub returns-in_default : goal.returns-in_default
returns-in_default c f used front =
    let body = front_body c.args.bytes.now f used front in c.in_default.ensures f.kind body.0 used body.1

pub returns : goal.returns
returns c =
    let fits : FitsSigned w32 c.read_i32.result = search rules in
    let offset : IsAligned (i32_at c.args.bytes.now 8) = rw (← c.read_i32.ensures) (subst IsAligned (to_z-of_z w32 c.read_i32.result fits) c.if-not-is_aligned.ensures) in
    subst
    (λ (f : Frame). IsFront c.args.bytes.now f c.in-Some.body.used)
    (sym c.frame_at.ensures)
    (front_read c.args.bytes.now c.in-Some.body.kind c.in-Some.body.end c.in-Some.body.used (λ k. (c.type_inv.bytes k).fits) (omega arith) (search rules) offset c.in-Some.ensures)
