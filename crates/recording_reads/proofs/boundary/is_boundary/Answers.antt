use Rattle.std.proofs.Common.{rules, ◌≡◌, ◌≤ℤ◌, ◌<ℤ◌, ap, inl, inr, subst, pos, ℕ, IfOk, IsTrue, FitsSigned, w64, arith}
use Rattle.std.proofs.lemmas.Int.{ints, to_z-of_z}
use Rattle.std.proofs.lemmas.Result.{IfOk-weaker}
use Rattle.std.specs.Prelude.{unsigned_abs}
use Rattle.disk_core.specs.DiskImage.{reads}
use Rattle.segment_store.specs.Boundary.{TellsReached}
use Rattle.archive_model.specs.State.{geometry_of}
use Rattle.recording_reads.specs.Reading.{term_start}
use Rattle.recording_reads.specs.Recording.{layout_of}
use Rattle.recording_reads.proofs.BoundaryLemmas.{inside_told, outside}
use Rattle.recording_reads.proofs.boundary.is_boundary.Goals.{then-position-descriptor-via-then-position-descriptor, then-position-descriptor-via-else-position-descriptor+then-position-recorded}
use Rattle.recording_reads.proofs.boundary.is_boundary.Goals as goal

pub returns-then-position-descriptor-clause-answer : goal.returns-then-position-descriptor-clause-answer
returns-then-position-descriptor-clause-answer g c obeys =
    let image = reads (g.D.Disk.life c.args.disk.now).now in
    let registration = c.args.registration.now in
    let low : pos 0 ≤ℤ registration.descriptor.start_position = omega (arith, ints, c.requires.laid_out.layout.start_is) in
    elim c.then-position-descriptor.branch [
      | then-position-descriptor-via-then-position-descriptor w ↦ outside image registration c.args.position low (inl (omega (arith, ints, w.if-position-descriptor.true)))
      | then-position-descriptor-via-else-position-descriptor+then-position-recorded w ↦ outside image registration c.args.position low (inr (omega (arith, ints, w.if-position-recorded.true)))
    ]

pub returns-clause-answer : goal.returns-clause-answer
returns-clause-answer g c =
    let image = reads (g.D.Disk.life c.args.disk.now).now in
    let registration = c.args.registration.now in
    let d = registration.descriptor in
    let position : FitsSigned w64 c.args.position = search rules in
    let recorded : FitsSigned w64 registration.recorded = search rules in
    let from : FitsSigned w64 c.term_start-from.result = search rules in
    let tells : IfOk c.is_reached.result (λ told. IsTrue (g.D.Disk.life c.is_reached.new.disk).obeys → TellsReached image (layout_of d) (geometry_of d) registration.recorded (unsigned_abs c.term_start-from.result) c.args.position told) =
    simp to_z-of_z at (rw c.layout_of.ensures at rw c.geometry.ensures at c.is_reached.ensures.answer) in
    let start : unsigned_abs c.term_start-from.result ≡ term_start d (unsigned_abs c.args.position) = ap unsigned_abs (simp to_z-of_z at c.term_start-from.ensures) in
    let low : d.start_position ≤ℤ c.args.position = omega (arith, ints, c.if-position-descriptor.false) in
    let within : c.args.position <ℤ registration.recorded = omega (arith, ints, c.if-position-recorded.false, c.if-position-recorded-2.false) in
    IfOk-weaker c.is_reached.result _ _ (λ told reached obeys.
    inside_told image registration c.args.position told low within (subst (λ (n : ℕ). TellsReached image (layout_of d) (geometry_of d) registration.recorded n c.args.position told) start (reached obeys))) tells
