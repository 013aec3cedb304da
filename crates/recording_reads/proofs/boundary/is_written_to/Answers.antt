use Rattle.std.proofs.Common.{rules, ◌≡◌, inr, subst, Result, Err, FitsSigned, IfErr, w64}
use Rattle.std.proofs.lemmas.Int.{to_z-of_z}
use Rattle.std.specs.Prelude.{Bool, unsigned_abs}
use Rattle.frame_core.specs.declared.refusal.Refusal.{Refusal}
use Rattle.frame_core.specs.declared.refusal.Refusal.TheVariants.{Damaged}
use Rattle.disk_core.specs.DiskImage.{reads}
use Rattle.segment_store.specs.Boundary.{RefusesReached}
use Rattle.archive_model.specs.State.{geometry_of}
use Rattle.recording_reads.specs.Recording.{layout_of}
use Rattle.recording_reads.proofs.boundary.is_written_to.Goals as goal

pub returns-in-Err-Damaged-clause-answer : goal.returns-in-Err-Damaged-clause-answer
returns-in-Err-Damaged-clause-answer g c obeys =
    let image = reads (g.D.Disk.life c.args.disk.now).now in
    let works = (g.D.Disk.life c.is_reached-reached.new.disk).obeys in
    let known = c.args.registration.now in
    let d = known.descriptor in
    let position : FitsSigned w64 c.args.position = search rules in
    let recorded : FitsSigned w64 known.recorded = search rules in
    let refused : IfErr c.is_reached-reached.result (RefusesReached works image (layout_of d) (geometry_of d) c.args.position (unsigned_abs known.recorded) c.args.position) =
    simp to_z-of_z at (rw c.layout_of.ensures at rw c.geometry.ensures at c.is_reached-reached.ensures.refused) in
    let is : c.is_reached-reached.result ≡ Err (Damaged c.in-Err-Damaged.field-0-0 c.in-Err-Damaged.field-0-1) = search rules in
    let breaks = subst (λ (o : Result Bool Refusal). IfErr o (RefusesReached works image (layout_of d) (geometry_of d) c.args.position (unsigned_abs known.recorded) c.args.position))
    is refused in
    let at = breaks.1 obeys in
    inr (at.0, at.2)
