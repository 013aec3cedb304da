use Rattle.std.proofs.Common.{rules, ◌≡◌, ◌+ℤ◌, ◌≤ℤ◌, ◌<ℤ◌, ◌+◌, pos, to_z, of_z, w64, IsTrue, arith}
use Rattle.std.proofs.lemmas.Int.{ints}
use Rattle.std.specs.Prelude.{unsigned_abs}
use Rattle.disk_core.specs.DiskImage.{reads}
use Rattle.frame_core.specs.FrameEncoding.{aligned_length}
use Rattle.segment_store.specs.DamagedFrame.{RefusesFrame, ShowsFrame}
use Rattle.archive_model.specs.State.{geometry_of}
use Rattle.recording_reads.specs.Recording.{layout_of}
use Rattle.recording_reads.proofs.CountLemmas.{all_shown, count_refused, less_left, one_counted}
use Rattle.recording_reads.proofs.counting.count_frames.Goals as goal

pub returns-in_err-frame-clause-refused : goal.returns-in_err-frame-clause-refused
returns-in_err-frame-clause-refused g c =
    let registration = c.args.registration.now in
    let d = registration.descriptor in
    let at = to_z w64 c.frames.at-bits in
    let refusal = c.in_err-frame.field-0.0 in
    let life = g.D.Disk.life c.read_frame.new.disk in
    let start : pos 0 ≤ℤ d.start_position = omega (arith, ints, c.requires.laid_out.layout.start_is) in
    let due : at <ℤ registration.recorded = search rules in
    let here : RefusesFrame life.obeys (reads (g.D.Disk.life c.frames.disk).now) (layout_of d) (geometry_of d) registration.recorded at refusal = search rules in
    let refuses =
    count_refused (g.D.Disk.life c.args.disk.now) (g.D.Disk.life c.frames.disk) life registration at (to_z w64 c.frames.count-bits) refusal c.frames.invariant c.read_frame.ensures.quiet start due here in
    search (rules, refuses)

pub frames-smaller : goal.frames-smaller
frames-smaller g c =
    let at = to_z w64 c.frames.at-bits in
    let frame = c.in_ok-frame.frame in
    let end : to_z w64 (of_z w64 (at +ℤ to_z w64 c.aligned_length.result)) ≡ at +ℤ pos (aligned_length frame) = search rules in
    let recorded : to_z w64 (of_z w64 c.args.registration.now.recorded) ≡ c.args.registration.now.recorded = search rules in
    let ends : pos (unsigned_abs at + aligned_length frame) ≤ℤ c.args.registration.now.recorded = search rules in
    let start : pos 0 ≤ℤ c.args.registration.now.descriptor.start_position = omega (arith, ints, c.requires.laid_out.layout.start_is) in
    let low : pos 0 ≤ℤ at = omega (arith, ints, start, c.frames.invariant.few, c.frames.invariant.some) in
    less_left at _ c.args.registration.now.recorded _ (aligned_length frame) recorded end c.in_ok-frame.ensures.covers low ends

pub frames-preserved : goal.frames-preserved
frames-preserved g c =
    let registration = c.args.registration.now in
    let d = registration.descriptor in
    let at = to_z w64 c.frames.at-bits in
    let frame = c.in_ok-frame.frame in
    let start : pos 0 ≤ℤ d.start_position = omega (arith, ints, c.requires.laid_out.layout.start_is) in
    let ends : pos (unsigned_abs at + aligned_length frame) ≤ℤ registration.recorded = search rules in
    let shown : IsTrue (g.D.Disk.life c.read_frame.new.disk).obeys → ShowsFrame (reads (g.D.Disk.life c.frames.disk).now) (layout_of d) (geometry_of d) registration.recorded (unsigned_abs at) frame = search rules in
    let end : to_z w64 (of_z w64 (at +ℤ to_z w64 c.aligned_length.result)) ≡ at +ℤ pos (aligned_length frame) = search rules in
    let one : to_z w64 (of_z w64 (to_z w64 c.frames.count-bits +ℤ pos 1)) ≡ to_z w64 c.frames.count-bits +ℤ pos 1 = search rules in
    one_counted (g.D.Disk.life c.args.disk.now) (g.D.Disk.life c.frames.disk) (g.D.Disk.life c.read_frame.new.disk) registration at _ (to_z w64 c.frames.count-bits) _ frame c.frames.invariant c.read_frame.ensures.quiet start
    c.in_ok-frame.ensures.covers ends shown end one

pub returns-clause-count : goal.returns-clause-count
returns-clause-count g c obeys =
    all_shown (g.D.Disk.life c.args.disk.now) (g.D.Disk.life c.frames.disk) c.args.registration.now (to_z w64 c.frames.at-bits) (to_z w64 c.frames.count-bits) c.requires c.frames.invariant (search rules) obeys
