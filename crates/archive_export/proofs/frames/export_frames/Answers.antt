use Rattle.std.proofs.Common.{rules, ◌≡◌, ◌<ℤ◌, to_z, of_z, w64, arith}
use Rattle.std.proofs.lemmas.Int.{ints}
use Rattle.std.specs.Prelude.{Err}
use Rattle.frame_core.specs.FrameEncoding.{aligned_length}
use Rattle.archive_export.proofs.ExportLemmas.{all_fail, less_left, none_written, one_written, still_at}
use Rattle.archive_export.proofs.frames.export_frames.Goals as goal

pub frames-init : goal.frames-init
frames-init g c =
    let t = c.args.target in
    let first : to_z w64 (of_z w64 t.first) ≡ t.first = search rules in
    rw first ((λ known there. none_written g.D.Disk.life c.args.view.now known t.first t.last t.destination (g.W.Write.contents c.args.writer.now) c.requires.forward), c.requires.there)

pub frames-preserved : goal.frames-preserved
frames-preserved g c =
    let life = g.D.Disk.life in
    let old = c.args.view.now in
    let mid = c.frames.view in
    let new = c.export_frame.new.view in
    let id = c.args.recording.now in
    let t = c.args.target in
    let at = to_z w64 c.frames.at-bits in
    let end = c.in_ok-at.at in
    let due : at <ℤ t.last = search rules in
    let end_is : to_z w64 (of_z w64 end) ≡ end = search rules in
    let there = c.frames.invariant.1 in
    let last = c.in_ok-at.ensures.written there.0 there.1 in
    rw end_is (
      (λ known first.
          let all = c.frames.invariant.0 known first in
          let here = still_at life old mid id t known t.first at first all.look all.forward in
          one_written life old mid new known t.first t.last at end t.destination (g.W.Write.contents c.args.writer.now) (g.W.Write.contents c.frames.writer) (g.W.Write.contents c.export_frame.new.writer) due all (c.in_ok-at.ensures.written known here)),
      (there.0, still_at life mid new id t there.0 at end there.1 last.taken.look (omega (arith, ints, last.end_is, last.taken.low))),
    )

pub returns-in_err-at-clause-refused : goal.returns-in_err-at-clause-refused
returns-in_err-at-clause-refused g c =
    let life = g.D.Disk.life in
    let t = c.args.target in
    let at = to_z w64 c.frames.at-bits in
    let due : at <ℤ t.last = search rules in
    let is : c.from_residual.result ≡ Err c.in_err-at.field-0.0 = search rules in
    rw is (λ known first.
    let all = c.frames.invariant.0 known first in
    let here = still_at life c.args.view.now c.frames.view c.args.recording.now t known t.first at first all.look all.forward in
    all_fail life c.args.view.now c.frames.view c.export_frame.new.view known t.first t.last at t.destination (g.W.Write.contents c.args.writer.now) (g.W.Write.contents c.frames.writer) c.in_err-at.field-0.0 due all (c.in_err-at.ensures.refused known here))

pub frames-smaller : goal.frames-smaller
frames-smaller g c =
    let t = c.args.target in
    let at = to_z w64 c.frames.at-bits in
    let end : to_z w64 (of_z w64 c.in_ok-at.at) ≡ c.in_ok-at.at = search rules in
    let there = c.frames.invariant.1 in
    let last = c.in_ok-at.ensures.written there.0 there.1 in
    rw end (less_left at c.in_ok-at.at t.recorded t.recorded (aligned_length last.frame) (search rules) last.end_is last.taken.covers last.taken.low (omega (arith, ints, last.taken.ends, there.1.recorded_is)))
