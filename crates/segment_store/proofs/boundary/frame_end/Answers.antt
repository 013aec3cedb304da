use Rattle.std.proofs.Common.{rules, arith}
use Rattle.disk_core.specs.DiskImage.{reads}
use Rattle.frame_core.specs.Header.{without_payload}
use Rattle.segment_store.proofs.ShownLemmas.{header_some, shown_header}
use Rattle.segment_store.proofs.WindowLemmas.{header_ends, window_has}
use Rattle.segment_store.proofs.boundary.frame_end.Goals as goal

pub returns-in-Some-clause-later : goal.returns-in-Some-clause-later
returns-in-Some-clause-later g c =
    let found = c.in-Some.ensures in
    omega (arith, header_some c.args.layout.now c.args.geometry.now c.args.limit.now c.args.position c.from-bytes.result.now found.0 found.1 found.2, found.4)

pub returns-in-Some-clause-end : goal.returns-in-Some-clause-end
returns-in-Some-clause-end g c files same window obeys =
    let found = c.in-Some.ensures in
    let now = c.move_window.ensures.window files same window obeys in
    let has = window_has (reads files) c.move_window.new.window c.spot_of-spot.result c.args.layout.now c.args.position c.from-bytes.result.now now c.in_ok-move_window.ensures.has c.spot_of-spot.ensures.file c.spot_of-spot.ensures.offset c.from-bytes.ensures in
    header_ends (reads files) c.args.layout.now c.args.geometry.now c.args.limit.now c.args.position c.from-bytes.result.now found.0 has.0.size has.0.are found.1 found.2
    (omega (arith, found.3, has.1, c.spot_of-spot.ensures.offset)) c.in-Some.end found.4

pub returns-in-None-clause-refused : goal.returns-in-None-clause-refused
returns-in-None-clause-refused g c files same window = (
  search rules,
  search rules,
  λ obeys f shown.
      let now = c.move_window.ensures.window files same window obeys in
      let has = window_has (reads files) c.move_window.new.window c.spot_of-spot.result c.args.layout.now c.args.position c.from-bytes.result.now now c.in_ok-move_window.ensures.has c.spot_of-spot.ensures.file c.spot_of-spot.ensures.offset c.from-bytes.ensures in
      let header = shown_header (reads files) c.args.layout.now c.args.geometry.now c.args.limit.now c.args.position c.from-bytes.result.now f has.0 shown in
      c.in-None.ensures (without_payload f) header.0 header.1 (omega (arith, header.2, has.1, c.spot_of-spot.ensures.offset)),
)
