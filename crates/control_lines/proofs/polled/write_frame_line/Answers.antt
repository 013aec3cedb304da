-- A line is its front, the digits of one part of the payload after another, and its end.
use Rattle.std.proofs.Common.{◌≡◌, arith, rules, subst, take, of_z, to_z, w64}
use Rattle.std.proofs.lemmas.Result.{on_ok_weaker}
use Rattle.std.specs.Io.KnownBytes.{Appends}
use Rattle.control_lines.proofs.PolledLemmas.{HasBegun, front_held, front_text, line_written, part_written}
use Rattle.control_lines.proofs.polled.write_frame_line.Goals as goal

pub loop-rest-init : goal.loop-rest-init
loop-rest-init g c = record {
  begun = rw c.put_front-end.ensures.text (front_held _ c.args.payload.now (g.W.Write.contents c.args.writer.now));
  short = c.put_front-end.ensures.short;
}

pub loop-rest-preserved : goal.loop-rest-preserved
loop-rest-preserved g c =
    let contents = g.W.Write.contents in
    record {
      begun = part_written _ c.args.payload.now c.loop-rest.rest.now c.split_at.result.0.now c.split_at.result.1.now _ (contents c.args.writer.now) (contents c.loop-rest.writer) (contents c.write_all.new.self) c.loop-rest.invariant.begun (search rules)
          (subst (Appends (contents c.loop-rest.writer) (contents c.write_all.new.self)) c.put_digits-end.ensures.text (search rules));
      short = omega arith;
    }

pub returns : goal.returns
returns g c =
    let contents = g.W.Write.contents in
    let first = contents c.args.writer.now in
    let before = contents c.loop-rest.writer in
    let after = contents c.write_all-2.new.self in
    let held = take c.loop-rest.end c.loop-rest.out in
    let position : to_z w64 (of_z w64 c.args.position) ≡ c.args.position = search rules in
    let begun = subst (λ z. HasBegun (front_text z c.args.header.now) c.args.payload.now c.loop-rest.rest.now held first before) position c.loop-rest.invariant.begun in
    on_ok_weaker c.write_all-2.result
    (λ told. line_written c.args.position c.args.header.now c.args.payload.now c.loop-rest.rest.now held first before after begun
    (subst (Appends before after) (search rules) told))
    c.write_all-2.ensures.bytes
