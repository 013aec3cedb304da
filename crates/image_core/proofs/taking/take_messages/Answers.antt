use Rattle.std.proofs.Common.{◌+◌, ◌-◌, sym, arith}
use Rattle.std.specs.Vec.{vec_capacity, vec_len}
use Rattle.image_core.proofs.RunLemmas.{room_on, run_first}
use Rattle.image_core.proofs.TakeLemmas.{takes_more}
use Rattle.image_core.proofs.taking.take_messages.Goals as goal

pub each-preserved : goal.each-preserved
each-preserved c =
    let moves = c.take_first.ensures.moves in
    let found = sym c.in-Some.ensures in
    let fits = room_on c.args.ids.now c.args.from c.args.offset c.args.limit c.each.covered c.in-Some.size (vec_capacity c.each.frames - (vec_len c.each.frames + 1)) c.each.held.entries c.take_first.new.held.entries
    c.each.frames.items c.take_first.new.frames.items found moves (omega (arith, c.each.invariant.room)) in
    let has = run_first c.args.ids.now (c.args.from + c.each.covered) (c.args.offset + c.each.covered) c.args.limit c.in-Some.size c.each.held.entries c.take_first.new.held.entries
    c.each.frames.items c.take_first.new.frames.items found moves in
    record {
      taken = takes_more _ _ _ _ c.each.covered c.in-Some.size _ _ _ _ _ _ c.each.invariant.taken found moves;
      room = omega (arith, fits, c.take_first.ensures.len, c.take_first.ensures.capacity, c.each.invariant.room, has);
    }
