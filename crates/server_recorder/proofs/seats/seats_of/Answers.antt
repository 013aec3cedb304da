-- Seats are made from the last writer on.
use Rattle.std.proofs.Common.{◌≡◌, suc, length, rules, arith, subst, sym}
use Rattle.std.specs.Prelude.{vec_len}
use mathlib.Core.List.{reverse}
use Rattle.server_recorder.specs.Seats.{AreNewSeats, AreNewWriters}
use Rattle.server_recorder.proofs.SeatLemmas.{one_longer, seats_push, writers_end, writers_front}
use Rattle.server_recorder.proofs.seats.seats_of.Goals as goal

pub loop-writer-preserved : goal.loop-writer-preserved
loop-writer-preserved c =
    let l = c.loop-writer in
    let board = c.args.board.now in
    let k = vec_len c.pop.new.self in
    let longer = one_longer l.writers.items c.pop.new.self.items c.in-Some.writer c.in-Some.ensures.items in
    let writers : vec_len l.writers ≡ length l.writers.items = search rules in
    let rest : length c.pop.new.self.items ≡ k = search rules in
    let next : vec_len l.writers ≡ suc k = omega (arith, longer, writers, rest) in
    let left = subst (AreNewWriters board 0) c.in-Some.ensures.items l.invariant.writers in
    record {
      writers = writers_front board 0 c.pop.new.self.items c.in-Some.writer left;
      seats = subst (λ xs. AreNewSeats board k (reverse xs)) (sym c.push_reserved.ensures.items) (seats_push board (vec_len l.writers) k l.room.items _ l.invariant.seats next (writers_end board k c.pop.new.self.items c.in-Some.writer left rest));
      count = omega (arith, l.invariant.count, next, c.push_reserved.ensures.len);
      room = omega (arith, l.invariant.room, c.push_reserved.ensures.capacity);
    }
