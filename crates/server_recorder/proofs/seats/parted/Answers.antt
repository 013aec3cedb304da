-- The last pass that is left has the next number, and goes to the clients'.
use Rattle.std.proofs.Common.{◌≡◌, ◌∙◌, suc, ap, length, rules, arith, subst, sym}
use Rattle.std.specs.Prelude.{vec_len}
use Rattle.call_history.specs.Passes.{AllOfTable, new_passes}
use Rattle.call_history.specs.Values.{PassView}
use Rattle.archive_lock.specs.declared.history.Made.{Made}
use Rattle.server_recorder.specs.Seats.{HasNumbersFrom}
use Rattle.server_recorder.proofs.SeatLemmas.{all_push, count_made, has_none, has_push, one_longer, passes_front, passes_last}
use Rattle.server_recorder.proofs.seats.parted.Goals as goal

pub loop-passes-init : goal.loop-passes-init
loop-passes-init g c =
    let made = count_made g.A.Naming.table g.A.Naming.passes c.args.passes.items c.requires.made in
    let passes : vec_len c.args.passes ≡ length c.args.passes.items = search rules in
    let room : vec_len c.args.room ≡ length c.args.room.items = search rules in
    let empty = ap length c.requires.empty in
    let all : vec_len c.args.passes ≡ g.A.Naming.passes = passes ∙ made in
    record {
      passes = c.requires.made ∙ ap (new_passes g.A.Naming.table) (sym all);
      some = omega (arith, all, c.requires.some);
      clients = subst (AllOfTable g.A.Naming.table) (sym c.requires.empty) tt;
      each = has_none (vec_len c.args.passes) g.A.Naming.passes c.args.room.items (omega (arith, all));
      count = omega (arith, all, room, empty);
      room = c.requires.room;
    }

pub loop-passes-preserved : goal.loop-passes-preserved
loop-passes-preserved g c =
    let l = c.loop-passes in
    let table = g.A.Naming.table in
    let k = vec_len c.pop.new.self in
    let longer = one_longer l.passes.items c.pop.new.self.items c.in-Some.pass c.in-Some.ensures.items in
    let old : vec_len l.passes ≡ length l.passes.items = search rules in
    let rest : length c.pop.new.self.items ≡ k = search rules in
    let next : vec_len l.passes ≡ suc k = omega (arith, longer, old, rest) in
    let pass = passes_last table (vec_len l.passes) k l.passes.items c.pop.new.self.items c.in-Some.pass l.invariant.passes c.in-Some.ensures.items next in
    let of = ap (λ (p : PassView Made). p.table) pass in
    let number = ap (λ (p : PassView Made). p.number) pass in
    record {
      passes = passes_front table (vec_len l.passes) k l.passes.items c.pop.new.self.items c.in-Some.pass l.invariant.passes c.in-Some.ensures.items next;
      some = omega (arith, next, c.len.ensures, c.loop-passes-test.true);
      clients = subst (AllOfTable table) (sym c.push_reserved.ensures.items) (all_push table l.room.items c.in-Some.pass l.invariant.clients of);
      each = subst (HasNumbersFrom k g.A.Naming.passes) (sym c.push_reserved.ensures.items) (has_push (vec_len l.passes) k g.A.Naming.passes l.room.items c.in-Some.pass l.invariant.each next number);
      count = omega (arith, l.invariant.count, next, c.push_reserved.ensures.len);
      room = omega (arith, l.invariant.room, c.push_reserved.ensures.capacity);
    }
