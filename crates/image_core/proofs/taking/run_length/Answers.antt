use Rattle.std.proofs.Common.{◌+◌, ◌^◌, sym, arith}
use Rattle.image_core.proofs.RunLemmas.{counts_on, next_message, run_ends_at, run_on_at}
use Rattle.image_core.proofs.taking.run_length.Goals as goal

pub each-preserved : goal.each-preserved
each-preserved c =
    let at = c.args.from + c.each.covered in
    let offset = c.args.offset + c.each.covered in
    let entries = c.args.held.now.entries in
    let it = next_message c.args.ids.now 0 (2 ^ 62) at offset c.args.limit c.in-Some.size entries c.requires.spaced (sym c.in-Some.ensures) in
    record {
      counted = counts_on c.args.ids.now c.args.from c.args.offset c.args.limit c.each.covered c.in-Some.size c.each.count _ entries c.each.invariant.counted
          (run_on_at c.args.ids.now 0 (2 ^ 62) at offset c.args.limit c.in-Some.size entries c.requires.spaced (sym c.in-Some.ensures));
      within = omega (arith, it.few);
      few = omega (arith, it.some);
      ends = omega (arith, it.ends);
    }

pub each-smaller : goal.each-smaller
each-smaller c =
    let it = next_message c.args.ids.now 0 (2 ^ 62) (c.args.from + c.each.covered) (c.args.offset + c.each.covered) c.args.limit c.in-Some.size c.args.held.now.entries c.requires.spaced (sym c.in-Some.ensures) in
    omega (arith, it.few, it.some)

pub returns : goal.returns
returns c =
    let ends = run_ends_at c.args.ids.now 0 (2 ^ 62) (c.args.from + c.each.covered) (c.args.offset + c.each.covered) c.args.limit c.args.held.now.entries c.requires.spaced (sym c.in_default.ensures) in
    record {
      length = omega (arith, ends, c.each.invariant.counted);
      few = omega (arith, c.each.invariant.few, c.each.invariant.within);
    }
