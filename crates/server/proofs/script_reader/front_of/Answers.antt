-- The first 90 bytes are 90, or they are all.
use Rattle.std.proofs.Common.{arith, length-take-le, sym, take_all}
use Rattle.server.proofs.script_reader.front_of.Goals as goal

pub slice_bounds-result-end : goal.slice_bounds-result-end
slice_bounds-result-end c = sym (length-take-le 90 c.args.bytes.now (omega (arith, c.if-bytes-le-LONGEST_LINE.false)))

pub returns-then-bytes-le-LONGEST_LINE : goal.returns-then-bytes-le-LONGEST_LINE
returns-then-bytes-le-LONGEST_LINE c = sym (take_all 90 c.args.bytes.now c.if-bytes-le-LONGEST_LINE.true)
