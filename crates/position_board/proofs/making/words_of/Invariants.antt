use Rattle.std.proofs.Common.{◌≡◌, ◌^◌, ◌<◌, pos, map, take}
use Rattle.std.specs.Prelude.{All}
use Rattle.position_board.proofs.making.words_of.Given as goal

abbrev pub invariant-loop-start : goal.invariant-loop-start
invariant-loop-start l = (map pos l.words.items ≡ take l.start-index l.starts) × All (λ word. word < 2 ^ 63) l.words.items
