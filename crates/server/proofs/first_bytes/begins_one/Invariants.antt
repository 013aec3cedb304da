use Rattle.std.proofs.Common.{◌≡◌, drop}
use Rattle.std.specs.Prelude.{nat_eq}
use Rattle.std.specs.List.{list_any, starts_with}
use Rattle.server.proofs.first_bytes.begins_one.Given as goal

abbrev pub invariant-loop-word : goal.invariant-loop-word
invariant-loop-word l = list_any (λ word. starts_with nat_eq word.now l.fn.bytes) (drop l.word-index l.words) ≡ list_any (λ word. starts_with nat_eq word.now l.fn.bytes) l.words
