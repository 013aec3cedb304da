use Rattle.std.proofs.lemmas.Str.Pattern.{contains_text}
use Rattle.control_core.proofs.FragmentLemmas.{fragment_stands, same_test}
use Rattle.control_core.proofs.deciding.has_fragment.Goals as goal

pub returns : goal.returns
returns c =
    let said = contains_text c.contains.result c.as_str-2.result.now c.as_str.result.now c.contains.ensures.cases in
    let same = same_test c.contains.result _ said (fragment_stands c.as_str.result.now c.as_str-2.result.now) in
    rw (← c.as_str.ensures, ← c.as_str-2.ensures) same
