use Rattle.std.proofs.Common.{List, pos, subst, sym, ◌∙◌}
use Rattle.archive_model.specs.State.{Recording, id_of}
use Rattle.archive_model.specs.Numbered.{IsNone, IsIndexOf}
use Rattle.archive_model.proofs.RegisterLemmas.{found_number, without_at, without_none}
use Rattle.plain_book.proofs.recordings.remove_one.Goals as goal

pub returns-in_default : goal.returns-in_default
returns-in_default c =
    let none = subst (λ (xs : List Recording). IsNone id_of c.args.id.now xs) c.as_slice.ensures.value c.in_default.ensures in
    sym (without_none id_of c.args.id.now c.args.recordings.now.items none.found)

pub returns : goal.returns
returns c =
    let rs = c.args.recordings.now.items in
    let index = subst (λ (xs : List Recording). IsIndexOf id_of c.args.id.now xs c.in-Some.index) c.as_slice.ensures.value c.in-Some.ensures in
    c.remove.ensures.items
    ∙ sym (without_at id_of (pos 0) c.requires.0 c.args.id.now rs c.in-Some.index index.value c.requires.1 index.at (found_number id_of c.args.id.now rs index.value index.found))
