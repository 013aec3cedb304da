use Rattle.std.proofs.Common.{List, Option, subst, sym}
use Rattle.std.specs.Prelude.{IfSome}
use Rattle.archive_model.specs.State.{Recording, id_of}
use Rattle.plain_book.specs.Kept.{MayChange, made_of}
use Rattle.archive_model.specs.Numbered.{IsNone, IsIndexOf}
use Rattle.plain_book.proofs.BookLemmas.{found_at, changed_at}
use Rattle.plain_book.proofs.recordings.change_one.Goals as goal

pub change-requires : goal.change-requires
change-requires c =
    let rs = c.args.recordings.now.items in
    let index = subst (λ (xs : List Recording). IsIndexOf id_of c.args.id.now xs c.in-Some.index) c.as_slice.ensures.value c.in-Some.ensures in
    let found = found_at c.args.id.now rs c.in-Some.index c.index_mut-recording.result.now index c.index_mut-recording.ensures.value in
    subst (λ (o : Option Recording). IfSome o (λ r. MayChange r c.args.change.now)) found c.requires

pub returns-in_default : goal.returns-in_default
returns-in_default c =
    let none = subst (λ (xs : List Recording). IsNone id_of c.args.id.now xs) c.as_slice.ensures.value c.in_default.ensures in
    sym (none.changed (made_of c.args.change.now))

pub returns : goal.returns
returns c =
    let rs = c.args.recordings.now.items in
    let index = subst (λ (xs : List Recording). IsIndexOf id_of c.args.id.now xs c.in-Some.index) c.as_slice.ensures.value c.in-Some.ensures in
    changed_at c.args.id.now rs c.in-Some.index c.index_mut-recording.result.now c.change.new.self (made_of c.args.change.now) index c.index_mut-recording.ensures.value c.change.ensures
