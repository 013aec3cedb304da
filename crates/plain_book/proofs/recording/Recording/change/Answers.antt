use Rattle.std.proofs.Common.{ap, subst, sym, ◌∙◌}
use Rattle.archive_model.specs.State.{Recording}
use Rattle.plain_book.specs.Kept.{MayChange}
use Rattle.plain_book.proofs.KeptLemmas.{keeps_changed}
use Rattle.plain_book.proofs.recording.Recording.change.Goals as goal

pub invariant_of-self : goal.invariant_of-self
invariant_of-self c =
    let allowed = subst (λ (r : Recording). MayChange r c.args.change.now) (sym c.self.view_is) c.requires in
    let at = c.start-start.ensures.start ∙ ap (λ (r : Recording). r.descriptor.start_position) (sym c.self.view_is) in
    keeps_changed c.args.change.now c.self.inside.registration _ _ c.self.inside.frames.items _ c.self.invariant allowed at c.change.ensures c.cut.ensures
