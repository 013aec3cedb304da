use Rattle.std.proofs.Common.{◌≡◌, sym, subst, Option, None}
use Rattle.std.specs.Prelude.{MatchOption, None}
use Rattle.record_core.specs.Writing.{IsPartOf}
use Rattle.control_core.specs.declared.callers.Writer.{Writer}
use Rattle.control_core.specs.Seats.{IsWriter}
use Rattle.control_core.specs.Turns.{session_in}
use Rattle.control_core.proofs.WaitLemmas.{part_lies}
use Rattle.control_core.proofs.turns.decide_write.Goals as goal

pub needs_settle-requires : goal.needs_settle-requires
needs_settle-requires c =
    let d = c.args.desk.now.state in
    let n = c.args.session.now in
    let w = c.in-Some.found.writer in
    let is : IsWriter n d w = subst (λ (o : Option Writer). MatchOption o (session_in d n ≡ None) (IsWriter n d)) c.in-Some.ensures.0 c.session-writer.ensures.found in
    subst (IsPartOf w.known.now.descriptor) (sym c.part-part.ensures) (part_lies d n w.found.session w.known.now c.is_broken.ensures.keeps is.found.session is.known)
