-- What is known before the first of them is settled.
use Rattle.std.proofs.Common.{rules, map, sym, ap, ◌∙◌}
use Rattle.std.proofs.lemmas.List.{take_all}
use Rattle.control_core.specs.Changes.{position_of}
use Rattle.control_core.specs.Turns.{session_in}
use Rattle.control_core.specs.Seats.{AreApart}
use Rattle.control_core.proofs.GroupLemmas.{positions_before}
use Rattle.control_core.proofs.desk.Desk.settled_positions.Goals as goal

pub returns : goal.returns
returns c =
    let d = c.args.self.now.state in
    let apart : AreApart d.callers.sessions = search rules in
    c.loop-session.invariant ∙ ap (map (λ n. position_of d (session_in d n))) (take_all c.loop-session.session-index c.args.sessions.now c.loop-session-test.false)
    ∙ sym (positions_before d c.args.sessions.now apart c.requires.once)
