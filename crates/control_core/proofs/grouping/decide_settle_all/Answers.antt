-- The room for the entries that they make.
use Rattle.std.proofs.Common.{◌≡◌, rules, true}
use Rattle.control_core.specs.Turns.{are_once}
use Rattle.control_core.proofs.GroupLemmas.{room_for}
use Rattle.control_core.proofs.grouping.decide_settle_all.Goals as goal

pub returns-then-not-has_room_for-clause-decided : goal.returns-then-not-has_room_for-clause-decided
returns-then-not-has_room_for-clause-decided c =
    let once : are_once c.args.sessions.now ≡ true = search rules in
    let room = room_for c.args.desk.now.state c.args.sessions.now once in
    search (rules, room)

pub returns-clause-decided : goal.returns-clause-decided
returns-clause-decided c =
    let once : are_once c.args.sessions.now ≡ true = search rules in
    let room = room_for c.args.desk.now.state c.args.sessions.now once in
    search (rules, room)

pub returns-clause-room : goal.returns-clause-room
returns-clause-room c =
    let once : are_once c.args.sessions.now ≡ true = search rules in
    let room = room_for c.args.desk.now.state c.args.sessions.now once in
    search (rules, room)
