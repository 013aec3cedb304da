-- The one before is closed after the other one was opened.
use Rattle.std.proofs.Common.{rules, ◌≡◌, w64, to_z, of_z, subst, sym}
use Rattle.std.proofs.lemmas.Int.{to_z-of_z}
use Rattle.settled_replays.proofs.held.HeldReplay.move_on.Goals as goal

pub returns-clause-moves : goal.returns-clause-moves
returns-clause-moves g c = rw (← c.self.view_is) (record { mid = c.opened.new.pass; opens = search rules; closes = search rules; same = search rules })
