-- A frame begins there, or the recording ends.
use Rattle.std.proofs.Common.{rules, inl, inr, sym, subst}
use Rattle.disk_core.specs.DiskImage.{reads}
use Rattle.settled_replays.specs.Reading.{ReachesFrame}
use Rattle.settled_replays.proofs.OpeningLemmas.{reached_by}
use Rattle.settled_replays.proofs.opening.reached.Goals.{then-position-from-via-then-position-from, then-position-from-via-else-position-from+then-position-seen}
use Rattle.settled_replays.proofs.opening.reached.Goals as goal

pub returns-then-position-from : goal.returns-then-position-from
returns-then-position-from g c = record {
  reached = elim c.then-position-from.branch [
    | then-position-from-via-then-position-from w ↦ inl (search rules)
    | then-position-from-via-else-position-from+then-position-seen w ↦ inr (inl (search rules))
  ];
}

pub returns-then-next-position : goal.returns-then-next-position
returns-then-next-position g c =
    let life = g.E.Disk.life in
    rw c.into_parts-disk.ensures.disk (rw (← c.new-reader.ensures.disk)
    (reached_by _ _ _ (life c.turn.new.self.disk).obeys (reads (life c.new-reader.result.disk).now) c.args.known c.args.held.now c.new-reader.result.cursor c.args.position _ _ _ (search rules) (search rules) (search rules) c.in_ok-turn.ensures.handed))
