-- Where the reader begins.
use Rattle.std.proofs.Common.{rules, ◌≡◌, ℤ, w64, to_z, of_z, subst}
use Rattle.std.proofs.lemmas.Int.{to_z-of_z}
use Rattle.archive_model.specs.declared.registration.Registration.{Registration}
use Rattle.disk_core.specs.DiskImage.{reads}
use Rattle.settled_replays.specs.Reading.{ReachesFrame}
use Rattle.settled_replays.proofs.opening.begun_at.Goals as goal

pub returns-clause-begins : goal.returns-clause-begins
returns-clause-begins g c = record {
  known = search rules;
  bound = c.replay_bound.result;
  bound_is = search rules;
  replay = search rules;
  frame = subst (λ (known : Registration). ReachesFrame (g.E.Disk.life c.in_ok-disk.disk).obeys (reads (g.E.Disk.life c.args.disk).now) known c.args.held.now c.args.position) (search rules)
      (subst (λ (position : ℤ). ReachesFrame (g.E.Disk.life c.in_ok-disk.disk).obeys (reads (g.E.Disk.life c.args.disk).now) (record { descriptor = c.in_ok-copy.field-0; recorded = to_z w64 (of_z w64 c.seen.result) }) c.args.held.now position) (to_z-of_z w64 c.args.position (search rules)) c.in_ok-disk.ensures);
}
