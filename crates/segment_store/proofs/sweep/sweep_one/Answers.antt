use Rattle.std.proofs.Common.{inr, subst}
use Rattle.disk_core.specs.DiskImage.{reads}
use Rattle.segment_store.specs.Stale.{IsFirst}
use Rattle.segment_store.proofs.SweepLemmas.{swept_file}
use Rattle.segment_store.proofs.sweep.sweep_one.Goals as goal

pub returns-in_err-remove_file-in-Some-clause-bounded : goal.returns-in_err-remove_file-in-Some-clause-bounded
returns-in_err-remove_file-in-Some-clause-bounded g c =
    inr (
      c.in-Some.file,
      swept_file c.args.keeps.now c.in-Some.file (g.D.Disk.life c.args.disk.now) (g.D.Disk.life c.first_stale.new.disk) (g.D.Disk.life c.remove_file.new.disk) c.first_stale.ensures.quiet c.remove_file.ensures.bounded (subst (IsFirst (g.D.Disk.life c.first_stale.new.disk).obeys (reads (g.D.Disk.life c.args.disk.now).now) c.args.keeps.now) c.in-Some.is c.in_ok-file.ensures.first),
    )

pub returns-in_ok-remove_file-in-Some-clause-swept : goal.returns-in_ok-remove_file-in-Some-clause-swept
returns-in_ok-remove_file-in-Some-clause-swept g c = (
  c.in-Some.file,
  swept_file c.args.keeps.now c.in-Some.file (g.D.Disk.life c.args.disk.now) (g.D.Disk.life c.first_stale.new.disk) (g.D.Disk.life c.remove_file.new.disk) c.first_stale.ensures.quiet c.remove_file.ensures.bounded (subst (IsFirst (g.D.Disk.life c.first_stale.new.disk).obeys (reads (g.D.Disk.life c.args.disk.now).now) c.args.keeps.now) c.in-Some.is c.in_ok-file.ensures.first),
  c.in_ok-remove_file-in-Some.ensures.gone,
)

pub returns-in_ok-remove_file-in-Some-clause-bounded : goal.returns-in_ok-remove_file-in-Some-clause-bounded
returns-in_ok-remove_file-in-Some-clause-bounded g c =
    inr (
      c.in-Some.file,
      swept_file c.args.keeps.now c.in-Some.file (g.D.Disk.life c.args.disk.now) (g.D.Disk.life c.first_stale.new.disk) (g.D.Disk.life c.remove_file.new.disk) c.first_stale.ensures.quiet c.remove_file.ensures.bounded (subst (IsFirst (g.D.Disk.life c.first_stale.new.disk).obeys (reads (g.D.Disk.life c.args.disk.now).now) c.args.keeps.now) c.in-Some.is c.in_ok-file.ensures.first),
    )
