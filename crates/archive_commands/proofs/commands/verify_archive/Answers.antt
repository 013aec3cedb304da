-- What the opening says, and what is reported behind it.
use Rattle.std.proofs.Common.{rules, inr, refl}
use Rattle.engine_core.specs.Seen.{seen}
use Rattle.archive_commands.specs.Reports.{HasReported, HasReportedFirst, InTurn, InTurnAndOne, ids_asked, verifies_by}
use Rattle.archive_commands.proofs.CommandLemmas.{unverified}
use Rattle.archive_commands.proofs.VerifiedLemmas.{verified, verified_first}
use Rattle.archive_commands.proofs.commands.verify_archive.Goals as goal

pub returns-in_err-engine-clause-fault : goal.returns-in_err-engine-clause-fault
returns-in_err-engine-clause-fault g c = unverified g.D.Disk.life (g.D.Disk.life c.args.disk) _ c.from_residual.result c.in_err-engine.field-0.0 (search rules) c.args.asked c.in_err-engine.ensures.refused

pub returns-then-not-has_asked-clause-fault : goal.returns-then-not-has_asked-clause-fault
returns-then-not-has_asked-clause-fault g c = (
  inr (record {
    opened = seen g.D.Disk.life c.in_ok-engine.engine;
    opens = c.in_ok-engine.ensures.opened;
    absent = search rules;
    left = c.into_disk.ensures;
    is = refl;
  }),
  refl,
)

pub returns-in-Ok-clause-verified : goal.returns-in-Ok-clause-verified
returns-in-Ok-clause-verified g c =
    let engine = c.in_ok-engine.engine in
    let told : HasReported (InTurn (verifies_by (seen g.D.Disk.life))) (ids_asked c.args.asked engine.archive.desk.state) engine c.verify_recordings-outcome.new.archive (g.W.Write.contents c.args.writer.now) (g.W.Write.contents c.verify_recordings-outcome.new.writer) c.in-Ok.verdict = search rules in
    record {
      opened = seen g.D.Disk.life engine;
      opens = c.in_ok-engine.ensures.opened;
      there = search rules;
      last = seen g.D.Disk.life c.verify_recordings-outcome.new.archive;
      reported = verified (seen g.D.Disk.life) _ engine _ _ _ _ told;
      left = c.into_disk-disk.ensures;
    }

pub returns-in-Err-clause-fault : goal.returns-in-Err-clause-fault
returns-in-Err-clause-fault g c =
    let engine = c.in_ok-engine.engine in
    let told : HasReportedFirst (InTurnAndOne (verifies_by (seen g.D.Disk.life))) (ids_asked c.args.asked engine.archive.desk.state) engine c.verify_recordings-outcome.new.archive (g.W.Write.contents c.args.writer.now) (g.W.Write.contents c.verify_recordings-outcome.new.writer) c.in-Err.end = search rules in
    record {
      opened = seen g.D.Disk.life engine;
      opens = c.in_ok-engine.ensures.opened;
      there = search rules;
      last = seen g.D.Disk.life c.verify_recordings-outcome.new.archive;
      reported = verified_first (seen g.D.Disk.life) _ engine _ _ _ _ told;
      left = c.into_disk-disk.ensures;
    }
