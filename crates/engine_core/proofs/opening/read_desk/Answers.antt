use Rattle.std.proofs.Common.{rules, ◌≡◌, ◌∙◌, ap, subst, sym}
use Rattle.std.specs.Prelude.{Err}
use Rattle.engine_core.proofs.Words.{DeskState, IsTied, after_entries, no_recordings, reads, register_of}
use Rattle.engine_core.proofs.openings.OpeningLemmas.{whole_refused}
use Rattle.engine_core.proofs.openings.ReopenLemmas.{same_desk}
use Rattle.engine_core.proofs.opening.read_desk.Goals as goal

pub returns-in_err-log-clause-whole : goal.returns-in_err-log-clause-whole
returns-in_err-log-clause-whole g c =
    let refused : c.from_residual.result ≡ Err c.in_err-log.field-0.0 = search rules in
    rw refused (λ obeys x recovers. whole_refused (reads (g.D.Disk.life c.args.disk.now).now) x c.in_err-log.field-0.0 recovers (c.in_err-log.ensures.refused obeys))

pub returns-clause-sound : goal.returns-clause-sound
returns-clause-sound g c obeys x recovers =
    let log = c.in_ok-log.log in
    let is : c.counted-counted.result ≡ log.counted = c.counted-counted.ensures in
    let counted = c.counted-counted.result in
    let found = c.in_ok-log.ensures.sound obeys x recovers in (
      found.0,
      c.opened-desk.ensures ∙ same_desk c.in_ok-log.register.state (register_of x) counted log.counted c.limit-limit.result log.header.history_limit c.version-version.result log.header.version
          found.1 is c.limit-limit.ensures c.version-version.ensures,
    )

pub returns-clause-log : goal.returns-clause-log
returns-clause-log g c obeys =
    let log = c.in_ok-log.log in
    let found = c.in_ok-log.ensures.log obeys in
    let is : c.counted-counted.result ≡ log.counted = c.counted-counted.ensures in
    let counted = c.counted-counted.result in (
      found.0,
      found.1,
      found.2,
      c.opened-desk.ensures ∙ same_desk c.in_ok-log.register.state (after_entries no_recordings found.0) counted log.counted c.limit-limit.result log.header.history_limit
          c.version-version.result log.header.version found.3 is c.limit-limit.ensures c.version-version.ensures,
    )

pub returns-clause-tied : goal.returns-clause-tied
returns-clause-tied g c =
    let log = c.in_ok-log.log in
    let counted = c.counted-counted.result in
    let register = c.in_ok-log.register.state in
    let limit = c.limit-limit.result in
    let is : counted ≡ log.counted = c.counted-counted.ensures in (
      subst (IsTied log) (sym c.opened-desk.ensures) (record { works = λ works. c.in_ok-log.ensures.works; counted = λ works. sym is; limit = λ works. sym c.limit-limit.ensures; version = λ works. sym c.version-version.ensures }),
      ap (λ (d : DeskState). d.is_broken) c.opened-desk.ensures,
    )

pub returns-in_err-log-clause-files : goal.returns-in_err-log-clause-files
returns-in_err-log-clause-files g c =
    let files = c.open_files.ensures.files in
    record { before = files.before; synced = search rules; calls = files.calls; cause = λ fault. files.cause (search (rules, fault)) }

pub returns-clause-files : goal.returns-clause-files
returns-clause-files g c =
    let files = c.open_files.ensures.files in
    record { before = files.before; synced = search rules; calls = files.calls; cause = λ fault. absurd cc }
