use Rattle.std.proofs.Common.{rules, ◌≡◌, ap, subst, sym}
use Rattle.std.specs.Prelude.{Err}
use Rattle.control_core.specs.Orderly.{AreLaid}
use Rattle.archive_view.proofs.LookLemmas.{desk_read, refused_read}
use Rattle.archive_view.proofs.view.catalogue_of.Goals as goal

pub returns-in_err-log-clause-refused : goal.returns-in_err-log-clause-refused
returns-in_err-log-clause-refused g c =
    let is : c.from_residual.result ≡ Err c.in_err-log.field-0.0 = search rules in
    rw is (refused_read g.D.Disk.life c.args.disk.now c.open_register.new.disk c.in_err-log.field-0.0 (g.met.D.Disk.reads_may_stay c.args.disk.now.disk) c.open_register.ensures.same c.open_register.ensures.any_moment
    c.in_err-log.ensures.refused (λ fault. c.in_err-log.ensures.cause (ap Err fault)))

pub opened-desk-requires : goal.opened-desk-requires
opened-desk-requires g c =
    let opened = c.in_ok-log.ensures.opened in
    subst AreLaid (sym opened.makes) (c.admitted_entries_make_laid_recordings.ensures c.in_ok-log.log.header.version opened.entries opened.admitted)

pub returns-clause-found : goal.returns-clause-found
returns-clause-found g c =
    let log = c.in_ok-log.log in
    let opened = c.in_ok-log.ensures.opened in
    desk_read g.D.Disk.life c.args.disk.now c.open_register.new.disk log opened.entries c.in_ok-log.register.state c.opened-desk.result.state _ _ _
    (g.met.D.Disk.reads_may_stay c.args.disk.now.disk) c.open_register.ensures.same c.open_register.ensures.any_moment opened.stands opened.makes
    c.opened-desk.ensures c.counted-counted.ensures c.limit.ensures c.version.ensures
