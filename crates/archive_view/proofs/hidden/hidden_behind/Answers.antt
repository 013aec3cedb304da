use Rattle.std.proofs.Common.{rules, inr, subst, IsTrue}
use Rattle.std.specs.Bool.{IsFalse}
use Rattle.disk_core.specs.DiskImage.{Files, reads}
use Rattle.catalogue_log.specs.Hidden.{IsHidden, TellsHidden, hidden_bytes}
use Rattle.archive_view.specs.Hidden.{HasNoFrames}
use Rattle.archive_view.proofs.hidden.hidden_behind.Goals as goal

pub returns-clause-found : goal.returns-clause-found
returns-clause-found g c obeys =
    let life = g.D.Disk.life in
    let register = c.args.desk.now.state.register in
    let log = c.args.log.now in
    let hidden = c.in-Some.hidden in
    let works : IsTrue (life c.hidden_entry.new.disk).obeys = c.has_frames.ensures.quiet.obeyed obeys in
    let stands : IsHidden log.header.version (hidden_bytes (reads (life c.args.disk.now).now) log) hidden =
    subst (TellsHidden log.header.version (hidden_bytes (reads (life c.args.disk.now).now) log)) c.in-Some.is (c.in_ok-hidden.ensures.found works) in
    let unfollowed : IsFalse hidden.is_followed = search rules in
    let none : HasNoFrames (reads (life c.hidden_entry.new.disk).now) register hidden.entry = search rules in
    inr (hidden, stands, unfollowed, subst (λ (files : Files). HasNoFrames (reads files) register hidden.entry) c.hidden_entry.ensures.quiet.now none)
