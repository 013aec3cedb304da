-- What was handed on is what is sent.
use Rattle.std.proofs.Common.{rules, ◌≡◌, ℤ, w64, to_z, of_z, subst}
use Rattle.std.proofs.lemmas.Int.{to_z-of_z}
use Rattle.std.specs.Prelude.{OnOk}
use Rattle.disk_core.specs.DiskImage.{reads}
use Rattle.recording_reads.specs.Settled.{seen_to}
use Rattle.settled_replays.specs.Sending.{SendsShown}
use Rattle.settled_replays.proofs.SendingLemmas.{sends_if}
use Rattle.settled_replays.proofs.replayer.SettledReplayer.send.Goals as goal

pub returns-else-is_err-clause-sends : goal.returns-else-is_err-clause-sends
returns-else-is_err-clause-sends g c =
    let life = g.E.Disk.life in
    let old = c.args.self.now.reader in
    let new = c.turn-turned.new.self in
    subst (λ (most : ℤ). OnOk c.turn-turned.result (SendsShown c.turn-turned.new.taker (life new.reader.disk).obeys (reads (life old.disk).now) (seen_to new.held.seen old.cursor.known) old.cursor.replay most new.reader.cursor.replay.next)) (to_z-of_z w64 c.args.most (search rules))
    (sends_if c.turn-turned.result _ _ _ _ _ _ _ _ (search rules) c.turn-turned.ensures.handed)
