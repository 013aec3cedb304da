-- What the script answered of the disk, with checkpoints or without.
use Rattle.std.proofs.Common.{◌≡◌, rules, true, false}
use Rattle.folder_commands.proofs.RunLemmas.{script_done, script_early}
use Rattle.folder_commands.proofs.commands.script_of.Goals as goal

pub returns-then-checkpoints-clause-done : goal.returns-then-checkpoints-clause-done
returns-then-checkpoints-clause-done g c =
    let is : c.args.checkpoints ≡ true = search rules in
    rw is (script_done g.D.Disk.life true _ _ _ _ c.run_checkpointed_script.result c.run_checkpointed_script.ensures.whole c.run_checkpointed_script.ensures.kept)

pub returns-then-checkpoints-clause-early : goal.returns-then-checkpoints-clause-early
returns-then-checkpoints-clause-early g c =
    let is : c.args.checkpoints ≡ true = search rules in
    rw is (script_early g.D.Disk.life true _ _ _ _ c.run_checkpointed_script.result c.run_checkpointed_script.ensures.early c.run_checkpointed_script.ensures.kept_early)

pub returns-else-checkpoints-clause-done : goal.returns-else-checkpoints-clause-done
returns-else-checkpoints-clause-done g c =
    let is : c.args.checkpoints ≡ false = search rules in
    rw is (script_done g.D.Disk.life false _ _ _ _ c.run_script.result c.run_script.ensures.whole c.run_script.ensures.kept)

pub returns-else-checkpoints-clause-early : goal.returns-else-checkpoints-clause-early
returns-else-checkpoints-clause-early g c =
    let is : c.args.checkpoints ≡ false = search rules in
    rw is (script_early g.D.Disk.life false _ _ _ _ c.run_script.result c.run_script.ensures.early c.run_script.ensures.kept_early)
