-- From its opening to its last line a script that makes checkpoints is answered, and its disk keeps up with it.
use Rattle.std.proofs.Common.{◌∙◌, ap, true, inl}
use Rattle.tool_core.specs.Archives.{disk_of, early_end_of, life_of}
use Rattle.tool_core.specs.Checkpoints.{checkpointed_seen}
use Rattle.tool_core.proofs.WholeLemmas.{early, kept, kept_early, seen_of_disk, whole}
use Rattle.tool_core.proofs.script.run_checkpointed_script.Goals as goal

pub returns-in-Ok-outcome-clause-whole : goal.returns-in-Ok-outcome-clause-whole
returns-in-Ok-outcome-clause-whole g c =
    whole true (checkpointed_seen g.D.Disk.life) (g.D.Disk.life c.args.disk) _ _ _ (record { archive = c.in-Ok.found.0 }) c.answer_lines-state.result.0 c.in-Ok.found.1 c.in-Ok.ensures.begun _ c.new-state.ensures _
    (c.into_disk-disk.ensures ∙ ap (λ a. life_of (checkpointed_seen g.D.Disk.life a)) c.into_archive-archive.ensures) _ c.in-Ok-outcome.field-0 c.in-Ok-outcome.is c.answer_lines-state.ensures.whole

pub returns-in-Ok-outcome-clause-kept : goal.returns-in-Ok-outcome-clause-kept
returns-in-Ok-outcome-clause-kept g c =
    kept true (checkpointed_seen g.D.Disk.life) (g.D.Disk.life c.args.disk) _ _ _ (record { archive = c.in-Ok.found.0 }) c.answer_lines-state.result.0 c.in-Ok.found.1 c.in-Ok.ensures.begun _ c.new-state.ensures _
    (c.into_disk-disk.ensures ∙ ap (λ a. life_of (checkpointed_seen g.D.Disk.life a)) c.into_archive-archive.ensures) _ c.in-Ok-outcome.field-0 c.in-Ok-outcome.is c.answer_lines-state.ensures.whole
    c.an_image_recovers_to_one_state.ensures (λ a. seen_of_disk g.D.Disk.life g.met.D.Disk.reads_may_stay a.archive) (g.met.D.Disk.reads_may_stay c.args.disk)

pub returns-in-Err-outcome-clause-early : goal.returns-in-Err-outcome-clause-early
returns-in-Err-outcome-clause-early g c =
    inl (early true (checkpointed_seen g.D.Disk.life) (g.D.Disk.life c.args.disk) _ _ _ (record { archive = c.in-Ok.found.0 }) c.answer_lines-state.result.0 c.in-Ok.found.1 c.in-Ok.ensures.begun _ c.new-state.ensures (g.D.Disk.life (disk_of c.new.result))
    (ap g.D.Disk.life c.new.ensures.disk ∙ c.into_disk-disk.ensures ∙ ap (λ a. life_of (checkpointed_seen g.D.Disk.life a)) c.into_archive-archive.ensures)
    (early_end_of c.new.result) c.in-Err-outcome.end c.new.ensures.end _ c.in-Err-outcome.is c.answer_lines-state.ensures.early)

pub returns-in-Err-outcome-clause-kept_early : goal.returns-in-Err-outcome-clause-kept_early
returns-in-Err-outcome-clause-kept_early g c first banks begins obeys =
    inl (kept_early true (checkpointed_seen g.D.Disk.life) (g.D.Disk.life c.args.disk) _ _ _ (record { archive = c.in-Ok.found.0 }) c.answer_lines-state.result.0 c.in-Ok.found.1 c.in-Ok.ensures.begun _ c.new-state.ensures (g.D.Disk.life (disk_of c.new.result))
    (ap g.D.Disk.life c.new.ensures.disk ∙ c.into_disk-disk.ensures ∙ ap (λ a. life_of (checkpointed_seen g.D.Disk.life a)) c.into_archive-archive.ensures)
    (early_end_of c.new.result) c.in-Err-outcome.end c.new.ensures.end _ c.in-Err-outcome.is c.answer_lines-state.ensures.early
    c.an_image_recovers_to_one_state.ensures (λ a. seen_of_disk g.D.Disk.life g.met.D.Disk.reads_may_stay a.archive) (g.met.D.Disk.reads_may_stay c.args.disk) first banks begins obeys)
