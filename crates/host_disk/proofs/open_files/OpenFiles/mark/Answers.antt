use Rattle.std.proofs.Common.{◌≡◌, ◌<◌, ◌∙◌, inl, inr, length, ap, subst, sym, arith, List, Bool, Some, slice_get}
use Rattle.host_disk.proofs.OpenFileLemmas.{set_shows, stays_or_replaced, same_item, new_item, shown_of_map}
use Rattle.std.proofs.lemmas.List.{length-map}
use Rattle.disk_core.specs.declared.file_id.FileId.TheVariants.{BankA}
use Rattle.host_disk.specs.OpenFiles.{unsynced, held}
use Rattle.std.proofs.lemmas.Option.{get_or_from_slice_get}
use Rattle.std.proofs.lemmas.List.{map-set}
use Rattle.std.proofs.Math.Seq.{map-set_same}
use Rattle.host_disk.specs.declared.system.OpenFile.{OpenFile}
use Rattle.host_disk.specs.OpenFiles.{entries_of}
use Rattle.host_disk.proofs.open_files.OpenFiles.mark.Goals as goal

pub returns-clause-same_files : goal.returns-clause-same_files
returns-clause-same_files c = map-set_same (λ (entry : OpenFile). entry.file) (entries_of c.args.self.now) c.args.index _ c.index_mut.result.now (ap (λ (entry : OpenFile). entry.file) c.index_mut.ensures.value)

pub returns-clause-marked : goal.returns-clause-marked
returns-clause-marked c = map-set (λ (entry : OpenFile). entry.is_unsynced) (entries_of c.args.self.now) c.args.index _

pub returns-clause-flag : goal.returns-clause-flag
returns-clause-flag c =
    subst (λ (flags : List Bool). slice_get flags c.args.index ≡ Some c.args.is_unsynced) (sym (returns-clause-marked c))
    (set_shows (unsynced c.args.self.now) c.args.index c.args.is_unsynced (omega (arith, c.requires, length-map (entries_of c.args.self.now) (λ (entry : OpenFile). entry.is_unsynced))))

pub returns-clause-mark : goal.returns-clause-mark
returns-clause-mark c is =
    let items : List OpenFile = entries_of c.args.self.now in
    let was : OpenFile = c.index_mut.result.now in
    let made : OpenFile = record was { is_unsynced = c.args.is_unsynced } in
    let within : c.args.index < length items = c.requires in (
      λ file marked. elim (stays_or_replaced items c.args.index made marked.0 within marked.1) [
        | inl here ↦ (
          made,
          here.1,
          ap (λ (entry : OpenFile). entry.file) (c.index_mut.ensures.value ∙ same_item items c.args.index was marked.0 within ∙ sym here.0) ∙ marked.2,
          is,
        )
        | inr there ↦ (marked.0, there, marked.2, marked.3)
      ],
      (
        made,
        new_item items c.args.index made within,
        sym (get_or_from_slice_get (held c.args.self.now) c.args.index was.file BankA (shown_of_map (λ (entry : OpenFile). entry.file) items c.args.index was within c.index_mut.ensures.value)),
        is,
      ),
    )
