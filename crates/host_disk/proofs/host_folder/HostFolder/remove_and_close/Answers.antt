use Rattle.std.proofs.Common.{◌≡◌, List, subst, sym, ◌∙◌}
use Rattle.host_disk.specs.Events.{Event}
use Rattle.host_disk.specs.OpenFiles.{HoldsUnsynced}
use Rattle.host_disk.specs.Names.{path_of}
use Rattle.host_disk.specs.Paths.{path_in}
use Rattle.host_disk.proofs.MarkLemmas.{holds_removed}
use Rattle.host_disk.proofs.host_folder.HostFolder.remove_and_close.Goals as goal

pub invariant_of-self-2 : goal.invariant_of-self-2
invariant_of-self-2 c =
    let old = c.name.new.self in
    record {
      kept = c.remove.ensures.path ∙ subst (λ (notes : List Event). path_of old.names ≡ path_in notes) (sym c.in_ok-remove.ensures.noted) old.kept;
      marked = subst (HoldsUnsynced c.close.new.self) (sym c.in_ok-remove.ensures.noted) (holds_removed old.open_files c.close.new.self old.notes.record.events c.args.file c.close.ensures.marks old.marked);
    }
