use Rattle.std.proofs.Common.{rules, ◌≡◌, ◌∙◌, ap, subst, Result, Ok, Option, Some}
use Rattle.frame_core.specs.declared.refusal.Refusal.{Refusal}
use Rattle.host_disk.specs.ClosedDisk.{closed_life}
use Rattle.host_disk.specs.ReadFolder.{folder_life}
use Rattle.catalogue_log.specs.declared.hidden.Hidden.{Hidden}
use Rattle.archive_view.specs.Asked.{Answers}
use Rattle.archive_view.specs.Hidden.{TellsHiddenEntry}
use Rattle.archive_view.specs.ReadOnly.{disk_of}
use Rattle.archive_view.specs.Viewed.{desk_of, log_of, read_of}
use Rattle.folder_commands.proofs.HiddenLemmas.{may_hide}
use Rattle.folder_commands.proofs.hidden.hidden_place.Goals as goal

pub returns : goal.returns
returns g c =
    let view = c.in-Ok-open.view in
    let hidden = c.in-Ok-Some.field-0-0 in
    let found_is : c.hidden_entry.result ≡ Ok (Some hidden) = search rules in
    let found =
    subst (λ (o : Result (Option Hidden) Refusal). Answers folder_life (λ image (it : Option Hidden). TellsHiddenEntry image (desk_of view).register (log_of view) it) (read_of view) (read_of c.hidden_entry.new.self) o) found_is
    c.hidden_entry.ensures.asked.answers in
    let closed : closed_life c.close.result ≡ folder_life (disk_of (read_of c.hidden_entry.new.self)) = search rules in
    may_hide g.given c.new.result view (read_of c.hidden_entry.new.self) hidden (closed_life c.close.result) (ap folder_life c.new.ensures ∙ c.in-Ok.ensures.begun) closed c.in-Ok-open.ensures found
