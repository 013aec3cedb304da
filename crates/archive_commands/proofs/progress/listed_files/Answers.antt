use Rattle.std.proofs.Common.{rules, ◌≡◌, ◌∙◌, IsSome, Vec, subst, sym}
use Rattle.std.proofs.lemmas.List.{take_all}
use Rattle.std.specs.declared.alloc.Global.{Global}
use Rattle.std.specs.Prelude.{IfOk, IsTrue, List, Result, Ok}
use Rattle.disk_core.specs.declared.fault.ListFault.{ListFault}
use Rattle.disk_core.specs.declared.file_id.FileId.{FileId}
use Rattle.disk_core.specs.DiskImage.{reads}
use Rattle.disk_core.specs.FileNames.{AreFilesWith}
use Rattle.archive_commands.proofs.progress.listed_files.Goals as goal

pub returns-clause-listed : goal.returns-clause-listed
returns-clause-listed g c obeys =
    let old = g.D.Disk.life c.args.disk.now in
    let inv = c.loop-file.invariant in
    let is : c.list.result ≡ Ok c.in_ok-files.files = search rules in
    let mid = g.D.Disk.life c.list.new.self in
    let all = subst (λ (r : Result (Vec FileId Global) ListFault). IfOk r (λ files. IsTrue mid.obeys → AreFilesWith (λ file. IsSome (reads old.now file)) files.items)) is c.list.ensures.files (inv.obeyed obeys) in
    let same : c.deref-file-items.result.now ≡ c.in_ok-files.files.items = search rules in
    let files = inv.files ∙ take_all c.loop-file.file-index c.deref-file-items.result.now c.loop-file-test.false ∙ same in
    record { files = subst (λ (files : List FileId). AreFilesWith (λ file. IsSome (reads old.now file)) files) (sym files) all; lengths = inv.lengths obeys }
