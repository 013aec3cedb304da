use Rattle.std.proofs.Common.{rules, ◌≡◌, [], ◌∷◌, ◌++◌, List, Contains, subst, sym, ◌∙◌}
use Rattle.std.proofs.lemmas.List.Elements.{Contains-append_left}
use Rattle.host_disk.specs.declared.system.OpenFile.{OpenFile}
use Rattle.host_disk.specs.OpenFiles.{entries_of}
use Rattle.host_disk.proofs.OpenFileLemmas.{last_of_map}
use Rattle.host_disk.proofs.open_files.OpenFiles.hold.Goals as goal

pub returns-clause-held : goal.returns-clause-held
returns-clause-held c =
    let pushed : c.push.new.self.items ≡ entries_of c.make_room.new.self ++ c.args.opened ∷ [] = search rules in
    last_of_map (λ (entry : OpenFile). entry.file) (entries_of c.make_room.new.self) c.push.new.self.items c.args.opened c.len.result pushed (c.len.ensures ∙ c.push.new.self.ok.0)

pub returns-clause-marks : goal.returns-clause-marks
returns-clause-marks c file marked =
    let pushed : c.push.new.self.items ≡ entries_of c.make_room.new.self ++ c.args.opened ∷ [] = search rules in
    let kept = c.make_room.ensures.marks file marked in (
      kept.0,
      subst (λ (items : List OpenFile). Contains items kept.0) (sym pushed) (Contains-append_left (entries_of c.make_room.new.self) (c.args.opened ∷ []) kept.0 kept.1),
      kept.2,
      kept.3,
    )
