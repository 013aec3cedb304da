use Rattle.std.proofs.Common.{rules, ◌≡◌, IsSome, subst, sym}
use Rattle.engine_core.proofs.Words.{AreFilesWith, Files, reads, seen}
use Rattle.engine_core.proofs.openings.ReopenLemmas.{either_then, opened_behind, refused_behind, unlisted}
use Rattle.engine_core.proofs.engine.Engine.open.Goals as goal

pub open_listed-requires : goal.open_listed-requires
open_listed-requires g c obeys =
    let same : c.as_slice.result.now ≡ c.in-Ok.files.items = search rules in
    rw same (subst (λ (files : Files). AreFilesWith (λ file. IsSome (reads files file)) c.in-Ok.files.items) (sym c.files_of.ensures.quiet.now) (c.in-Ok.ensures.files obeys))

pub returns-in-Ok : goal.returns-in-Ok
returns-in-Ok g c =
    let old = g.D.Disk.life c.args.disk in
    let mid = g.D.Disk.life c.files_of.new.disk in
    let quiet = c.files_of.ensures.quiet in
    either_then c.open_listed.result _ _ _ _ (λ opened. opened_behind old mid quiet (seen g.D.Disk.life opened.0) opened.1) (λ refused. refused_behind old mid quiet (g.D.Disk.life refused.disk) refused.refusal) c.open_listed.ensures

pub returns-in-Err : goal.returns-in-Err
returns-in-Err g c = unlisted (g.D.Disk.life c.args.disk) (g.D.Disk.life c.files_of.new.disk) c.files_of.ensures.quiet c.in-Err.refusal c.in-Err.ensures.refused
