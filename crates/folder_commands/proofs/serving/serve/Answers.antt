-- How the command ended, by how far it came.
use Rattle.std.proofs.Common.{◌≡◌, ◌∙◌, Err, IfSome, IsTrue, None, Option, Some, ap, inr, rules, subst, sym}
use Rattle.disk_core.specs.Life.{IsQuiet, Life}
use Rattle.host_disk.specs.declared.closed_disk.ClosedDisk.{ClosedDisk}
use Rattle.host_disk.specs.ClosedDisk.{closed_life}
use Rattle.host_disk.specs.HostDisk.{host_life}
use Rattle.server.specs.declared.options.ServeOptions.{ServeOptions}
use Rattle.folder_commands.specs.Folders.{ending_in}
use Rattle.folder_commands.specs.Hidden.{MayHideEntries}
use Rattle.folder_commands.specs.Left.{ends_with, leaves, left_life, sees}
use Rattle.folder_commands.specs.Serving.{HasCatalogue, ServesFolder}
use Rattle.folder_commands.proofs.ServingLemmas.{misworded, not_bound, not_looked, not_opened, not_there, served}
use Rattle.folder_commands.proofs.serving.serve.Goals as goal

pub returns-in_err-disk : goal.returns-in_err-disk
returns-in_err-disk g c =
    let exit = c.in_err-disk.field-0.0 in
    let is : c.from_residual-in_err-disk.result ≡ Err (record { exit = exit; left = None; looked = None }) = search rules in
    rw is (not_opened g.given c.args.words.now None _ _ c.in_ok-options.ensures c.in_ok-addresses.ensures exit.ending c.in_err-disk.ensures.unopened)

pub returns-in-Err : goal.returns-in-Err
returns-in-Err g c =
    not_bound g.given c.args.words.now (left_life c.unserved.result.looked) _ _ c.in_ok-options.ensures c.in_ok-addresses.ensures (left_life c.unserved.result.left) _ c.in-Err.exit.ending c.unserved.result.exit.ending
    c.in-Err.ensures c.in_ok-disk.ensures.begun c.unserved.ensures.left c.unserved.ensures.ending

pub returns-in_err-options : goal.returns-in_err-options
returns-in_err-options g c =
    let exit = c.in_err-options.field-0.0 in
    let is : c.from_residual.result ≡ Err (record { exit = exit; left = None; looked = None }) = search rules in
    rw is (misworded g.given c.args.words.now None exit.ending c.in_err-options.ensures.1 (inr c.in_err-options.ensures.0))

pub returns-then-words : goal.returns-then-words
returns-then-words g c =
    let strict : IsTrue c.args.words.now.is_strict = search rules in
    let new = closed_life c.close.result in
    let looked = Some (closed_life c.in-Some.looked) in
    let hides = subst (λ (o : Option ClosedDisk). IfSome o (λ l. MayHideEntries g.given (closed_life l))) c.in-Some.is c.warns_of_hidden_by-looked.ensures in
    subst (ServesFolder g.given c.args.words.now looked (Some new)) (sym c.reported.ensures)
    (not_looked g.given c.args.words.now looked _ _ c.in_ok-options.ensures c.in_ok-addresses.ensures new (c.close.ensures ∙ c.in_ok-disk.ensures.begun) strict hides)

pub returns-in_err-ready : goal.returns-in_err-ready
returns-in_err-ready g c =
    let outcome = c.in_err-ready.field-0.0 in
    let is : c.from_residual-in_err-ready.result ≡ Err outcome = search rules in
    rw is (not_there g.given c.args.words.now (left_life outcome.looked) _ _ c.in_ok-options.ensures c.in_ok-addresses.ensures (left_life outcome.left) _ outcome.exit.ending c.in_ok-disk.ensures.begun c.in_err-ready.ensures.lacks)

pub returns : goal.returns
returns g c =
    let first = host_life c.in_ok-disk.disk in
    let old = host_life c.new-disk.result.disk in
    let new = host_life c.serve_reporting-disk.result.0.disk in
    let is : old ≡ host_life c.in_ok-ready.ready = ap host_life c.new-disk.ensures in
    served g.given c.args.words.now (sees c.leaving.result) _ _ c.in_ok-options.ensures c.in_ok-addresses.ensures (leaves c.leaving.result) first old new (ending_in c.serve_reporting-disk.result.1) (ends_with c.leaving.result)
    c.begun_with-begun.result.is_strict
    c.in_ok-disk.ensures.begun
    (subst (λ (l : Life). IsQuiet first l) (sym is) c.in_ok-ready.ensures.quiet)
    (subst (λ (l : Life). IsTrue c.args.words.now.no_create → HasCatalogue first l) (sym is) c.in_ok-ready.ensures.there)
    (c.leaving.ensures.left ∙ c.closed.ensures) c.leaving.ensures.ending
    (ap (λ (o : ServeOptions). o.is_strict) c.begun_with-begun.ensures) c.serve_reporting-disk.ensures
