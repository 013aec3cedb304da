-- The networks of `--send-to` are its texts.
use Rattle.std.proofs.Common.{List, [], Option, map, ap, sym, codes, ◌∙◌}
use Rattle.std.specs.Prelude.{unwrap_or}
use Rattle.std.proofs.lemmas.Result.{IfOk-weaker}
use Rattle.clap.specs.Words.{Text, found_of}
use Rattle.command_line.proofs.CommandLineLemmas.{texts_given}
use Rattle.command_line.proofs.serving.send_networks_of.Goals as goal

pub returns-in-Some : goal.returns-in-Some
returns-in-Some c =
    let given = texts_given (found_of c.args.own.now) (codes "send-to") _ _ c.get_strs.ensures c.in-Some.is in
    IfOk-weaker c.from_slice.result _ _ (λ texts is. ap (λ (o : Option (List Text)). unwrap_or o []) given ∙ ap (map (λ text. text.now)) (sym is)) c.from_slice.ensures.items

pub returns-in-None : goal.returns-in-None
returns-in-None c =
    let given = texts_given (found_of c.args.own.now) (codes "send-to") _ _ c.get_strs.ensures c.in-None.is in
    ap (λ (o : Option (List Text)). unwrap_or o []) given ∙ ap (map (λ text. text.now)) (sym c.new.ensures.items)
