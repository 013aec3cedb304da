-- The texts so far are the numbers so far.
use Rattle.std.proofs.Common.{◌≡◌, rules, subst, sym, map, take, List, [], ◌∷◌, ◌++◌, Bor, get_or, of_z, to_z, w32}
use Rattle.std.proofs.lemmas.List.{take_all}
use Rattle.clap.specs.Words.{Text}
use Rattle.command_line.specs.CommandLine.{AreNumbers}
use Rattle.command_line.proofs.StreamLemmas.{no_numbers, numbers_more, read, text_of, unread}
use Rattle.command_line.proofs.serving.numbers_of.Goals as goal

no_text : Bor Text
no_text = record { ref_ptr = (0, 0); now = [] }

pub returns-in-Err : goal.returns-in-Err
unfolding no_text
returns-in-Err c = no_numbers c.args.texts.now c.loop-index.index no_text c.loop-index-test.true
    (unread (get_or c.args.texts.now c.loop-index.index no_text).now c.parse.result c.in-Err.field-0 c.parse.ensures.value.0 c.in-Err.is)

pub loop-index-preserved : goal.loop-index-preserved
unfolding no_text
loop-index-preserved c =
    let number : to_z w32 (of_z w32 c.in-Ok.number) ≡ c.in-Ok.number = search rules in
    let pushed : c.push.new.self.items ≡ c.loop-index.numbers.items ++ c.in-Ok.number ∷ [] = subst (λ z. c.push.new.self.items ≡ c.loop-index.numbers.items ++ z ∷ []) number c.in_ok-push-in-Ok.ensures.items in
    subst (AreNumbers (map text_of (take _ c.args.texts.now))) (sym pushed)
    (numbers_more c.args.texts.now c.loop-index.index no_text c.loop-index.numbers.items c.in-Ok.number c.loop-index-test.true c.loop-index.invariant
    (read (get_or c.args.texts.now c.loop-index.index no_text).now c.parse.result c.in-Ok.number c.parse.ensures.value.0 c.in-Ok.is))

pub returns : goal.returns
returns c =
    let all = take_all c.loop-index.index c.args.texts.now c.loop-index-test.false in
    subst (λ (ts : List (Bor Text)). AreNumbers (map text_of ts) c.loop-index.numbers.items) all c.loop-index.invariant
