-- The entries of `ask` are the words that are answered, and no words if they lack one.
use Rattle.std.proofs.Common.{◌∙◌, Some, map, refl, sym, ap, codes}
use Rattle.std.specs.Str.Parse.{ParsesUnsigned, ExplainsUnsignedError, HasUnsignedDigitsIfOk}
use Rattle.clap.specs.Words.{found_of}
use Rattle.command_line.proofs.CommandLineLemmas.{number_given, number_lacks, text_given, texts_given}
use Rattle.command_line.proofs.asking.asking.Goals as goal

pub returns-in_default : goal.returns-in_default
returns-in_default c = λ words asking.
    number_lacks (λ text x. ParsesUnsigned 32 10 text x × ExplainsUnsignedError 10 text x × HasUnsignedDigitsIfOk text x) (λ text x read. read.0)
    (found_of c.args.own.now) (codes "port") words.port _ c.get_one.ensures.value c.in_default.is asking.port_is

pub returns-in_default-get_strs : goal.returns-in_default-get_strs
returns-in_default-get_strs c = λ words asking.
    let none = texts_given (found_of c.args.own.now) (codes "line") _ _ c.get_strs.ensures c.in_default-get_strs.is in
    let bad = sym none ∙ asking.lines_are in cc

pub returns-in_default-get_one : goal.returns-in_default-get_one
returns-in_default-get_one c = λ words asking.
    number_lacks (λ text x. ParsesUnsigned 32 10 text x × ExplainsUnsignedError 10 text x × HasUnsignedDigitsIfOk text x) (λ text x read. read.0)
    (found_of c.args.own.now) (codes "wait") words.wait _ c.get_one-2.ensures.value c.in_default-get_one.is asking.wait_is

pub returns : goal.returns
returns c = record {
  port_is = number_given (λ text x. ParsesUnsigned 32 10 text x × ExplainsUnsignedError 10 text x × HasUnsignedDigitsIfOk text x) (λ text x read. read.0)
      (found_of c.args.own.now) (codes "port") _ _ c.get_one.ensures.none c.get_one.ensures.value c.in-Some.is;
  lines_are = texts_given (found_of c.args.own.now) (codes "line") _ _ c.get_strs.ensures c.in-Some-get_strs.is ∙ ap (λ lines. Some (map (λ line. line.now) lines)) (sym c.in_ok-from_slice.ensures.items);
  until_is = text_given (found_of c.args.own.now) (codes "until") _ _ c.get_str.ensures refl;
  wait_is = number_given (λ text x. ParsesUnsigned 32 10 text x × ExplainsUnsignedError 10 text x × HasUnsignedDigitsIfOk text x) (λ text x read. read.0)
      (found_of c.args.own.now) (codes "wait") _ _ c.get_one-2.ensures.none c.get_one-2.ensures.value c.in-Some-get_one.is;
}
