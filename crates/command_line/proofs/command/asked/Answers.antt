-- A subcommand's name and its entries are the command that is answered, and no command where none is.
use Rattle.std.proofs.Common.{rules, refl, codes}
use Rattle.std.specs.Str.Parse.{ParsesUnsigned, ExplainsUnsignedError, HasUnsignedDigitsIfOk}
use Rattle.clap.specs.Words.{found_of}
use Rattle.command_line.proofs.CommandLineLemmas.{text_given, number_given, number_lacks, lacks_words, no_history, flag_given, number_if}
use Rattle.command_line.proofs.command.asked.Goals as goal

pub returns-in_err-get_str-in-create : goal.returns-in_err-get_str-in-create
returns-in_err-get_str-in-create c = rw c.from_residual.ensures
    (lacks_words (codes "create") _ _ (search rules) (λ holds. holds.0 (text_given (found_of c.args.own.now) (codes "folder") _ _ c.get_str.ensures c.in_err-get_str-in-create.was)))

pub returns-in_err-get_one-in-create : goal.returns-in_err-get_one-in-create
returns-in_err-get_one-in-create c = rw c.from_residual-in_err-get_one-in-create.ensures
    (no_history _ _ (search rules)
    (λ n number. number_lacks (λ text x. ParsesUnsigned 32 10 text x × ExplainsUnsignedError 10 text x × HasUnsignedDigitsIfOk text x) (λ text x read. read.0)
    (found_of c.args.own.now) (codes "history") n _ c.get_one.ensures.value c.in_err-get_one-in-create.was number))

pub returns-in_ok-get_one-in-create : goal.returns-in_ok-get_one-in-create
returns-in_ok-get_one-in-create c = record {
  named = search rules;
  words = (
    text_given (found_of c.args.own.now) (codes "folder") _ _ c.get_str.ensures c.in_ok-get_str-in-create.was,
    number_given (λ text x. ParsesUnsigned 32 10 text x × ExplainsUnsignedError 10 text x × HasUnsignedDigitsIfOk text x) (λ text x read. read.0)
        (found_of c.args.own.now) (codes "history") _ _ c.get_one.ensures.none c.get_one.ensures.value c.in_ok-get_one-in-create.was,
  );
}

pub returns-in-run : goal.returns-in-run
returns-in-run c = record {
  named = search rules;
  words = (
    text_given (found_of c.args.own.now) (codes "folder") _ _ c.get_str-in-run.ensures refl,
    flag_given (found_of c.args.own.now) (codes "checkpoints") _ c.get_flag.ensures.none c.get_flag.ensures.value c.get_flag.ensures.other,
    number_if (λ text x. ParsesUnsigned 32 10 text x × ExplainsUnsignedError 10 text x × HasUnsignedDigitsIfOk text x) (λ text x read. read.0)
        (found_of c.args.own.now) (codes "wait") _ c.get_one-in-run.ensures.none c.get_one-in-run.ensures.value,
  );
}

pub returns-in_err-get_str-in-compact : goal.returns-in_err-get_str-in-compact
returns-in_err-get_str-in-compact c = rw c.from_residual-in_err-get_str-in-compact.ensures
    (lacks_words (codes "compact") _ _ (search rules) (λ holds. holds (text_given (found_of c.args.own.now) (codes "folder") _ _ c.get_str-in-compact.ensures c.in_err-get_str-in-compact.was)))

pub returns-in_ok-get_str-in-compact : goal.returns-in_ok-get_str-in-compact
returns-in_ok-get_str-in-compact c = record {
  named = search rules;
  words = (
    text_given (found_of c.args.own.now) (codes "folder") _ _ c.get_str-in-compact.ensures c.in_ok-get_str-in-compact.was,
    number_if (λ text x. ParsesUnsigned 32 10 text x × ExplainsUnsignedError 10 text x × HasUnsignedDigitsIfOk text x) (λ text x read. read.0)
        (found_of c.args.own.now) (codes "wait") _ c.get_one-in-compact.ensures.none c.get_one-in-compact.ensures.value,
  );
}

pub returns-in_err-get_str-in-list : goal.returns-in_err-get_str-in-list
returns-in_err-get_str-in-list c = rw c.from_residual-in_err-get_str-in-list.ensures
    (lacks_words (codes "list") _ _ (search rules) (λ holds. holds (text_given (found_of c.args.own.now) (codes "folder") _ _ c.get_str-in-list.ensures c.in_err-get_str-in-list.was)))

pub returns-in_ok-get_str-in-list : goal.returns-in_ok-get_str-in-list
returns-in_ok-get_str-in-list c = record {
  named = search rules;
  words = (
    text_given (found_of c.args.own.now) (codes "folder") _ _ c.get_str-in-list.ensures c.in_ok-get_str-in-list.was,
    flag_given (found_of c.args.own.now) (codes "read-only") _ c.get_flag-in-list.ensures.none c.get_flag-in-list.ensures.value c.get_flag-in-list.ensures.other,
    number_if (λ text x. ParsesUnsigned 32 10 text x × ExplainsUnsignedError 10 text x × HasUnsignedDigitsIfOk text x) (λ text x read. read.0)
        (found_of c.args.own.now) (codes "wait") _ c.get_one-in-list.ensures.none c.get_one-in-list.ensures.value,
  );
}

pub returns-in_err-get_str-in-frames : goal.returns-in_err-get_str-in-frames
returns-in_err-get_str-in-frames c = rw c.from_residual-in_err-get_str-in-frames.ensures
    (lacks_words (codes "frames") _ _ (search rules) (λ holds. holds (text_given (found_of c.args.own.now) (codes "file") _ _ c.get_str-in-frames.ensures c.in_err-get_str-in-frames.was)))

pub returns-in_ok-get_str-in-frames : goal.returns-in_ok-get_str-in-frames
returns-in_ok-get_str-in-frames c = record {
  named = search rules;
  words = text_given (found_of c.args.own.now) (codes "file") _ _ c.get_str-in-frames.ensures c.in_ok-get_str-in-frames.was;
}
