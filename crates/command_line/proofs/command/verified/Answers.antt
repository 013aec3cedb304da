-- The entries of `verify` are the command that is answered, and no command where none is.
use Rattle.std.proofs.Common.{refl, codes, w64}
use Rattle.std.specs.Str.Parse.{ExplainsSignedError, HasSignedDigitsIfOk, ParsesSigned, ExplainsUnsignedError, HasUnsignedDigitsIfOk, ParsesUnsigned}
use Rattle.clap.specs.Words.{found_of}
use Rattle.command_line.proofs.CommandLineLemmas.{flag_given, no_folder, number_if, signed_if, text_given}
use Rattle.command_line.proofs.command.verified.Goals as goal

pub returns-in_err-folder : goal.returns-in_err-folder
returns-in_err-folder c = rw c.from_residual.ensures
    (no_folder (codes "verify") _ refl (text_given (found_of c.args.own.now) (codes "folder") _ _ c.get_str.ensures c.in_err-folder.was))

pub returns : goal.returns
returns c = record {
  named = refl;
  words = record {
    folder_is = text_given (found_of c.args.own.now) (codes "folder") _ _ c.get_str.ensures c.in_ok-folder.was;
    recording_is = signed_if (λ text x. ParsesSigned w64 10 text x × ExplainsSignedError 10 text x × HasSignedDigitsIfOk text x) (λ text x read. read.0)
        (found_of c.args.own.now) (codes "recording") _ c.get_one-recording.ensures.none c.get_one-recording.ensures.value;
    read_only_is = flag_given (found_of c.args.own.now) (codes "read-only") _ c.get_flag-read_only.ensures.none c.get_flag-read_only.ensures.value c.get_flag-read_only.ensures.other;
    wait_is = number_if (λ text x. ParsesUnsigned 32 10 text x × ExplainsUnsignedError 10 text x × HasUnsignedDigitsIfOk text x) (λ text x read. read.0)
        (found_of c.args.own.now) (codes "wait") _ c.get_one-wait.ensures.none c.get_one-wait.ensures.value;
  };
}
