-- The entries of `describe` are the command that is answered, and no command where none is.
use Rattle.std.proofs.Common.{refl, codes, w64}
use Rattle.std.specs.Str.Parse.{ExplainsSignedError, HasSignedDigitsIfOk, ParsesSigned}
use Rattle.clap.specs.Words.{found_of}
use Rattle.command_line.proofs.CommandLineLemmas.{flag_given, no_folder, signed_if, text_given}
use Rattle.command_line.proofs.command.described.Goals as goal

pub returns-in_err-folder : goal.returns-in_err-folder
returns-in_err-folder c = rw c.from_residual.ensures
    (no_folder (codes "describe") _ refl (text_given (found_of c.args.own.now) (codes "folder") _ _ c.get_str.ensures c.in_err-folder.was))

pub returns : goal.returns
returns c = record {
  named = refl;
  words = record {
    folder_is = text_given (found_of c.args.own.now) (codes "folder") _ _ c.get_str.ensures c.in_ok-folder.was;
    recording_is = signed_if (λ text x. ParsesSigned w64 10 text x × ExplainsSignedError 10 text x × HasSignedDigitsIfOk text x) (λ text x read. read.0)
        (found_of c.args.own.now) (codes "recording") _ c.get_one-recording.ensures.none c.get_one-recording.ensures.value;
    json_is = flag_given (found_of c.args.own.now) (codes "json") _ c.get_flag-json.ensures.none c.get_flag-json.ensures.value c.get_flag-json.ensures.other;
  };
}
