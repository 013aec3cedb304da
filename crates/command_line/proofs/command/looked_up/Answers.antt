-- The entries of `when` are the command that is answered, and no command where none is.
use Rattle.std.proofs.Common.{◌≡◌, ◌∙◌, to_z, of_z, rules, sym, codes, w64}
use Rattle.std.specs.Str.Parse.{ParsesSigned, ExplainsSignedError, HasSignedDigitsIfOk}
use Rattle.clap.specs.Words.{found_of}
use Rattle.command_line.proofs.CommandLineLemmas.{no_when, signed_given, signed_lacks, text_given}
use Rattle.command_line.proofs.command.looked_up.Goals as goal

pub returns-in_err-folder : goal.returns-in_err-folder
returns-in_err-folder c = rw c.from_residual.ensures
    (no_when _ (λ folder recording time is.
    let none = text_given (found_of c.args.own.now) (codes "folder") _ _ c.get_str.ensures c.in_err-folder.was in
    let bad = sym none ∙ is.folder_is in cc))

pub returns-in_err-recording : goal.returns-in_err-recording
returns-in_err-recording c = rw c.from_residual-in_err-recording.ensures
    (no_when _ (λ folder recording time is.
    signed_lacks (λ text x. ParsesSigned w64 10 text x × ExplainsSignedError 10 text x × HasSignedDigitsIfOk text x) (λ text x read. read.0)
    (found_of c.args.own.now) (codes "recording") recording _ c.get_one.ensures.value c.in_err-recording.was is.recording_is))

pub returns-in_err-time : goal.returns-in_err-time
returns-in_err-time c = rw c.from_residual-in_err-time.ensures
    (no_when _ (λ folder recording time is.
    let none = text_given (found_of c.args.own.now) (codes "time") _ _ c.get_str-2.ensures c.in_err-time.was in
    let bad = sym none ∙ is.time_is in cc))

pub returns : goal.returns
returns c =
    let number : to_z w64 (of_z w64 c.in_ok-recording.recording) ≡ c.in_ok-recording.recording = search rules in
    record {
      named = search rules;
      words = record {
        folder_is = text_given (found_of c.args.own.now) (codes "folder") _ _ c.get_str.ensures c.in_ok-folder.was;
        recording_is = rw number (signed_given (λ text x. ParsesSigned w64 10 text x × ExplainsSignedError 10 text x × HasSignedDigitsIfOk text x) (λ text x read. read.0)
            (found_of c.args.own.now) (codes "recording") _ _ c.get_one.ensures.none c.get_one.ensures.value c.in_ok-recording.was);
        time_is = text_given (found_of c.args.own.now) (codes "time") _ _ c.get_str-2.ensures c.in_ok-time.was;
      };
    }
