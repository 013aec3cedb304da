-- The entries of `serve` are the words that are answered, and no words if they lack one.
use Rattle.std.proofs.Common.{◌∙◌, refl, sym, codes}
use Rattle.std.specs.Str.Parse.{ParsesUnsigned, ExplainsUnsignedError, HasUnsignedDigitsIfOk}
use Rattle.clap.specs.Words.{found_of}
use Rattle.command_line.proofs.CommandLineLemmas.{flag_given, number_given, number_if, number_lacks, text_given}
use Rattle.command_line.proofs.serving.words_of.Goals as goal

pub returns-in_err-folder : goal.returns-in_err-folder
returns-in_err-folder c = rw c.from_residual.ensures
    (λ words serving.
    let none = text_given (found_of c.args.own.now) (codes "folder") _ _ c.get_str.ensures c.in_err-folder.was in
    let bad = sym none ∙ serving.folder_is in cc)

pub returns-in_err-control : goal.returns-in_err-control
returns-in_err-control c = rw c.from_residual-in_err-control.ensures
    (λ words serving.
    number_lacks (λ text x. ParsesUnsigned 32 10 text x × ExplainsUnsignedError 10 text x × HasUnsignedDigitsIfOk text x) (λ text x read. read.0)
    (found_of c.args.own.now) (codes "control") words.control _ c.get_one.ensures.value c.in_err-control.was serving.control_is)

pub returns-in_err-receive : goal.returns-in_err-receive
returns-in_err-receive c = rw c.from_residual-in_err-receive.ensures
    (λ words serving.
    number_lacks (λ text x. ParsesUnsigned 32 10 text x × ExplainsUnsignedError 10 text x × HasUnsignedDigitsIfOk text x) (λ text x read. read.0)
    (found_of c.args.own.now) (codes "receive") words.receive _ c.get_one-2.ensures.value c.in_err-receive.was serving.receive_is)

pub returns-in_err-receive_on : goal.returns-in_err-receive_on
returns-in_err-receive_on c = rw c.from_residual-in_err-receive_on.ensures
    (λ words serving.
    let none = text_given (found_of c.args.own.now) (codes "receive-on") _ _ c.get_str-2.ensures c.in_err-receive_on.was in
    let bad = sym none ∙ serving.address_is in cc)

pub returns-in_err-idle : goal.returns-in_err-idle
returns-in_err-idle c = rw c.from_residual-in_err-idle.ensures
    (λ words serving.
    number_lacks (λ text x. ParsesUnsigned 32 10 text x × ExplainsUnsignedError 10 text x × HasUnsignedDigitsIfOk text x) (λ text x read. read.0)
    (found_of c.args.own.now) (codes "idle") words.idle _ c.get_one-3.ensures.value c.in_err-idle.was serving.idle_is)

pub returns-in_err-settle_every : goal.returns-in_err-settle_every
returns-in_err-settle_every c = rw c.from_residual-in_err-settle_every.ensures
    (λ words serving.
    number_lacks (λ text x. ParsesUnsigned 32 10 text x × ExplainsUnsignedError 10 text x × HasUnsignedDigitsIfOk text x) (λ text x read. read.0)
    (found_of c.args.own.now) (codes "settle-every") words.settle_every _ c.get_one-4.ensures.value c.in_err-settle_every.was serving.settle_is)

pub returns-in_err-times_every : goal.returns-in_err-times_every
returns-in_err-times_every c = rw c.from_residual-in_err-times_every.ensures
    (λ words serving.
    number_lacks (λ text x. ParsesUnsigned 32 10 text x × ExplainsUnsignedError 10 text x × HasUnsignedDigitsIfOk text x) (λ text x read. read.0)
    (found_of c.args.own.now) (codes "times-every") words.times_every _ c.get_one-5.ensures.value c.in_err-times_every.was serving.times_every_is)

pub returns : goal.returns
returns c = record {
  folder_is = text_given (found_of c.args.own.now) (codes "folder") _ _ c.get_str.ensures c.in_ok-folder.was;
  control_is = number_given (λ text x. ParsesUnsigned 32 10 text x × ExplainsUnsignedError 10 text x × HasUnsignedDigitsIfOk text x) (λ text x read. read.0)
      (found_of c.args.own.now) (codes "control") _ _ c.get_one.ensures.none c.get_one.ensures.value c.in_ok-control.was;
  receive_is = number_given (λ text x. ParsesUnsigned 32 10 text x × ExplainsUnsignedError 10 text x × HasUnsignedDigitsIfOk text x) (λ text x read. read.0)
      (found_of c.args.own.now) (codes "receive") _ _ c.get_one-2.ensures.none c.get_one-2.ensures.value c.in_ok-receive.was;
  address_is = text_given (found_of c.args.own.now) (codes "receive-on") _ _ c.get_str-2.ensures c.in_ok-receive_on.was;
  idle_is = number_given (λ text x. ParsesUnsigned 32 10 text x × ExplainsUnsignedError 10 text x × HasUnsignedDigitsIfOk text x) (λ text x read. read.0)
      (found_of c.args.own.now) (codes "idle") _ _ c.get_one-3.ensures.none c.get_one-3.ensures.value c.in_ok-idle.was;
  settle_is = number_given (λ text x. ParsesUnsigned 32 10 text x × ExplainsUnsignedError 10 text x × HasUnsignedDigitsIfOk text x) (λ text x read. read.0)
      (found_of c.args.own.now) (codes "settle-every") _ _ c.get_one-4.ensures.none c.get_one-4.ensures.value c.in_ok-settle_every.was;
  aeron_is = flag_given (found_of c.args.own.now) (codes "aeron") _ c.get_flag-is_aeron.ensures.none c.get_flag-is_aeron.ensures.value c.get_flag-is_aeron.ensures.other;
  window_is = number_if (λ text x. ParsesUnsigned 32 10 text x × ExplainsUnsignedError 10 text x × HasUnsignedDigitsIfOk text x) (λ text x read. read.0)
      (found_of c.args.own.now) (codes "window") _ c.get_one-window.ensures.none c.get_one-window.ensures.value;
  clients_is = number_if (λ text x. ParsesUnsigned 32 10 text x × ExplainsUnsignedError 10 text x × HasUnsignedDigitsIfOk text x) (λ text x read. read.0)
      (found_of c.args.own.now) (codes "clients") _ c.get_one-clients.ensures.none c.get_one-clients.ensures.value;
  consumers_is = number_if (λ text x. ParsesUnsigned 32 10 text x × ExplainsUnsignedError 10 text x × HasUnsignedDigitsIfOk text x) (λ text x read. read.0)
      (found_of c.args.own.now) (codes "consumers") _ c.get_one-consumers.ensures.none c.get_one-consumers.ensures.value;
  consumers_on_is = text_given (found_of c.args.own.now) (codes "consumers-on") _ _ c.get_str-consumers_on.ensures refl;
  streams_are = c.requires.streams;
  networks_are = c.requires.networks;
  sends_are = c.requires.sends;
  send_on_is = text_given (found_of c.args.own.now) (codes "send-on") _ _ c.get_str-send_on.ensures refl;
  segment_is = number_if (λ text x. ParsesUnsigned 32 10 text x × ExplainsUnsignedError 10 text x × HasUnsignedDigitsIfOk text x) (λ text x read. read.0)
      (found_of c.args.own.now) (codes "segment-length") _ c.get_one-segment_length.ensures.none c.get_one-segment_length.ensures.value;
  quiet_is = flag_given (found_of c.args.own.now) (codes "quiet") _ c.get_flag-is_quiet.ensures.none c.get_flag-is_quiet.ensures.value c.get_flag-is_quiet.ensures.other;
  strict_is = flag_given (found_of c.args.own.now) (codes "strict") _ c.get_flag-is_strict.ensures.none c.get_flag-is_strict.ensures.value c.get_flag-is_strict.ensures.other;
  metrics_is = text_given (found_of c.args.own.now) (codes "metrics") _ _ c.get_str-metrics.ensures refl;
  times_is = text_given (found_of c.args.own.now) (codes "times") _ _ c.get_str-times.ensures refl;
  times_every_is = number_given (λ text x. ParsesUnsigned 32 10 text x × ExplainsUnsignedError 10 text x × HasUnsignedDigitsIfOk text x) (λ text x read. read.0)
      (found_of c.args.own.now) (codes "times-every") _ _ c.get_one-5.ensures.none c.get_one-5.ensures.value c.in_ok-times_every.was;
  checkpoints_is = flag_given (found_of c.args.own.now) (codes "checkpoints") _ c.get_flag-checkpoints.ensures.none c.get_flag-checkpoints.ensures.value c.get_flag-checkpoints.ensures.other;
  no_checkpoints_is = flag_given (found_of c.args.own.now) (codes "no-checkpoints") _ c.get_flag-no_checkpoints.ensures.none c.get_flag-no_checkpoints.ensures.value c.get_flag-no_checkpoints.ensures.other;
  name_is = text_given (found_of c.args.own.now) (codes "name") _ _ c.get_str-name.ensures refl;
  times_are = flag_given (found_of c.args.own.now) (codes "log-times") _ c.get_flag-logs_times.ensures.none c.get_flag-logs_times.ensures.value c.get_flag-logs_times.ensures.other;
  no_create_is = flag_given (found_of c.args.own.now) (codes "no-create") _ c.get_flag-no_create.ensures.none c.get_flag-no_create.ensures.value c.get_flag-no_create.ensures.other;
  wait_is = number_if (λ text x. ParsesUnsigned 32 10 text x × ExplainsUnsignedError 10 text x × HasUnsignedDigitsIfOk text x) (λ text x read. read.0)
      (found_of c.args.own.now) (codes "wait") _ c.get_one-wait.ensures.none c.get_one-wait.ensures.value;
}
