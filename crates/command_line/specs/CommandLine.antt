-- The program's command line: docs/CONTROL.md, "The program".
use Rattle.std.specs.Prelude.{◌≡◌, ◌≢◌, ◌⊎◌, ◌<◌, ◌^◌, ℕ, ℤ, pos, negsuc, Bool, true, false, List, [], ◌∷◌, Option, Some, None, IsSomeAnd, codes, map, option_map, unwrap_or, FitsSigned}
use Rattle.std.specs.Str.Parse.{IsNumeral, digits_value, signed_digits_value, without_leading_plus, without_leading_sign}
use Rattle.std.specs.Int.{w32, w64}
use Rattle.clap.specs.Lexer.{usize_max}
use Rattle.clap.specs.Simple.{on_top}
use Rattle.clap.specs.Words.{App, IsAmong, Kinds, Row, Rule, Text, all_of, app_of, fault_of, first_of, new_app, new_rule, one_of, subcommand_of, with_rule, with_subcommand}
use Rattle.clap.specs.declared.builder.action.ArgAction.TheVariants.{Append, SetTrue}
use Rattle.clap.specs.declared.builder.command.Command.{Command}
use Rattle.clap.specs.declared.builder.command.Command.TheViews.{out-Command as fields_of}
use Rattle.clap.specs.declared.builder.value_parser.ValueParser.TheVariants as parser
use Rattle.clap.specs.declared.error.ErrorKind.{ErrorKind}
use Rattle.clap.specs.declared.error.ErrorKind.TheVariants as kinds
use Rattle.command_line.specs.declared.command.ToolCommand.{ToolCommand}
use Rattle.command_line.specs.declared.asking.AskWords.{AskWords}
use Rattle.command_line.specs.declared.serving.ServeWords.{ServeWords}
use Rattle.command_line.specs.declared.command.ToolCommand.TheVariants.{Create, Run, Serve, Compact, List as AskList, Verify, Describe, Export, Frames, Ask, When}

-- a word that has to be given
abbrev pub required_word : Text → Rule
required_word id = record (new_rule id) { required = true }

-- `--history`, a u32, which is 1048576 where it is not given
abbrev pub history_option : Rule
history_option = record (new_rule (codes "history")) {
  long = Some (codes "history");
  value_names = 1;
  defaults = codes "1048576" ∷ [];
  parser = Some (parser.Signed (pos 0) (pos 4294967295));
}

-- a flag, which is a word of its own
abbrev pub flag_option : Text → Rule
flag_option id = record (new_rule id) { long = Some id; action = Some SetTrue }

-- a port, which has to be given, from 1 to 65535
abbrev pub port_option : Text → Rule
port_option id = record (new_rule id) {
  long = Some id;
  value_names = 1;
  parser = Some (parser.Signed (pos 1) (pos 65535));
  required = true;
}

-- `--receive-on`, which is 127.0.0.1 where it is not given
abbrev pub address_option : Rule
address_option = record (new_rule (codes "receive-on")) {
  long = Some (codes "receive-on");
  value_names = 1;
  defaults = codes "127.0.0.1" ∷ [];
}

-- `--idle`, a u32, which is 60 where it is not given
abbrev pub idle_option : Rule
idle_option = record (new_rule (codes "idle")) {
  long = Some (codes "idle");
  value_names = 1;
  defaults = codes "60" ∷ [];
  parser = Some (parser.Signed (pos 0) (pos 4294967295));
}

-- `--settle-every`, from 0 to 1000, which is 5 if it is not given
abbrev pub settle_option : Rule
settle_option = record (new_rule (codes "settle-every")) {
  long = Some (codes "settle-every");
  value_names = 1;
  defaults = codes "5" ∷ [];
  parser = Some (parser.Signed (pos 0) (pos 1000));
}

-- `--window`, from 4096 to 1048576, which may be given
abbrev pub window_option : Rule
window_option = record (new_rule (codes "window")) {
  long = Some (codes "window");
  value_names = 1;
  parser = Some (parser.Signed (pos 4096) (pos 1048576));
}

-- `--clients`, from 1 to 64, which may be given
abbrev pub clients_option : Rule
clients_option = record (new_rule (codes "clients")) {
  long = Some (codes "clients");
  value_names = 1;
  parser = Some (parser.Signed (pos 1) (pos 64));
}

-- `--consumers`, a port, which may be given, from 1 to 65535
abbrev pub consumers_option : Rule
consumers_option = record (new_rule (codes "consumers")) {
  long = Some (codes "consumers");
  value_names = 1;
  parser = Some (parser.Signed (pos 1) (pos 65535));
}

-- `--consumers-on`, an address, which may be given
abbrev pub consumers_address_option : Rule
consumers_address_option = record (new_rule (codes "consumers-on")) { long = Some (codes "consumers-on"); value_names = 1 }

-- `--record`, an i32, which may be given several times
abbrev pub stream_option : Rule
stream_option = record (new_rule (codes "record")) {
  long = Some (codes "record");
  value_names = 1;
  action = Some Append;
  parser = Some (parser.Signed (negsuc 2147483647) (pos 2147483647));
}

-- `--from`, a network, which may be given several times
abbrev pub from_option : Rule
from_option = record (new_rule (codes "from")) { long = Some (codes "from"); value_names = 1; action = Some Append }

-- and of sendings
abbrev pub send_to_option : Rule
send_to_option = record (new_rule (codes "send-to")) { long = Some (codes "send-to"); value_names = 1; action = Some Append }

abbrev pub send_on_option : Rule
send_on_option = record (new_rule (codes "send-on")) { long = Some (codes "send-on"); value_names = 1 }

-- `--segment-length`, from 65536 to 1073741824, which may be given
abbrev pub segment_option : Rule
segment_option = record (new_rule (codes "segment-length")) {
  long = Some (codes "segment-length");
  value_names = 1;
  parser = Some (parser.Signed (pos 65536) (pos 1073741824));
}

-- `--metrics`, a file, which may be given
abbrev pub metrics_option : Rule
metrics_option = record (new_rule (codes "metrics")) { long = Some (codes "metrics"); value_names = 1 }

-- `--times`, a folder, which may be given
abbrev pub times_option : Rule
times_option = record (new_rule (codes "times")) { long = Some (codes "times"); value_names = 1 }

-- `--times-every`, from 10 to 60000, which is 1000 if it is not given
abbrev pub times_every_option : Rule
times_every_option = record (new_rule (codes "times-every")) {
  long = Some (codes "times-every");
  value_names = 1;
  defaults = codes "1000" ∷ [];
  parser = Some (parser.Signed (pos 10) (pos 60000));
}

-- `--name`, a text, which may be given
abbrev pub name_option : Rule
name_option = record (new_rule (codes "name")) { long = Some (codes "name"); value_names = 1 }

-- a command of one word, which has to be given
abbrev pub word_app : Text → Text → App
word_app name id = with_rule (new_app name) (required_word id)

abbrev pub create_app : App
create_app = with_rule (word_app (codes "create") (codes "folder")) history_option

-- `--wait` of a command that opens a folder, from 1 to 86400, which may be given
abbrev pub waiting_option : Rule
waiting_option = record (new_rule (codes "wait")) {
  long = Some (codes "wait");
  value_names = 1;
  parser = Some (parser.Signed (pos 1) (pos 86400));
}

-- the id of a recording, which may be given as a word
abbrev pub recording_word : Rule
recording_word = record (new_rule (codes "recording")) { parser = Some (parser.Signed (pos 0) (pos 9223372036854775807)) }

abbrev pub run_app : App
run_app = with_rule (with_rule (with_rule (new_app (codes "run")) (new_rule (codes "folder"))) (flag_option (codes "checkpoints"))) waiting_option

abbrev pub compact_app : App
compact_app = with_rule (word_app (codes "compact") (codes "folder")) waiting_option

abbrev pub list_app : App
list_app = with_rule (with_rule (word_app (codes "list") (codes "folder")) (flag_option (codes "read-only"))) waiting_option

abbrev pub verify_app : App
verify_app = with_rule (with_rule (with_rule (word_app (codes "verify") (codes "folder")) recording_word) (flag_option (codes "read-only"))) waiting_option

abbrev pub describe_app : App
describe_app = with_rule (with_rule (word_app (codes "describe") (codes "folder")) recording_word) (flag_option (codes "json"))

abbrev pub serve_app : App
serve_app = with_rule (with_rule (with_rule (with_rule (with_rule (with_rule (with_rule (with_rule (with_rule (with_rule (with_rule (with_rule (with_rule (with_rule (with_rule (with_rule (with_rule (with_rule (with_rule (word_app (codes "serve") (codes "folder"))
    (port_option (codes "control"))) (port_option (codes "receive"))) address_option) idle_option) settle_option)
    (flag_option (codes "aeron"))) window_option) clients_option) stream_option) segment_option) (flag_option (codes "quiet")))
    (flag_option (codes "strict"))) metrics_option) (flag_option (codes "checkpoints"))) (flag_option (codes "no-checkpoints"))) name_option) (flag_option (codes "log-times"))) (flag_option (codes "no-create"))) waiting_option

-- and with the options of consumers and networks
abbrev pub consumers_app : App
consumers_app = with_rule (with_rule (with_rule serve_app consumers_option) consumers_address_option) from_option

-- and with those of sendings
abbrev pub sends_app : App
sends_app = with_rule (with_rule consumers_app send_to_option) send_on_option

-- and with those of times
abbrev pub times_app : App
times_app = with_rule (with_rule sends_app times_option) times_every_option

-- a number of an i64 from 0 on, which has to be given
abbrev pub number_word : Text → Rule
number_word id = record (required_word id) { parser = Some (parser.Signed (pos 0) (pos 9223372036854775807)) }

-- a position, which may be given
abbrev pub position_option : Text → Rule
position_option id = record (new_rule id) {
  long = Some id;
  value_names = 1;
  parser = Some (parser.Signed (pos 0) (pos 9223372036854775807));
}

-- a file, which has to be given
abbrev pub file_option : Text → Rule
file_option id = record (new_rule id) { long = Some id; value_names = 1; required = true }

abbrev pub export_app : App
export_app = with_rule (with_rule (with_rule (with_rule (word_app (codes "export") (codes "folder")) (number_word (codes "recording"))) (position_option (codes "from"))) (position_option (codes "to"))) (file_option (codes "pcap"))

abbrev pub when_app : App
when_app = with_rule (with_rule (word_app (codes "when") (codes "folder")) (number_word (codes "recording"))) (required_word (codes "time"))

-- `line`, which has to be given, once or more often
abbrev pub lines_word : Rule
lines_word = record (required_word (codes "line")) { range = Some (record { start_inclusive = 1; end_inclusive = usize_max }) }

-- a port, which has to be given as a word, from 1 to 65535
abbrev pub port_word : Rule
port_word = record (required_word (codes "port")) { parser = Some (parser.Signed (pos 1) (pos 65535)) }

-- `--until`, a reply, which may be given
abbrev pub until_option : Rule
until_option = record (new_rule (codes "until")) { long = Some (codes "until"); value_names = 1 }

-- `--wait`, from 1 to 86400, which is 60 if it is not given
abbrev pub wait_option : Rule
wait_option = record (new_rule (codes "wait")) {
  long = Some (codes "wait");
  value_names = 1;
  defaults = codes "60" ∷ [];
  parser = Some (parser.Signed (pos 1) (pos 86400));
}

abbrev pub ask_app : App
ask_app = with_rule (with_rule (with_rule (with_rule (new_app (codes "ask")) port_word) lines_word) until_option) wait_option

-- the program, which tells its version, and of which one command has to be asked for
abbrev pub named_tool : App
named_tool = on_top (λ s. record s { has_version = true; subcommand_required = true; arg_required_else_help = true }) (new_app (codes "archive_tool"))

-- and its commands
abbrev pub tool_app : App
tool_app = with_subcommand (with_subcommand (with_subcommand (with_subcommand (with_subcommand (with_subcommand (with_subcommand (with_subcommand (with_subcommand (with_subcommand (with_subcommand named_tool create_app.top) run_app.top)
    list_app.top) verify_app.top) (word_app (codes "frames") (codes "file")).top) describe_app.top) times_app.top)
    compact_app.top) export_app.top) ask_app.top) when_app.top

-- the command is that one, and has no argument that its subcommands have too
pub record IsCommand (app : App) (command : Command) : Type 0 where
  pub app_is : app_of command ≡ app
  pub local : (fields_of command).has_globals ≡ false

-- the word that asks for a command
abbrev pub command_word : ToolCommand → Text
command_word (Create folder history) = codes "create"
command_word (Run folder checkpoints wait) = codes "run"
command_word (Serve words) = codes "serve"
command_word (Compact folder wait) = codes "compact"
command_word (AskList folder read_only wait) = codes "list"
command_word (Verify folder recording read_only wait) = codes "verify"
command_word (Describe folder recording json) = codes "describe"
command_word (Export folder recording from to pcap) = codes "export"
command_word (Frames file) = codes "frames"
command_word (Ask words) = codes "ask"
command_word (When folder recording time) = codes "when"

-- the text is a u32 in decimal, and this number
abbrev pub IsNumber : ℕ → Text → Type 0
IsNumber n text = IsNumeral 10 (without_leading_plus text) × (n ≡ digits_value 10 (without_leading_plus text)) × (n < 2 ^ 32)

-- a flag is set, or not; where its text is another, nothing is said
pub record IsFlag (text : Option Text) (flag : Bool) : Type 0 where
  pub none : text ≡ None → flag ≡ false
  pub set : text ≡ Some (codes "true") → flag ≡ true
  pub unset : text ≡ Some (codes "false") → flag ≡ false

-- the number of a text that may be there; a text that is no number has none
abbrev pub IsNumberIf : Option Text → Option ℕ → Type 0
IsNumberIf None None = Unit {0}
IsNumberIf None (Some n) = ⊥
IsNumberIf (Some text) None = (n : ℕ) → IsNumber n text → ⊥
IsNumberIf (Some text) (Some n) = IsNumber n text

-- the text is an i32 in decimal, and this number
abbrev pub IsStream : ℤ → Text → Type 0
IsStream z text = IsNumeral 10 (without_leading_sign text) × FitsSigned w32 (signed_digits_value 10 text) × (z ≡ signed_digits_value 10 text)

-- the texts are the numbers, each its own
abbrev pub AreNumbers : List Text → List ℤ → Type 0
AreNumbers [] [] = Unit {0}
AreNumbers [] (z ∷ zs) = ⊥
AreNumbers (text ∷ texts) [] = ⊥
AreNumbers (text ∷ texts) (z ∷ zs) = IsStream z text × AreNumbers texts zs

-- the streams of `--record`, in the order of the words
abbrev pub AreStreams : List Row → List ℤ → Type 0
AreStreams rows streams = AreNumbers (unwrap_or (all_of (codes "record") rows) []) streams

-- the texts of `--from`, in the order of the words
abbrev pub AreNetworkTexts : List Row → List Text → Type 0
AreNetworkTexts rows texts = unwrap_or (all_of (codes "from") rows) [] ≡ texts

-- the texts of `--send-to`, in the order of the words
abbrev pub AreSendTexts : List Row → List Text → Type 0
AreSendTexts rows texts = unwrap_or (all_of (codes "send-to") rows) [] ≡ texts

-- the words of `serve`
pub record IsServing (rows : List Row) (words : ServeWords) : Type 0 where
  pub folder_is : first_of (codes "folder") rows ≡ Some words.folder.now
  pub control_is : IsSomeAnd (one_of (codes "control") rows) (IsNumber words.control)
  pub receive_is : IsSomeAnd (one_of (codes "receive") rows) (IsNumber words.receive)
  pub address_is : first_of (codes "receive-on") rows ≡ Some words.receive_on.now
  pub idle_is : IsSomeAnd (one_of (codes "idle") rows) (IsNumber words.idle)
  pub settle_is : IsSomeAnd (one_of (codes "settle-every") rows) (IsNumber words.settle_every)
  pub aeron_is : IsFlag (one_of (codes "aeron") rows) words.is_aeron
  pub window_is : IsNumberIf (one_of (codes "window") rows) words.window
  pub clients_is : IsNumberIf (one_of (codes "clients") rows) words.clients
  pub consumers_is : IsNumberIf (one_of (codes "consumers") rows) words.consumers
  pub consumers_on_is : first_of (codes "consumers-on") rows ≡ option_map (λ address. address.now) words.consumers_on
  pub streams_are : AreStreams rows words.streams.items
  pub networks_are : AreNetworkTexts rows (map (λ text. text.now) words.from.items)
  pub sends_are : AreSendTexts rows (map (λ text. text.now) words.send_to.items)
  pub send_on_is : first_of (codes "send-on") rows ≡ option_map (λ address. address.now) words.send_on
  pub segment_is : IsNumberIf (one_of (codes "segment-length") rows) words.segment_length
  pub quiet_is : IsFlag (one_of (codes "quiet") rows) words.is_quiet
  pub strict_is : IsFlag (one_of (codes "strict") rows) words.is_strict
  pub metrics_is : first_of (codes "metrics") rows ≡ option_map (λ file. file.now) words.metrics
  pub times_is : first_of (codes "times") rows ≡ option_map (λ folder. folder.now) words.times
  pub times_every_is : IsSomeAnd (one_of (codes "times-every") rows) (IsNumber words.times_every)
  pub checkpoints_is : IsFlag (one_of (codes "checkpoints") rows) words.checkpoints
  pub no_checkpoints_is : IsFlag (one_of (codes "no-checkpoints") rows) words.no_checkpoints
  pub name_is : first_of (codes "name") rows ≡ option_map (λ text. text.now) words.name
  pub times_are : IsFlag (one_of (codes "log-times") rows) words.logs_times
  pub no_create_is : IsFlag (one_of (codes "no-create") rows) words.no_create
  pub wait_is : IsNumberIf (one_of (codes "wait") rows) words.wait

-- the text is an i64 in decimal, and this number
abbrev pub IsSigned : ℤ → Text → Type 0
IsSigned z text = IsNumeral 10 (without_leading_sign text) × FitsSigned w64 (signed_digits_value 10 text) × (z ≡ signed_digits_value 10 text)

-- the number of a text that may be there; a text that is no number has none
abbrev pub IsSignedIf : Option Text → Option ℤ → Type 0
IsSignedIf None None = Unit {0}
IsSignedIf None (Some z) = ⊥
IsSignedIf (Some text) None = (z : ℤ) → IsSigned z text → ⊥
IsSignedIf (Some text) (Some z) = IsSigned z text

-- the words of `export`
pub record IsExporting (rows : List Row) (folder : Text) (recording : ℤ) (from to : Option ℤ) (pcap : Text) : Type 0 where
  pub folder_is : first_of (codes "folder") rows ≡ Some folder
  pub recording_is : IsSomeAnd (one_of (codes "recording") rows) (IsSigned recording)
  pub from_is : IsSignedIf (one_of (codes "from") rows) from
  pub to_is : IsSignedIf (one_of (codes "to") rows) to
  pub pcap_is : first_of (codes "pcap") rows ≡ Some pcap

-- the words of `when`
pub record IsLookingUp (rows : List Row) (folder : Text) (recording : ℤ) (time : Text) : Type 0 where
  pub folder_is : first_of (codes "folder") rows ≡ Some folder
  pub recording_is : IsSomeAnd (one_of (codes "recording") rows) (IsSigned recording)
  pub time_is : first_of (codes "time") rows ≡ Some time

-- the words of `verify`
pub record IsVerifying (rows : List Row) (folder : Text) (recording : Option ℤ) (read_only : Bool) (wait : Option ℕ) : Type 0 where
  pub folder_is : first_of (codes "folder") rows ≡ Some folder
  pub recording_is : IsSignedIf (one_of (codes "recording") rows) recording
  pub read_only_is : IsFlag (one_of (codes "read-only") rows) read_only
  pub wait_is : IsNumberIf (one_of (codes "wait") rows) wait

-- the words of `describe`
pub record IsDescribing (rows : List Row) (folder : Text) (recording : Option ℤ) (json : Bool) : Type 0 where
  pub folder_is : first_of (codes "folder") rows ≡ Some folder
  pub recording_is : IsSignedIf (one_of (codes "recording") rows) recording
  pub json_is : IsFlag (one_of (codes "json") rows) json

-- the words of `ask`
pub record IsAsking (rows : List Row) (words : AskWords) : Type 0 where
  pub port_is : IsSomeAnd (one_of (codes "port") rows) (IsNumber words.port)
  pub lines_are : all_of (codes "line") rows ≡ Some (map (λ line. line.now) words.lines.items)
  pub until_is : first_of (codes "until") rows ≡ option_map (λ reply. reply.now) words.until
  pub wait_is : IsSomeAnd (one_of (codes "wait") rows) (IsNumber words.wait)

-- the words of a command are those that its subcommand's entries hold
abbrev pub HasWords : List Row → ToolCommand → Type 0
HasWords rows (Create folder history) = (first_of (codes "folder") rows ≡ Some folder.now) × IsSomeAnd (one_of (codes "history") rows) (IsNumber history)
HasWords rows (Run folder checkpoints wait) =
    (first_of (codes "folder") rows ≡ option_map (λ f. f.now) folder) × IsFlag (one_of (codes "checkpoints") rows) checkpoints × IsNumberIf (one_of (codes "wait") rows) wait
HasWords rows (Serve words) = IsServing rows words
HasWords rows (Compact folder wait) = (first_of (codes "folder") rows ≡ Some folder.now) × IsNumberIf (one_of (codes "wait") rows) wait
HasWords rows (AskList folder read_only wait) =
    (first_of (codes "folder") rows ≡ Some folder.now) × IsFlag (one_of (codes "read-only") rows) read_only × IsNumberIf (one_of (codes "wait") rows) wait
HasWords rows (Verify folder recording read_only wait) = IsVerifying rows folder.now recording read_only wait
HasWords rows (Describe folder recording json) = IsDescribing rows folder.now recording json
HasWords rows (Export folder recording from to pcap) = IsExporting rows folder.now recording from to pcap.now
HasWords rows (Frames file) = first_of (codes "file") rows ≡ Some file.now
HasWords rows (Ask words) = IsAsking rows words
HasWords rows (When folder recording time) = IsLookingUp rows folder.now recording time.now

-- a subcommand of that name, with those entries, is the command
pub record IsAsked (name : Text) (rows : List Row) (command : ToolCommand) : Type 0 where
  pub named : name ≡ command_word command
  pub words : HasWords rows command

-- the subcommand that was met, if there is one, is the command
abbrev pub IsMet : Option (Text × List Row) → ToolCommand → Type 0
IsMet met command = IsSomeAnd met (λ p. IsAsked p.0 p.1 command)

-- clap takes the words, and the subcommand that its matches of them hold is the command
pub record IsHeld (words : List Text) (command : ToolCommand) : Type 0 where
  pub taken : fault_of tool_app words ≡ []
  pub met : IsMet (subcommand_of tool_app words) command

-- a word that is there, and begins with no hyphen
abbrev pub IsPlainWord : Text → Type 0
IsPlainWord [] = ⊥
IsPlainWord (byte ∷ bytes) = byte ≢ 45

-- the folder or file of a command is such a word, its history is the one of which no word is said, no flag is set, and it names no
-- recording and no wait; `serve`, `export`, `ask` and `when` have more words
abbrev pub IsPlain : ToolCommand → Type 0
IsPlain (Create folder history) = IsPlainWord folder.now × (history ≡ 1048576)
IsPlain (Run None checkpoints wait) = (checkpoints ≡ false) × (wait ≡ None)
IsPlain (Run (Some folder) checkpoints wait) = IsPlainWord folder.now × (checkpoints ≡ false) × (wait ≡ None)
IsPlain (Serve words) = ⊥
IsPlain (Compact folder wait) = IsPlainWord folder.now × (wait ≡ None)
IsPlain (AskList folder read_only wait) = IsPlainWord folder.now × (read_only ≡ false) × (wait ≡ None)
IsPlain (Verify folder recording read_only wait) = IsPlainWord folder.now × (recording ≡ None) × (read_only ≡ false) × (wait ≡ None)
IsPlain (Describe folder recording json) = IsPlainWord folder.now × (recording ≡ None) × (json ≡ false)
IsPlain (Export folder recording from to pcap) = ⊥
IsPlain (Frames file) = IsPlainWord file.now
IsPlain (Ask words) = ⊥
IsPlain (When folder recording time) = ⊥

-- the word of a command, and its folder or file where it has one
abbrev pub words_of : ToolCommand → List Text
words_of (Create folder history) = codes "create" ∷ folder.now ∷ []
words_of (Run None checkpoints wait) = codes "run" ∷ []
words_of (Run (Some folder) checkpoints wait) = codes "run" ∷ folder.now ∷ []
words_of (Serve words) = codes "serve" ∷ words.folder.now ∷ []
words_of (Compact folder wait) = codes "compact" ∷ folder.now ∷ []
words_of (AskList folder read_only wait) = codes "list" ∷ folder.now ∷ []
words_of (Verify folder recording read_only wait) = codes "verify" ∷ folder.now ∷ []
words_of (Describe folder recording json) = codes "describe" ∷ folder.now ∷ []
words_of (Export folder recording from to pcap) = codes "export" ∷ folder.now ∷ []
words_of (Frames file) = codes "frames" ∷ file.now ∷ []
words_of (Ask words) = codes "ask" ∷ []
words_of (When folder recording time) = codes "when" ∷ folder.now ∷ []

-- The kind of the error: one of those that clap gives to the words, or none that a command is missing where it takes
-- them; else memory ran out.
abbrev pub IsWordsFault : Kinds → ErrorKind → Type 0
IsWordsFault [] kind = (kind ≡ kinds.MissingSubcommand) ⊎ (kind ≡ kinds.OutOfMemory)
IsWordsFault (k ∷ ks) kind = IsAmong kind (k ∷ ks) ⊎ (kind ≡ kinds.OutOfMemory)
