-- Which command the words ask for.
use Rattle.std.proofs.Common.{◌≡◌, ◌≢◌, ◌∙◌, inl, inr, refl, sym, ap, ap₂, subst, arith, ℕ, ℤ, Bool, true, false, List, [], ◌∷◌, Option, Some, None, Result, Ok, Err, option_map, codes, map, Bor, slice_index, rules, ne_eqb}
use Rattle.std.specs.Prelude.{◌||◌, bytes_eq, IfErr, IfOk, IsSomeAnd, unwrap_or}
use Rattle.std.specs.Str.Parse.{ParsesSigned, ParsesUnsigned}
use Rattle.std.specs.Int.{w64}
use Rattle.clap.specs.Words.{AddsArg, AddsSubcommand, App, FailsBy, HasKind, HasMatchesOf, Kinds, ReadsOne, Row, Text, all_of, app_of, fault_of, first_of, first_value, is_simple, is_simple_and_free, kind_of, matched_of, one_of, one_text, raw_values, rows_of, rule_of, Rule, subcommand_of, subcommand_rows_of, with_rule, with_subcommand}
use Rattle.clap.specs.declared.builder.arg.Arg.{Arg}
use Rattle.clap.specs.declared.builder.command.Command.{Command}
use Rattle.clap.specs.declared.error.Error.{Error}
use Rattle.clap.specs.declared.error.ErrorKind.TheVariants.{MissingSubcommand, OutOfMemory}
use Rattle.clap.specs.declared.parser.matches.ArgMatches.{ArgMatches}
use Rattle.clap.proofs.OnLiterals.{clap_on_literals}
use Rattle.clap.specs.declared.parser.matches.Found.{Found}
use Rattle.clap.proofs.WalkLemmas.{first_value-rows, one_text-rows, raw_values-rows}
use Rattle.command_line.specs.declared.command.ToolCommand.{ToolCommand}
use Rattle.command_line.specs.declared.asking.AskWords.{AskWords}
use Rattle.command_line.specs.declared.serving.ServeWords.{ServeWords}
use Rattle.command_line.specs.declared.command.ToolCommand.TheVariants.{Create, Run, Serve, Compact, List as AskList, Verify, Describe, Export, Frames, Ask, When}
use Rattle.command_line.specs.CommandLine.{HasWords, IsAsked, IsAsking, IsCommand, IsExporting, IsFlag, IsHeld, IsLookingUp, IsMet, IsNumber, IsNumberIf, IsSigned, IsSignedIf, IsPlain, IsPlainWord, IsServing, IsWordsFault, command_word, tool_app, words_of}

-- what a getter gave is what the rows hold
pub text_given : (f : Found) (id : Text) (given got : Option (Bor Text)) → option_map (λ s. s.now) given ≡ first_value f id → given ≡ got → first_of id (rows_of f) ≡ option_map (λ s. s.now) got
text_given f id given got is same = sym (first_value-rows f id) ∙ sym is ∙ ap (option_map (λ s. s.now)) same

-- a number that was read is that of the text that the rows hold, and where none was read they hold none
module _ {E : Type 0} (gives : List ℕ → Result ℕ E → Type 0) (reads : (text : List ℕ) (x : Result ℕ E) → gives text x → ParsesUnsigned 32 10 text x) where
  given_number : (n : ℕ) (text : Option Text) (got : Option ℕ) → (text ≡ None → got ≡ None) → ((t : List ℕ) → text ≡ Some t → ReadsOne gives t got) → got ≡ Some n → IsSomeAnd text (IsNumber n)
  given_number n None got none value is = let bad = sym (none refl) ∙ is in cc
  given_number n (Some t) got none value is =
      let read : gives t (Ok n) = subst (ReadsOne gives t) is (value t refl) in
      let parsed = reads t (Ok n) read in
      (parsed.0.0, parsed.1, omega (arith, parsed.0.1, parsed.1))

  pub number_given : (f : Found) (id : Text) (n : ℕ) (got : Option ℕ) → (one_text f id ≡ None → got ≡ None) → ((t : List ℕ) → one_text f id ≡ Some t → ReadsOne gives t got) → got ≡ Some n → IsSomeAnd (one_of id (rows_of f)) (IsNumber n)
  number_given f id n got none value is = subst (λ text. IsSomeAnd text (IsNumber n)) (one_text-rows f id) (given_number n (one_text f id) got none value is)

  lacks_number : (n : ℕ) (text : Option Text) → ((t : List ℕ) → text ≡ Some t → ReadsOne gives t None) → IsSomeAnd text (IsNumber n) → ⊥
  lacks_number n None value number = absurd number
  lacks_number n (Some t) value number =
      let unread = value t refl in
      reads t (Err unread.0) unread.1 (number.0, omega (arith, number.1, number.1))

  pub number_lacks : (f : Found) (id : Text) (n : ℕ) (got : Option ℕ) → ((t : List ℕ) → one_text f id ≡ Some t → ReadsOne gives t got) → got ≡ None → IsSomeAnd (one_of id (rows_of f)) (IsNumber n) → ⊥
  number_lacks f id n got value is number =
      lacks_number n (one_text f id) (λ t e. subst (ReadsOne gives t) is (value t e)) (subst (λ text. IsSomeAnd text (IsNumber n)) (sym (one_text-rows f id)) number)

  may_be_number : (text : Option Text) (got : Option ℕ) → (text ≡ None → got ≡ None) → ((t : List ℕ) → text ≡ Some t → ReadsOne gives t got) → IsNumberIf text got
  may_be_number None None none value = tt
  may_be_number None (Some n) none value = let bad = none refl in cc
  may_be_number (Some t) None none value = λ n. lacks_number n (Some t) (λ u e. value u e)
  may_be_number (Some t) (Some n) none value = given_number n (Some t) (Some n) none value refl

  pub number_if : (f : Found) (id : Text) (got : Option ℕ) → (one_text f id ≡ None → got ≡ None) → ((t : List ℕ) → one_text f id ≡ Some t → ReadsOne gives t got) → IsNumberIf (one_of id (rows_of f)) got
  number_if f id got none value = subst (λ text. IsNumberIf text got) (one_text-rows f id) (may_be_number (one_text f id) got none value)

-- the same of a signed number, and of one that may be left out
module _ {E : Type 0} (gives : List ℕ → Result ℤ E → Type 0) (reads : (text : List ℕ) (x : Result ℤ E) → gives text x → ParsesSigned w64 10 text x) where
  given_signed : (z : ℤ) (text : Option Text) (got : Option ℤ) → (text ≡ None → got ≡ None) → ((t : List ℕ) → text ≡ Some t → ReadsOne gives t got) → got ≡ Some z → IsSomeAnd text (IsSigned z)
  given_signed z None got none value is = let bad = sym (none refl) ∙ is in cc
  given_signed z (Some t) got none value is =
      let read : gives t (Ok z) = subst (ReadsOne gives t) is (value t refl) in
      let parsed = reads t (Ok z) read in
      (parsed.0.0, parsed.0.1, parsed.1)

  pub signed_given : (f : Found) (id : Text) (z : ℤ) (got : Option ℤ) → (one_text f id ≡ None → got ≡ None) → ((t : List ℕ) → one_text f id ≡ Some t → ReadsOne gives t got) → got ≡ Some z → IsSomeAnd (one_of id (rows_of f)) (IsSigned z)
  signed_given f id z got none value is = subst (λ text. IsSomeAnd text (IsSigned z)) (one_text-rows f id) (given_signed z (one_text f id) got none value is)

  lacks_signed : (z : ℤ) (text : Option Text) → ((t : List ℕ) → text ≡ Some t → ReadsOne gives t None) → IsSomeAnd text (IsSigned z) → ⊥
  lacks_signed z None value number = absurd number
  lacks_signed z (Some t) value number =
      let unread = value t refl in
      reads t (Err unread.0) unread.1 (number.0, number.1)

  pub signed_lacks : (f : Found) (id : Text) (z : ℤ) (got : Option ℤ) → ((t : List ℕ) → one_text f id ≡ Some t → ReadsOne gives t got) → got ≡ None → IsSomeAnd (one_of id (rows_of f)) (IsSigned z) → ⊥
  signed_lacks f id z got value is number =
      lacks_signed z (one_text f id) (λ t e. subst (ReadsOne gives t) is (value t e)) (subst (λ text. IsSomeAnd text (IsSigned z)) (sym (one_text-rows f id)) number)

  may_be : (text : Option Text) (got : Option ℤ) → (text ≡ None → got ≡ None) → ((t : List ℕ) → text ≡ Some t → ReadsOne gives t got) → IsSignedIf text got
  may_be None None none value = tt
  may_be None (Some z) none value = let bad = none refl in cc
  may_be (Some t) None none value = λ z. lacks_signed z (Some t) (λ u e. value u e)
  may_be (Some t) (Some z) none value = given_signed z (Some t) (Some z) none value refl

  pub signed_if : (f : Found) (id : Text) (got : Option ℤ) → (one_text f id ≡ None → got ≡ None) → ((t : List ℕ) → one_text f id ≡ Some t → ReadsOne gives t got) → IsSignedIf (one_of id (rows_of f)) got
  signed_if f id got none value = subst (λ text. IsSignedIf text got) (one_text-rows f id) (may_be (one_text f id) got none value)

-- What the rows of a command hold, told by its word: `create`, `serve`, `export`, `run`, `frames`, `ask`, `when`, or another,
-- which has a folder.
abbrev Holds : Bool → Bool → Bool → Bool → Bool → Bool → Bool → List Row → Type 0
Holds true serve export run frames ask at rows = (first_of (codes "folder") rows ≢ None) × (n : ℕ) × IsSomeAnd (one_of (codes "history") rows) (IsNumber n)
Holds false true export run frames ask at rows = (words : ServeWords) × IsServing rows words
Holds false false true run frames ask at rows =
    (folder : Text) × (recording : ℤ) × (from : Option ℤ) × (to : Option ℤ) × (pcap : Text) × IsExporting rows folder recording from to pcap
Holds false false false true frames ask at rows = Unit {0}
Holds false false false false true ask at rows = first_of (codes "file") rows ≢ None
Holds false false false false false true at rows = (words : AskWords) × IsAsking rows words
Holds false false false false false false true rows = (folder : Text) × (recording : ℤ) × (time : Text) × IsLookingUp rows folder recording time
Holds false false false false false false false rows = first_of (codes "folder") rows ≢ None

abbrev HoldsBy : Text → List Row → Type 0
HoldsBy word rows = Holds (bytes_eq word (codes "create")) (bytes_eq word (codes "serve")) (bytes_eq word (codes "export")) (bytes_eq word (codes "run")) (bytes_eq word (codes "frames"))
    (bytes_eq word (codes "ask")) (bytes_eq word (codes "when")) rows

is_there : (id : Text) (rows : List Row) (text : Text) → first_of id rows ≡ Some text → first_of id rows ≢ None
is_there id rows text is none = let bad = sym none ∙ is in cc

holds_by : (rows : List Row) (command : ToolCommand) → HasWords rows command → HoldsBy (command_word command) rows
holds_by rows (Create folder history) words = (is_there (codes "folder") rows folder.now words.0, history, words.1)
holds_by rows (Run folder checkpoints wait) words = tt
holds_by rows (Serve words) serving = (words, serving)
holds_by rows (Compact folder wait) words = is_there (codes "folder") rows folder.now words.0
holds_by rows (AskList folder read_only wait) words = is_there (codes "folder") rows folder.now words.0
holds_by rows (Verify folder recording read_only wait) words = is_there (codes "folder") rows folder.now words.folder_is
holds_by rows (Describe folder recording json) words = is_there (codes "folder") rows folder.now words.folder_is
holds_by rows (Export folder recording from to pcap) words = (folder.now, recording, from, to, pcap.now, words)
holds_by rows (Frames file) words = is_there (codes "file") rows file.now words
holds_by rows (Ask words) asking = (words, asking)
holds_by rows (When folder recording time) words = (folder.now, recording, time.now, words)

asked_by : (word name : Text) (rows : List Row) (command : ToolCommand) → name ≡ word → IsAsked name rows command → HoldsBy word rows
asked_by word name rows command is asked = subst (λ w. HoldsBy w rows) (sym asked.named ∙ is) (holds_by rows command asked.words)

-- where the rows lack what a command of that word holds, they hold no command of it
pub lacks_words : (word name : Text) (rows : List Row) → name ≡ word → (HoldsBy word rows → ⊥) → (command : ToolCommand) → IsAsked name rows command → ⊥
lacks_words word name rows is none command asked = none (asked_by word name rows command is asked)

pub no_history : (name : Text) (rows : List Row) → name ≡ codes "create" → ((n : ℕ) → IsSomeAnd (one_of (codes "history") rows) (IsNumber n) → ⊥) → (command : ToolCommand) → IsAsked name rows command → ⊥
no_history name rows is none = lacks_words (codes "create") name rows is (λ holds. none holds.1 holds.2)

-- if the words of `export` lack one, the rows hold no command of its name
pub no_export : (rows : List Row)
    → ((folder : Text) (recording : ℤ) (from to : Option ℤ) (pcap : Text) → IsExporting rows folder recording from to pcap → ⊥)
    → (command : ToolCommand) → IsAsked (codes "export") rows command → ⊥
no_export rows none = lacks_words (codes "export") (codes "export") rows refl (λ (folder, recording, from, to, pcap, words). none folder recording from to pcap words)

-- the same of `when`
pub no_when : (rows : List Row) → ((folder : Text) (recording : ℤ) (time : Text) → IsLookingUp rows folder recording time → ⊥)
    → (command : ToolCommand) → IsAsked (codes "when") rows command → ⊥
no_when rows none = lacks_words (codes "when") (codes "when") rows refl (λ (folder, recording, time, words). none folder recording time words)

-- if the rows hold no folder, they hold no command `verify` or `describe`
pub no_folder : (word : Text) (rows : List Row) → (HoldsBy word rows ≡ (first_of (codes "folder") rows ≢ None)) → first_of (codes "folder") rows ≡ None
    → (command : ToolCommand) → IsAsked word rows command → ⊥
no_folder word rows is none = lacks_words word word rows refl (λ holds. subst (λ (T : Type 0). T) is holds none)

-- if the words of `ask` lack one, the rows hold no command of its name
pub no_ask : (name : Text) (rows : List Row) → name ≡ codes "ask" → ((words : AskWords) → IsAsking rows words → ⊥) → (command : ToolCommand) → IsAsked name rows command → ⊥
no_ask name rows is none = lacks_words (codes "ask") name rows is (λ (words, asking). none words asking)

-- the values that were given are those that the rows hold
pub texts_given : (f : Found) (id : Text) (given got : Option (Bor (List (Bor Text)))) → option_map (λ s. map (λ v. v.now) s.now) given ≡ option_map raw_values (matched_of f id) → given ≡ got
    → all_of id (rows_of f) ≡ option_map (λ s. map (λ v. v.now) s.now) got
texts_given f id given got is same = sym (raw_values-rows f id) ∙ sym is ∙ ap (option_map (λ s. map (λ v. v.now) s.now)) same

-- texts that begin with different letters are two
differ : (a b : Text) → slice_index a 0 ≢ slice_index b 0 → a ≢ b
differ a b letters same = letters (ap (λ t. slice_index t 0) same)

-- a flag that was read is that of the text that the rows hold
pub flag_given : (f : Found) (id : Text) (flag : Bool) → (one_text f id ≡ None → flag ≡ false) → (one_text f id ≡ Some (codes "true") → flag ≡ true)
    → (one_text f id ≡ Some (codes "false") → flag ≡ false) → IsFlag (one_of id (rows_of f)) flag
flag_given f id flag none set unset = subst (λ text. IsFlag text flag) (one_text-rows f id) (record { none = none; set = set; unset = unset })

-- a flag of which no word is said is not set
not_set : IsFlag (Some (codes "false")) false
not_set = record { none = λ e. refl; set = λ e. absurd (differ (codes "false") (codes "true") (λ same. omega arith) (some_same e)); unset = λ e. refl }
  where
    some_same : Some (codes "false") ≡ Some (codes "true") → codes "false" ≡ codes "true"
    some_same e = ap (λ (o : Option Text). unwrap_or o []) e

-- a command after one more argument, which its subcommands don't have too
pub adds_arg : (old new : Command) (a : Arg) (x : App) (r : Rule) → AddsArg old a new → a.global ≡ false → rule_of a ≡ r → IsCommand x old → IsCommand (with_rule x r) new
adds_arg old new a x r added local rule is = record {
  app_is = added.shape local ∙ ap₂ with_rule is.app_is rule;
  local = added.globals ∙ ap₂ (λ (p q : Bool). p || q) is.local local;
}

-- the program's command after one more subcommand, which a result holds
pub adds_one : {E : Type 0} (old new : Command) (sub : Result Command E) (a s : App) → (one : Command) × (sub ≡ Ok one) × AddsSubcommand old one new → app_of old ≡ a → IfOk sub (IsCommand s) → app_of new ≡ with_subcommand a s.top
adds_one old new sub a s (one, is, added) was held =
    let is_sub : IsCommand s one = subst (λ r. IfOk r (IsCommand s)) is held in
    added.shape is_sub.local ∙ ap₂ with_subcommand was (ap (λ (x : App). x.top) is_sub.app_is)

-- the program is one of which clap gives matches and faults
tool_is_simple : is_simple tool_app ≡ true
unfolding clap_on_literals
tool_is_simple = refl

tool_is_free : is_simple_and_free tool_app ≡ true
unfolding clap_on_literals
tool_is_free = refl

-- the word of a command with its folder or file is taken, and its matches hold the command
run_alone_taken : (program : Text) → fault_of tool_app (program ∷ codes "run" ∷ []) ≡ []
unfolding clap_on_literals
run_alone_taken program = refl

run_alone_met : (program : Text) → IsMet (subcommand_of tool_app (program ∷ codes "run" ∷ [])) (Run None false None)
unfolding clap_on_literals
run_alone_met program = record { named = refl; words = (refl, not_set, tt) }

usual_history : IsNumber 1048576 (codes "1048576")
usual_history = (search rules, refl, omega arith)

create_taken : (program text : Text) → IsPlainWord text → fault_of tool_app (program ∷ codes "create" ∷ text ∷ []) ≡ []
unfolding clap_on_literals
create_taken program [] plain = absurd plain
create_taken program (byte ∷ bytes) plain = simp (ne_eqb byte 45 plain) refl

create_met : (program text : Text) (folder : Bor Text) → IsPlainWord text → folder.now ≡ text → IsMet (subcommand_of tool_app (program ∷ codes "create" ∷ text ∷ [])) (Create folder 1048576)
unfolding clap_on_literals
create_met program [] folder plain is = absurd plain
create_met program (byte ∷ bytes) folder plain is = simp (ne_eqb byte 45 plain) (record { named = refl; words = (ap (λ t. Some t) (sym is), usual_history) })

run_taken : (program text : Text) → IsPlainWord text → fault_of tool_app (program ∷ codes "run" ∷ text ∷ []) ≡ []
unfolding clap_on_literals
run_taken program [] plain = absurd plain
run_taken program (byte ∷ bytes) plain = simp (ne_eqb byte 45 plain) refl

run_met : (program text : Text) (folder : Bor Text) → IsPlainWord text → folder.now ≡ text → IsMet (subcommand_of tool_app (program ∷ codes "run" ∷ text ∷ [])) (Run (Some folder) false None)
unfolding clap_on_literals
run_met program [] folder plain is = absurd plain
run_met program (byte ∷ bytes) folder plain is = simp (ne_eqb byte 45 plain) (record { named = refl; words = (ap (λ t. Some t) (sym is), not_set, tt) })

list_taken : (program text : Text) → IsPlainWord text → fault_of tool_app (program ∷ codes "list" ∷ text ∷ []) ≡ []
unfolding clap_on_literals
list_taken program [] plain = absurd plain
list_taken program (byte ∷ bytes) plain = simp (ne_eqb byte 45 plain) refl

list_met : (program text : Text) (folder : Bor Text) → IsPlainWord text → folder.now ≡ text → IsMet (subcommand_of tool_app (program ∷ codes "list" ∷ text ∷ [])) (AskList folder false None)
unfolding clap_on_literals
list_met program [] folder plain is = absurd plain
list_met program (byte ∷ bytes) folder plain is = simp (ne_eqb byte 45 plain) (record { named = refl; words = (ap (λ t. Some t) (sym is), not_set, tt) })

verify_taken : (program text : Text) → IsPlainWord text → fault_of tool_app (program ∷ codes "verify" ∷ text ∷ []) ≡ []
unfolding clap_on_literals
verify_taken program [] plain = absurd plain
verify_taken program (byte ∷ bytes) plain = simp (ne_eqb byte 45 plain) refl

verify_met : (program text : Text) (folder : Bor Text) → IsPlainWord text → folder.now ≡ text → IsMet (subcommand_of tool_app (program ∷ codes "verify" ∷ text ∷ [])) (Verify folder None false None)
unfolding clap_on_literals
verify_met program [] folder plain is = absurd plain
verify_met program (byte ∷ bytes) folder plain is = simp (ne_eqb byte 45 plain) (record {
  named = refl;
  words = record { folder_is = ap (λ t. Some t) (sym is); recording_is = tt; read_only_is = not_set; wait_is = tt };
})

describe_taken : (program text : Text) → IsPlainWord text → fault_of tool_app (program ∷ codes "describe" ∷ text ∷ []) ≡ []
unfolding clap_on_literals
describe_taken program [] plain = absurd plain
describe_taken program (byte ∷ bytes) plain = simp (ne_eqb byte 45 plain) refl

describe_met : (program text : Text) (folder : Bor Text) → IsPlainWord text → folder.now ≡ text → IsMet (subcommand_of tool_app (program ∷ codes "describe" ∷ text ∷ [])) (Describe folder None false)
unfolding clap_on_literals
describe_met program [] folder plain is = absurd plain
describe_met program (byte ∷ bytes) folder plain is = simp (ne_eqb byte 45 plain) (record {
  named = refl;
  words = record { folder_is = ap (λ t. Some t) (sym is); recording_is = tt; json_is = not_set };
})

frames_taken : (program text : Text) → IsPlainWord text → fault_of tool_app (program ∷ codes "frames" ∷ text ∷ []) ≡ []
unfolding clap_on_literals
frames_taken program [] plain = absurd plain
frames_taken program (byte ∷ bytes) plain = simp (ne_eqb byte 45 plain) refl

frames_met : (program text : Text) (folder : Bor Text) → IsPlainWord text → folder.now ≡ text → IsMet (subcommand_of tool_app (program ∷ codes "frames" ∷ text ∷ [])) (Frames folder)
unfolding clap_on_literals
frames_met program [] folder plain is = absurd plain
frames_met program (byte ∷ bytes) folder plain is = simp (ne_eqb byte 45 plain) (record { named = refl; words = ap (λ t. Some t) (sym is) })

compact_taken : (program text : Text) → IsPlainWord text → fault_of tool_app (program ∷ codes "compact" ∷ text ∷ []) ≡ []
unfolding clap_on_literals
compact_taken program [] plain = absurd plain
compact_taken program (byte ∷ bytes) plain = simp (ne_eqb byte 45 plain) refl

compact_met : (program text : Text) (folder : Bor Text) → IsPlainWord text → folder.now ≡ text → IsMet (subcommand_of tool_app (program ∷ codes "compact" ∷ text ∷ [])) (Compact folder None)
unfolding clap_on_literals
compact_met program [] folder plain is = absurd plain
compact_met program (byte ∷ bytes) folder plain is = simp (ne_eqb byte 45 plain) (record { named = refl; words = (ap (λ t. Some t) (sym is), tt) })

held_alone : (program : Text) (command : ToolCommand) → IsPlain command → IsHeld (program ∷ words_of command) command
held_alone program (Create folder history) plain = subst (λ n. IsHeld (program ∷ codes "create" ∷ folder.now ∷ []) (Create folder n)) (sym plain.1)
    (record { taken = create_taken program folder.now plain.0; met = create_met program folder.now folder plain.0 refl })
held_alone program (Run None checkpoints wait) (flag, waits) = rw (flag, waits)
    (record { taken = run_alone_taken program; met = run_alone_met program })
held_alone program (Run (Some folder) checkpoints wait) (plain, flag, waits) = rw (flag, waits)
    (record { taken = run_taken program folder.now plain; met = run_met program folder.now folder plain refl })
held_alone program (Serve words) plain = absurd plain
held_alone program (Compact folder wait) plain = subst (λ w. IsHeld (program ∷ codes "compact" ∷ folder.now ∷ []) (Compact folder w)) (sym plain.1)
    (record { taken = compact_taken program folder.now plain.0; met = compact_met program folder.now folder plain.0 refl })
held_alone program (AskList folder read_only wait) (plain, flag, waits) = rw (flag, waits)
    (record { taken = list_taken program folder.now plain; met = list_met program folder.now folder plain refl })
held_alone program (Verify folder recording read_only wait) (plain, one, flag, waits) = rw (one, flag, waits)
    (record { taken = verify_taken program folder.now plain; met = verify_met program folder.now folder plain refl })
held_alone program (Describe folder recording json) (plain, one, flag) = rw (one, flag)
    (record { taken = describe_taken program folder.now plain; met = describe_met program folder.now folder plain refl })
held_alone program (Export folder recording from to pcap) plain = absurd plain
held_alone program (Ask words) plain = absurd plain
held_alone program (When folder recording time) plain = absurd plain
held_alone program (Frames file) plain = record { taken = frames_taken program file.now plain; met = frames_met program file.now file plain refl }

pub plain_is_held : (words : List Text) (program : Text) (command : ToolCommand) → IsPlain command → words ≡ program ∷ words_of command → IsHeld words command
plain_is_held words program command plain is = subst (λ given. IsHeld given command) (sym is) (held_alone program command plain)

-- words hold the command that clap's matches of them hold, and none where these hold none
met_is : (words : List Text) (app : App) (m : ArgMatches) → app ≡ tool_app → HasMatchesOf app words m → subcommand_rows_of m ≡ subcommand_of tool_app words
met_is words app m is parsed = (subst (λ (a : App). HasMatchesOf a words m) is parsed tool_is_simple).1

pub holds : (words : List Text) (app : App) (m : ArgMatches) (command : ToolCommand) → app ≡ tool_app → HasMatchesOf app words m
    → IsMet (subcommand_rows_of m) command → IsMet (subcommand_of tool_app words) command
holds words app m command is parsed = subst (λ met. IsMet met command) (met_is words app m is parsed)

pub holds_none : (words : List Text) (app : App) (m : ArgMatches) → app ≡ tool_app → HasMatchesOf app words m
    → ((command : ToolCommand) → IsMet (subcommand_rows_of m) command → ⊥) → (command : ToolCommand) → IsHeld words command → ⊥
holds_none words app m is parsed none command held = none command (subst (λ met. IsMet met command) (sym (met_is words app m is parsed)) held.met)

-- the kind of a fault in the words
pub words_fault : (kinds : Kinds) (e : Error) → HasKind kinds e → IsWordsFault kinds (kind_of e)
words_fault [] e (inl memory) = inr memory
words_fault [] e (inr none) = absurd none
words_fault (k ∷ ks) e (inl memory) = inr memory
words_fault (k ∷ ks) e (inr among) = inl among

pub memory_fault : {A : Type 0} (kinds : Kinds) (r : Result A Error) → IfErr r (λ e. kind_of e ≡ OutOfMemory) → IfErr r (λ e. IsWordsFault kinds (kind_of e))
memory_fault kinds (Ok x) h = tt
memory_fault kinds (Err e) h = words_fault kinds e (inl h)

-- where clap takes the words, that a command is missing is the fault
pub missing_fault : (kinds : Kinds) (e : Error) → kinds ≡ [] → kind_of e ≡ MissingSubcommand → IsWordsFault kinds (kind_of e)
missing_fault kinds e none is = subst (λ ks. IsWordsFault ks (kind_of e)) (sym none) (inl is)

pub fails_by : {A : Type 0} (app : App) (words : List Text) (r : Result A Error) → app ≡ tool_app
    → (is_simple_and_free app ≡ true → FailsBy (fault_of app words) r) → FailsBy (fault_of tool_app words) r
fails_by app words r is kinds = subst (λ (a : App). FailsBy (fault_of a words) r) is (kinds (ap is_simple_and_free is ∙ tool_is_free))

-- words without a fault are refused for want of memory
pub only_memory : (kinds : Kinds) (e : Error) → HasKind kinds e → kinds ≡ [] → kind_of e ≡ OutOfMemory
only_memory kinds e (inl memory) none = memory
only_memory [] e (inr among) none = absurd among
only_memory (k ∷ ks) e (inr among) none = cc
