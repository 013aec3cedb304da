-- Words that hold a command are refused for want of memory alone.
use Rattle.std.proofs.Common.{◌≡◌, map, Option, Some, None, Result, Ok, Err, rules, subst}
use Rattle.std.proofs.lemmas.Result.{IfErr-weaker}
use Rattle.std.specs.Prelude.{string_bytes, IfErr, MatchOption}
use Rattle.clap.specs.declared.parser.matches.ArgMatches.{ArgMatches}
use Rattle.command_line.specs.declared.command.ToolCommand.{ToolCommand}
use Rattle.command_line.proofs.CommandLineLemmas.{fails_by, memory_fault, missing_fault, holds, holds_none, only_memory, plain_is_held, words_fault}
use Rattle.command_line.proofs.command.command_of.Goals as goal

-- a fact of every error is one of the error that is answered
of_any : {A E : Type 0} (P : E → Type 0) (r : Result A E) → ((e : E) → P e) → IfErr r P
of_any P (Ok x) h = tt
of_any P (Err e) h = h e

-- what the matches hold, where they hold a command and where they hold none
some_held : (P : Type 0) (Q : ToolCommand → Type 0) (held : Option ToolCommand) (command : ToolCommand) → MatchOption held P Q → held ≡ Some command → Q command
some_held P Q held command h is = subst (λ (o : Option ToolCommand). MatchOption o P Q) is h

none_held : (P : Type 0) (Q : ToolCommand → Type 0) (held : Option ToolCommand) → MatchOption held P Q → held ≡ None → P
none_held P Q held h is = subst (λ (o : Option ToolCommand). MatchOption o P Q) is h

pub returns-in_err-tool-clause-kind : goal.returns-in_err-tool-clause-kind
returns-in_err-tool-clause-kind c = memory_fault _ c.from_residual.result (search rules)

pub returns-in_err-command-clause-kind : goal.returns-in_err-command-clause-kind
returns-in_err-command-clause-kind c = memory_fault _ c.from_residual-in_err-command.result (search rules)

pub returns-in_err-command-clause-refused : goal.returns-in_err-command-clause-refused
returns-in_err-command-clause-refused c = IfErr-weaker c.from_residual-in_err-command.result _ _ (λ e memory command held. memory) (search rules)

pub returns-in_err-command-clause-alone : goal.returns-in_err-command-clause-alone
returns-in_err-command-clause-alone c = IfErr-weaker c.from_residual-in_err-command.result _ _ (λ e memory program command plain is. memory) (search rules)

pub returns-in-Err-clause-kind : goal.returns-in-Err-clause-kind
returns-in-Err-clause-kind c = words_fault _ c.in-Err.error (fails_by {A = ArgMatches} _ _ (Err c.in-Err.error) c.in_ok-tool.ensures c.in-Err.ensures.kinds)

pub returns-in-Err-clause-refused : goal.returns-in-Err-clause-refused
returns-in-Err-clause-refused c = λ command held.
    only_memory _ c.in-Err.error (fails_by {A = ArgMatches} _ (map string_bytes c.args.words.now) (Err c.in-Err.error) c.in_ok-tool.ensures c.in-Err.ensures.kinds) held.taken

pub returns-in-Err-clause-alone : goal.returns-in-Err-clause-alone
returns-in-Err-clause-alone c = λ program command plain is.
    only_memory _ c.in-Err.error (fails_by {A = ArgMatches} _ (map string_bytes c.args.words.now) (Err c.in-Err.error) c.in_ok-tool.ensures c.in-Err.ensures.kinds)
    (plain_is_held _ program command plain is).taken

pub returns-in-Some-clause-held : goal.returns-in-Some-clause-held
returns-in-Some-clause-held c = record {
  taken = fails_by _ _ (Ok c.in-Ok.matches) c.in_ok-tool.ensures c.in-Ok.ensures.kinds;
  met = holds (map string_bytes c.args.words.now) _ c.in-Ok.matches c.in-Some.command c.in_ok-tool.ensures c.in-Ok.ensures.ok.2 (some_held _ _ _ c.in-Some.command c.in_ok-command.ensures c.in-Some.is);
}

pub returns-in_err-error-in-None-clause-refused : goal.returns-in_err-error-in-None-clause-refused
returns-in_err-error-in-None-clause-refused c =
    let none = holds_none (map string_bytes c.args.words.now) _ c.in-Ok.matches c.in_ok-tool.ensures c.in-Ok.ensures.ok.2 (none_held _ _ _ c.in_ok-command.ensures c.in-None.is) in
    of_any _ c.from_residual-in_err-error-in-None.result (λ e command held. absurd (none command held))

pub returns-in_err-error-in-None-clause-alone : goal.returns-in_err-error-in-None-clause-alone
returns-in_err-error-in-None-clause-alone c =
    let none = holds_none (map string_bytes c.args.words.now) _ c.in-Ok.matches c.in_ok-tool.ensures c.in-Ok.ensures.ok.2 (none_held _ _ _ c.in_ok-command.ensures c.in-None.is) in
    of_any _ c.from_residual-in_err-error-in-None.result (λ e program command plain is. absurd (none command (plain_is_held _ program command plain is)))

pub returns-clause-refused : goal.returns-clause-refused
returns-clause-refused c = λ command held.
    absurd (holds_none (map string_bytes c.args.words.now) _ c.in-Ok.matches c.in_ok-tool.ensures c.in-Ok.ensures.ok.2 (none_held _ _ _ c.in_ok-command.ensures c.in-None.is) command held)

pub returns-clause-alone : goal.returns-clause-alone
returns-clause-alone c = λ program command plain is.
    absurd (holds_none (map string_bytes c.args.words.now) _ c.in-Ok.matches c.in_ok-tool.ensures c.in-Ok.ensures.ok.2 (none_held _ _ _ c.in_ok-command.ensures c.in-None.is) command (plain_is_held _ program command plain is))

pub returns-in_err-error-in-None-clause-kind : goal.returns-in_err-error-in-None-clause-kind
returns-in_err-error-in-None-clause-kind c = memory_fault _ c.from_residual-in_err-error-in-None.result (search rules)

pub returns-clause-kind : goal.returns-clause-kind
returns-clause-kind c = missing_fault _ c.in_ok-error-in-None.field-0
    (fails_by _ (map string_bytes c.args.words.now) (Ok c.in-Ok.matches) c.in_ok-tool.ensures c.in-Ok.ensures.kinds) c.in_ok-error-in-None.ensures.kind
