-- The line that quits is read as that.
use Rattle.std.proofs.Common.{◌≡◌, ap, refl, sym, subst, Bool, true, List, ℕ, Result, Ok, Option, Some, None, inl, rules}
use Rattle.std.specs.Prelude.{codes, bytes_eq}
use Rattle.std.specs.Str.{IsUtf8}
use Rattle.std.proofs.lemmas.Str.{IsUtf8-from_ascii, is_utf8-from_IsUtf8}
use Rattle.std.proofs.lemmas.Slice.Eq.{bytes_eq-Decides}
use Rattle.frame_core.specs.declared.refusal.Refusal.{Refusal}
use Rattle.archive_model.specs.declared.reply.Reply.TheVariants.{Bye}
use Rattle.control_lines.specs.declared.line.Line.{Line}
use Rattle.control_lines.specs.declared.line.Line.TheVariants.{Quit}
use Rattle.control_lines.specs.Lines.{line_of, read_of, text_of}
use Rattle.tool_core.specs.declared.state.ScriptState.{ScriptState}
use Rattle.tool_core.specs.Answering.{IsAnswer, Ways, asked, asked_copies, offered, quits}

quit_is_text : text_of (codes "quit") ≡ Ok Quit
unfolding text_of
quit_is_text = refl

quit_is_ascii : IsUtf8 (codes "quit")
quit_is_ascii = IsUtf8-from_ascii (codes "quit") (search rules)

quit_is_read : line_of (codes "quit") ≡ Ok Quit
unfolding line_of read_of
quit_is_read = rw (is_utf8-from_IsUtf8 (codes "quit") quit_is_ascii) quit_is_text

asked_to_quit : (bytes : List ℕ) → bytes_eq bytes (codes "quit") ≡ true → line_of bytes ≡ Ok Quit
asked_to_quit bytes is = subst (λ (b : List ℕ). line_of b ≡ Ok Quit) (sym ((bytes_eq-Decides bytes (codes "quit")).0 is)) quit_is_read

-- its answer is `bye`, and nothing has changed
pub quits_answered : {A : Type 0} (ways : Ways A) (offers : Bool) (line : Option (List ℕ)) (state : ScriptState A) → quits line ≡ true → IsAnswer ways (asked_copies line) state (asked offers line) (Ok Bye) state
quits_answered ways offers None state is = absurd cc
quits_answered ways offers (Some bytes) state is =
    subst (λ (a : Result Line Refusal). IsAnswer ways (asked_copies (Some bytes)) state a (Ok Bye) state) (sym (ap (offered offers) (asked_to_quit bytes is))) (inl (refl, refl))
