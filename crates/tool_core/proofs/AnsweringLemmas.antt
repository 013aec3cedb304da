-- A script's lines are answered one after another, and the writer gains their text.
use Rattle.std.proofs.Common.{◌≡◌, ◌∙◌, true, false, List, ℕ, Option, Result, Ok, Err, refl, sym, ap, subst}
use Rattle.std.specs.Io.KnownBytes.{Appends, IsAtEnd, Keeps}
use Rattle.std.specs.Prelude.{IfErr, MatchResult, OnOk}
use Rattle.frame_core.specs.declared.refusal.Refusal.{Refusal}
use Rattle.archive_model.specs.declared.reply.Reply.{Reply}
use Rattle.tool_core.specs.declared.fault.EarlyEnd.{EarlyEnd}
use Rattle.tool_core.specs.declared.fault.EarlyEnd.TheVariants as ends
use Rattle.tool_core.specs.declared.state.ScriptState.{ScriptState}
use Rattle.tool_core.specs.InputLines.{ReadsLine}
use Rattle.tool_core.specs.Answering.{Checkpointing, EndsEarly, FailsToAnswer, IsAnswer, Prepares, Replies, RepliesTo, Ways, asked, asked_copies, outcome_text, quits}
use Rattle.tool_core.specs.Transcript.{AnswersAll, AnswersSome, WritesText}
use Rattle.tool_core.proofs.ProgressLemmas.{Near, Progress, near-here, near-next, progress-cut, progress-early, progress-end, progress-kept, progress-last, progress-more}

-- ---- one line

told : (contents written : Option (List ℕ)) (outcome : Result Reply Refusal) (result : Result (Unit {0}) EarlyEnd) → OnOk result (Appends contents written (outcome_text outcome)) → IfErr result (λ end. FailsToAnswer end contents written)
    → MatchResult result (λ done. Appends contents written (outcome_text outcome)) (λ end. FailsToAnswer end contents written)
told contents written outcome (Ok done) appended fails = appended
told contents written outcome (Err end) appended fails = fails

module _ {A : Type 0} (ways : Ways A) (checkpoints : Checkpointing A) where
  -- what is written of an answer answers the line
  pub replied : (contents written line : Option (List ℕ)) (old mid new : ScriptState A) (outcome : Result Reply Refusal) (result : Result (Unit {0}) EarlyEnd) → Prepares checkpoints old mid
      → IsAnswer ways (asked_copies line) mid (asked (checkpoints.offers mid.archive) line) outcome new
      → OnOk result (Appends contents written (outcome_text outcome)) → IfErr result (λ end. FailsToAnswer end contents written) → RepliesTo ways checkpoints contents written line old new result
  replied contents written line old mid new outcome result prepared answered appended fails =
      record { reply = outcome_text outcome; answers = (mid, prepared, (outcome, answered, refl)); told = told contents written outcome result appended fails }

  -- ---- lines one after another

  module _ (start : ScriptState A) where
    abbrev pub Came : Option (List ℕ) → Option (List ℕ) → Option (List ℕ) → Option (List ℕ) → ScriptState A → Type 0
    Came = Progress start quits (Replies ways checkpoints)

    -- a line is answered, and the next one is read
    pub one_more : (before now later contents written then line : Option (List ℕ)) (state new : ScriptState A) (result : Result (Unit {0}) EarlyEnd) → Came before now contents written state → ReadsLine now later line
        → RepliesTo ways checkpoints written then line state new result → result ≡ Ok tt → quits line ≡ false → Came before later contents then new
    one_more before now later contents written then line state new result so_far read replied ok more =
        let told : Appends written then replied.reply = subst (λ (r : Result (Unit {0}) EarlyEnd). MatchResult r (λ done. Appends written then replied.reply) (λ end. FailsToAnswer end written then)) ok replied.told in
        progress-more start quits (Replies ways checkpoints) before now later contents written then read.line replied.reply state new so_far read.next told
        (subst (λ l. Replies ways checkpoints state l replied.reply new) read.is_kept replied.answers) (ap quits (sym read.is_kept) ∙ more)

    -- the line that quits is answered
    pub at_quit : (before now later contents written then line : Option (List ℕ)) (state new : ScriptState A) (result : Result (Unit {0}) EarlyEnd) → Came before now contents written state → ReadsLine now later line
        → RepliesTo ways checkpoints written then line state new result → result ≡ Ok tt → quits line ≡ true → WritesText before contents then (AnswersAll start (λ s. s ≡ new) quits (Replies ways checkpoints))
    at_quit before now later contents written then line state new result so_far read replied ok quit =
        let told : Appends written then replied.reply = subst (λ (r : Result (Unit {0}) EarlyEnd). MatchResult r (λ done. Appends written then replied.reply) (λ end. FailsToAnswer end written then)) ok replied.told in
        progress-last start quits (Replies ways checkpoints) (λ s. s ≡ new) before now later contents written then read.line replied.reply state new so_far read.next told
        (subst (λ l. Replies ways checkpoints state l replied.reply new) read.is_kept replied.answers) (ap quits (sym read.is_kept) ∙ quit) refl

    -- no line is left
    pub at_end : (before now contents written : Option (List ℕ)) (state : ScriptState A) → Came before now contents written state → IsAtEnd now → WritesText before contents written (AnswersAll start (λ s. s ≡ state) quits (Replies ways checkpoints))
    at_end before now contents written state so_far end = progress-end start quits (Replies ways checkpoints) (λ s. s ≡ state) before now contents written state so_far end refl

    pub still : (before now contents written then : Option (List ℕ)) (state : ScriptState A) → Came before now contents written state → Keeps written then → Came before now contents then state
    still before now contents written then state so_far keeps = progress-kept start quits (Replies ways checkpoints) before now contents written then state so_far keeps

    -- ---- a script that ends early

    early : (left : ScriptState A) (before now contents written : Option (List ℕ)) (state : ScriptState A) (end : EarlyEnd) → Came before now contents written state → Near start quits (Replies ways checkpoints) (λ s. s ≡ left) now state
        → EndsEarly end (AnswersSome start (λ s. s ≡ left) quits (Replies ways checkpoints)) before contents written
    early left before now contents written state ends.Write so_far near = progress-cut start quits (Replies ways checkpoints) (λ s. s ≡ left) before now contents written state so_far near
    early left before now contents written state ends.Read so_far near = progress-early start quits (Replies ways checkpoints) (λ s. s ≡ left) before now contents written state so_far near
    early left before now contents written state ends.Memory so_far near = progress-early start quits (Replies ways checkpoints) (λ s. s ≡ left) before now contents written state so_far near

    -- before a line is answered
    pub early_here : (before now contents written : Option (List ℕ)) (state : ScriptState A) (end : EarlyEnd) → Came before now contents written state → EndsEarly end (AnswersSome start (λ s. s ≡ state) quits (Replies ways checkpoints)) before contents written
    early_here before now contents written state end so_far = early state before now contents written state end so_far (near-here start quits (Replies ways checkpoints) (λ s. s ≡ state) now state refl)

    -- behind one whose answer was not written
    pub early_unsaid : (before now later contents written then line : Option (List ℕ)) (state new : ScriptState A) (result : Result (Unit {0}) EarlyEnd) (end : EarlyEnd) → Came before now contents written state → ReadsLine now later line
        → RepliesTo ways checkpoints written then line state new result → result ≡ Err end → EndsEarly end (AnswersSome start (λ s. s ≡ new) quits (Replies ways checkpoints)) before contents then
    early_unsaid before now later contents written then line state new result end so_far read replied failed =
        by end (subst (λ (r : Result (Unit {0}) EarlyEnd). MatchResult r (λ done. Appends written then replied.reply) (λ end. FailsToAnswer end written then)) failed replied.told)
      where
        near : Near start quits (Replies ways checkpoints) (λ s. s ≡ new) now state
        near = near-next start quits (Replies ways checkpoints) (λ s. s ≡ new) now later read.line replied.reply state new read.next (subst (λ l. Replies ways checkpoints state l replied.reply new) read.is_kept replied.answers) refl

        by : (end : EarlyEnd) → FailsToAnswer end written then → EndsEarly end (AnswersSome start (λ s. s ≡ new) quits (Replies ways checkpoints)) before contents then
        by ends.Write fails = progress-cut start quits (Replies ways checkpoints) (λ s. s ≡ new) before now contents written state so_far near
        by ends.Read fails = absurd fails
        by ends.Memory fails = early new before now contents then state ends.Memory (progress-kept start quits (Replies ways checkpoints) before now contents written then state so_far fails) near
