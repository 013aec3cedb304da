-- How a script ends.
use Rattle.std.proofs.Common.{◌≡◌, ℕ, Bool, true, false, List, [], ◌∷◌, Option, Some, None, Result, Ok, Err, refl, sym, subst, inl, length, take_all, le_refl}
use Rattle.std.specs.Io.KnownBytes.{Keeps}
use Rattle.std.proofs.KnownBytes.{Appends-kept, Appends-nil}
use Rattle.std.specs.Prelude.{IfErr, IfSome, OnOk}
use Rattle.tool_core.specs.declared.fault.EarlyEnd.{EarlyEnd}
use Rattle.tool_core.specs.declared.fault.EarlyEnd.TheVariants as ends
use Rattle.tool_core.specs.declared.state.ScriptState.{ScriptState}
use Rattle.tool_core.specs.InputLines.{lines_of}
use Rattle.tool_core.specs.Answering.{AnswersFirstLines, AnswersLines, Checkpointing, EndsEarly, Replies, Ways, ended_by, quits}
use Rattle.tool_core.specs.Transcript.{LeftNear, Transcript, WritesText, until_quit}

-- ---- what is right, told by another word

known_as : (input : Option (List ℕ)) (P Q : List ℕ → Type 0) → ((bytes : List ℕ) → P bytes → Q bytes) → IfSome input P → IfSome input Q
known_as None P Q then is = tt
known_as (Some bytes) P Q then is = then bytes is

-- of a writer that hands on what it has
pub writes_as : (input contents written flushed : Option (List ℕ)) (P Q : List (List ℕ) → List ℕ → Type 0) → ((lines : List (List ℕ)) (text : List ℕ) → P lines text → Q lines text) → Keeps written flushed
    → WritesText input contents written P → WritesText input contents flushed Q
writes_as input contents written flushed P Q follows keeps writes = record {
  text = writes.text;
  appended = Appends-kept contents written flushed writes.text writes.appended keeps;
  right = known_as input (λ bytes. P (lines_of bytes) writes.text) (λ bytes. Q (lines_of bytes) writes.text) (λ bytes. follows (lines_of bytes) writes.text) writes.right;
}

pub early_as : (end : EarlyEnd) (input contents written flushed : Option (List ℕ)) (P Q : List (List ℕ) → List ℕ → Type 0) → ((lines : List (List ℕ)) (text : List ℕ) → P lines text → Q lines text) → Keeps written flushed
    → EndsEarly end P input contents written → EndsEarly end Q input contents flushed
early_as ends.Write input contents written flushed P Q follows keeps early =
    known_as input (λ bytes. (text : List ℕ) × P (lines_of bytes) text) (λ bytes. (text : List ℕ) × Q (lines_of bytes) text) (λ bytes some. (some.0, follows (lines_of bytes) some.0 some.1)) early
early_as ends.Read input contents written flushed P Q follows keeps early = writes_as input contents written flushed P Q follows keeps early
early_as ends.Memory input contents written flushed P Q follows keeps early = writes_as input contents written flushed P Q follows keeps early

-- what was written could not be handed on
unflushed : (input contents written flushed : Option (List ℕ)) (P Q : List (List ℕ) → List ℕ → Type 0) → ((lines : List (List ℕ)) (text : List ℕ) → P lines text → Q lines text) → WritesText input contents written P → EndsEarly ends.Write Q input contents flushed
unflushed input contents written flushed P Q follows writes =
    known_as input (λ bytes. P (lines_of bytes) writes.text) (λ bytes. (text : List ℕ) × Q (lines_of bytes) text) (λ bytes all. (writes.text, follows (lines_of bytes) writes.text all)) writes.right

-- ---- the state that is left

module _ {A : Type 0} (ways : Ways A) (checkpoints : Checkpointing A) (first new : ScriptState A) where
  -- all lines are the first of them
  left_behind : (s : ScriptState A) (lines : List (List ℕ)) → s ≡ new → LeftNear first (λ s. s ≡ new) quits (Replies ways checkpoints) s lines
  left_behind s [] left = left
  left_behind s (line ∷ lines) left = inl left

  all_first : (lines : List (List ℕ)) (text : List ℕ) → AnswersLines ways checkpoints first new lines text → AnswersFirstLines ways checkpoints first new lines text
  all_first lines text all =
      let n : ℕ = length (until_quit quits lines) in (
        n,
        all.0,
        subst (λ ls. Transcript (Replies ways checkpoints) first ls text all.0) (sym (take_all n (until_quit quits lines) (le_refl _))) all.1,
        left_behind all.0 _ all.2,
      )

  -- ---- the end

  -- what lines were answered, by a result
  pub record Ran (input contents written : Option (List ℕ)) (result : Result (Unit {0}) EarlyEnd) : Type 0 where
    pub whole : OnOk result (WritesText input contents written (AnswersLines ways checkpoints first new))
    pub early : IfErr result (λ end. EndsEarly end (AnswersFirstLines ways checkpoints first new) input contents written)

  pub ran_of : (as_input input contents written : Option (List ℕ)) (result : Result (Unit {0}) EarlyEnd) → as_input ≡ input → OnOk result (WritesText as_input contents written (AnswersLines ways checkpoints first new))
      → IfErr result (λ end. EndsEarly end (AnswersFirstLines ways checkpoints first new) as_input contents written) → Ran input contents written result
  ran_of as_input input contents written result same whole early = subst (λ (i : Option (List ℕ)). Ran i contents written result) same (record { whole = whole; early = early })

  -- the lines were read to their end, and what was written was handed on
  pub ends_well : (input contents written flushed : Option (List ℕ)) (result after : Result (Unit {0}) EarlyEnd) (is_flushed : Bool) → Ran input contents written result → after ≡ ended_by result is_flushed → Keeps written flushed
      → OnOk after (WritesText input contents flushed (AnswersLines ways checkpoints first new))
  ends_well input contents written flushed result after is_flushed ran is keeps = subst (λ (r : Result (Unit {0}) EarlyEnd). OnOk r (WritesText input contents flushed (AnswersLines ways checkpoints first new))) (sym is) (by result is_flushed ran)
    where
      by : (result : Result (Unit {0}) EarlyEnd) (is_flushed : Bool) → Ran input contents written result → OnOk (ended_by result is_flushed) (WritesText input contents flushed (AnswersLines ways checkpoints first new))
      by (Ok done) true ran = writes_as input contents written flushed _ _ (λ lines text all. all) keeps ran.whole
      by (Ok done) false ran = tt
      by (Err end) is_flushed ran = tt

  -- or not
  pub ends_early : (input contents written flushed : Option (List ℕ)) (result after : Result (Unit {0}) EarlyEnd) (is_flushed : Bool) → Ran input contents written result → after ≡ ended_by result is_flushed → Keeps written flushed
      → IfErr after (λ end. EndsEarly end (AnswersFirstLines ways checkpoints first new) input contents flushed)
  ends_early input contents written flushed result after is_flushed ran is keeps = subst (λ (r : Result (Unit {0}) EarlyEnd). IfErr r (λ end. EndsEarly end (AnswersFirstLines ways checkpoints first new) input contents flushed)) (sym is) (by result is_flushed ran)
    where
      by : (result : Result (Unit {0}) EarlyEnd) (is_flushed : Bool) → Ran input contents written result → IfErr (ended_by result is_flushed) (λ end. EndsEarly end (AnswersFirstLines ways checkpoints first new) input contents flushed)
      by (Ok done) true ran = tt
      by (Ok done) false ran = unflushed input contents written flushed _ _ all_first ran.whole
      by (Err end) is_flushed ran = early_as end input contents written flushed _ _ (λ lines text some. some) keeps ran.early

-- where there was no memory for a reader's buffer no line is answered
pub none_answered : {A : Type 0} (ways : Ways A) (checkpoints : Checkpointing A) (first : ScriptState A) (input contents : Option (List ℕ)) → EndsEarly ends.Memory (AnswersFirstLines ways checkpoints first first) input contents contents
none_answered ways checkpoints first input contents = record { text = []; appended = Appends-nil contents; right = by input }
  where
    near : (lines : List (List ℕ)) → LeftNear first (λ s. s ≡ first) quits (Replies ways checkpoints) first lines
    near [] = refl
    near (line ∷ lines) = inl refl

    by : (input : Option (List ℕ)) → IfSome input (λ bytes. AnswersFirstLines ways checkpoints first first (lines_of bytes) [])
    by None = tt
    by (Some bytes) = (0, first, (refl, refl), near (until_quit quits (lines_of bytes)))
