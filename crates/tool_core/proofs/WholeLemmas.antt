-- A script from its opening to the disk that comes back.
use Rattle.std.proofs.Common.{◌≡◌, ◌∙◌, ℕ, Bool, List, Option, Result, Ok, Err, IsTrue, ap, refl, subst, sym}
use Rattle.std.specs.Prelude.{IfErr, OnOk}
use Rattle.std.proofs.KnownBytes.{Keeps-refl}
use Rattle.disk_core.specs.declared.disk.Disk as Disk
use Rattle.disk_core.specs.Life.{Life}
use Rattle.tool_core.specs.declared.archive.ScriptArchive.{ScriptArchive}
use Rattle.tool_core.specs.declared.archive.ScriptArchive.TheVariants as archives
use Rattle.tool_core.specs.declared.fault.EarlyEnd.{EarlyEnd}
use Rattle.tool_core.specs.declared.observer.Beginning.{Beginning}
use Rattle.catalogue_log.specs.LogState.{Banks}
use Rattle.tool_core.specs.declared.state.ScriptState.{ScriptState}
use Rattle.tool_core.specs.Answering.{AnswersFirstLines, AnswersLines, Checkpointing, EndsEarly, Ways, begun_with, checkpointing_seen, ways_seen}
use Rattle.tool_core.specs.Archives.{BeginsAs, IsScriptBy, ReadsMayStay, SeenArchive, archive_seen, archive_ways, life_of}
use Rattle.tool_core.specs.Script.{Begins, IsTranscriptBy}
use Rattle.tool_core.specs.Checkpoints.{exact_checkpoints, script_checkpoints}
use Rattle.tool_core.specs.ScriptLines.{Standing, exact_ways}
use Rattle.tool_core.specs.Transcript.{WritesText}
use Rattle.tool_core.proofs.EndLemmas.{early_as, writes_as}
use Rattle.tool_core.proofs.ScriptLemmas.{each_exact, transcript}
use Rattle.tool_core.proofs.SeenLemmas.{AnyIs, IsView, each_seen}
use Rattle.tool_core.proofs.SimulationLemmas.{OfStates, first_lines_as, lines_as}
use Rattle.tool_core.proofs.OpeningLemmas.{OneState}
use Rattle.tool_core.proofs.StandingLemmas.{IsOfDisk}

-- what is so of each archive of a disk
pub seen_of_disk : {D : Type 0} {dg : Disk.Ghosts D} (life : D → Life) → ((disk : D) → ReadsMayStay (life disk)) → (archive : ScriptArchive D dg) → IsOfDisk (archive_seen life archive)
seen_of_disk life stays (archives.Open engine) = record { tied = engine.archive.tied; stays = stays engine.archive.storage.disk }
seen_of_disk life stays (archives.Closed disk) = stays disk

module _ (makes : Bool) {A : Type 0} (view : A → SeenArchive) (old : Life) (input contents written : Option (List ℕ)) (first : A) (last : ScriptState A) (beginning : Beginning) (begins : BeginsAs old beginning (view first)) (begun : ScriptState A) (is_begun : begun ≡ begun_with first) (new : Life) (left : new ≡ life_of (view last.archive)) where
  abbrev ways : Ways A
  ways = ways_seen view archive_ways

  abbrev checkpoints : Checkpointing A
  checkpoints = checkpointing_seen view (script_checkpoints makes)

  -- what is seen of lines that are answered so
  script_by : (Answer : ScriptState A → ScriptState A → List (List ℕ) → List ℕ → Type 0) (Seen : ScriptState SeenArchive → ScriptState SeenArchive → List (List ℕ) → List ℕ → Type 0) (lines : List (List ℕ)) (text : List ℕ)
      → OfStates (λ (a : A). AnyIs a) (IsView view) (λ s t. Answer s t lines text) (λ x y. Seen x y lines text) → Answer (begun_with first) last lines text → IsScriptBy Seen old new lines text
  script_by Answer Seen lines text follows answers =
      let done = follows (begun_with first) last answers tt in
      let end = done.1 (begun_with (view first)) (refl, refl) in
      record { first = view first; beginning = beginning; begins = begins; last = end.0; answers = end.2; left = left ∙ ap (λ (x : SeenArchive). life_of x) (sym end.1.0) }

  -- what the text is, whatever the archive is, and exactly
  abbrev Whole : List (List ℕ) → List ℕ → Type 0
  Whole = IsScriptBy (AnswersLines archive_ways (script_checkpoints makes)) old new

  abbrev Early : List (List ℕ) → List ℕ → Type 0
  Early = IsScriptBy (AnswersFirstLines archive_ways (script_checkpoints makes)) old new

  abbrev Exact : Standing → Banks → List (List ℕ) → List ℕ → Type 0
  Exact standing banks = IsTranscriptBy (AnswersLines exact_ways (exact_checkpoints makes)) standing banks old new

  abbrev ExactEarly : Standing → Banks → List (List ℕ) → List ℕ → Type 0
  ExactEarly standing banks = IsTranscriptBy (AnswersFirstLines exact_ways (exact_checkpoints makes)) standing banks old new

  -- what was answered, over the archive of the disk
  module _ (result : Result (Unit {0}) EarlyEnd) (done : Unit {0}) (is : result ≡ Ok done) (answers : OnOk result (WritesText input contents written (AnswersLines ways checkpoints begun last))) where
    answered : WritesText input contents written (AnswersLines ways checkpoints (begun_with first) last)
    answered =
        subst (λ (s : ScriptState A). WritesText input contents written (AnswersLines ways checkpoints s last)) is_begun
        (subst (λ (r : Result (Unit {0}) EarlyEnd). OnOk r (WritesText input contents written (AnswersLines ways checkpoints begun last))) is answers)

    pub whole : WritesText input contents written Whole
    whole = writes_as input contents written written (AnswersLines ways checkpoints (begun_with first) last) Whole
        (λ lines text. script_by (AnswersLines ways checkpoints) (AnswersLines archive_ways (script_checkpoints makes)) lines text (lines_as _ _ ways archive_ways checkpoints (script_checkpoints makes) (each_seen view archive_ways (script_checkpoints makes)) lines text)) (Keeps-refl written)
        answered

    -- exactly, where the disk obeys
    pub kept : OneState → ((archive : A) → IsOfDisk (view archive)) → ReadsMayStay old → (standing : Standing) (banks : Banks) → Begins old standing banks → IsTrue new.obeys → WritesText input contents written (Exact standing banks)
    kept one_state of_disk may standing banks from obeys = writes_as input contents written written (AnswersLines ways checkpoints (begun_with first) last) (Exact standing banks)
        (λ lines text answers. transcript makes view of_disk (AnswersLines ways checkpoints) (AnswersLines exact_ways (exact_checkpoints makes)) lines text (lines_as _ _ ways exact_ways checkpoints (exact_checkpoints makes) (each_exact makes view of_disk) lines text)
        one_state old new first beginning begins may standing banks from last left (subst (λ (l : Life). IsTrue l.obeys) left obeys) answers) (Keeps-refl written) answered

  -- the same of the first lines
  module _ (early_end end : EarlyEnd) (ends : early_end ≡ end) (result : Result (Unit {0}) EarlyEnd) (is : result ≡ Err end) (answers : IfErr result (λ end. EndsEarly end (AnswersFirstLines ways checkpoints begun last) input contents written)) where
    answered_first : EndsEarly early_end (AnswersFirstLines ways checkpoints (begun_with first) last) input contents written
    answered_first =
        subst (λ (s : ScriptState A). EndsEarly early_end (AnswersFirstLines ways checkpoints s last) input contents written) is_begun
        (subst (λ (e : EarlyEnd). EndsEarly e (AnswersFirstLines ways checkpoints begun last) input contents written) (sym ends)
        (subst (λ (r : Result (Unit {0}) EarlyEnd). IfErr r (λ end. EndsEarly end (AnswersFirstLines ways checkpoints begun last) input contents written)) is answers))

    pub early : EndsEarly early_end Early input contents written
    early = early_as early_end input contents written written (AnswersFirstLines ways checkpoints (begun_with first) last) Early
        (λ lines text. script_by (AnswersFirstLines ways checkpoints) (AnswersFirstLines archive_ways (script_checkpoints makes)) lines text (first_lines_as _ _ ways archive_ways checkpoints (script_checkpoints makes) (each_seen view archive_ways (script_checkpoints makes)) lines text)) (Keeps-refl written)
        answered_first

    pub kept_early : OneState → ((archive : A) → IsOfDisk (view archive)) → ReadsMayStay old → (standing : Standing) (banks : Banks) → Begins old standing banks → IsTrue new.obeys → EndsEarly early_end (ExactEarly standing banks) input contents written
    kept_early one_state of_disk may standing banks from obeys = early_as early_end input contents written written (AnswersFirstLines ways checkpoints (begun_with first) last) (ExactEarly standing banks)
        (λ lines text answers. transcript makes view of_disk (AnswersFirstLines ways checkpoints) (AnswersFirstLines exact_ways (exact_checkpoints makes)) lines text (first_lines_as _ _ ways exact_ways checkpoints (exact_checkpoints makes) (each_exact makes view of_disk) lines text)
        one_state old new first beginning begins may standing banks from last left (subst (λ (l : Life). IsTrue l.obeys) left obeys) answers) (Keeps-refl written) answered_first
