-- What a script's archive does its scenes do, and what a script does is its transcript, where the disk obeys the crash model.
use Rattle.std.proofs.Common.{◌≡◌, refl, Bool, true, false, List, ℕ, IsTrue}
use Rattle.disk_core.specs.Life.{Life}
use Rattle.catalogue_log.specs.LogState.{Banks}
use Rattle.engine_core.specs.Engine.{DiskGoesOn}
use Rattle.tool_core.specs.declared.observer.Beginning.{Beginning}
use Rattle.tool_core.specs.declared.state.ScriptState.{ScriptState}
use Rattle.tool_core.specs.Answering.{begun_with, checkpointing_seen, ways_seen}
use Rattle.tool_core.specs.Archives.{BeginsAs, IsScriptBy, ReadsMayStay, SeenArchive, archive_ways, life_of}
use Rattle.tool_core.specs.Checkpoints.{exact_checkpoints, script_checkpoints}
use Rattle.tool_core.specs.Script.{Begins, IsTranscriptBy}
use Rattle.tool_core.specs.ScriptLines.{Scene, Standing, exact_ways, shut}
use Rattle.tool_core.proofs.BeginLemmas.{Starts, starts}
use Rattle.tool_core.proofs.CallLemmas.{calls_done, terms_done}
use Rattle.tool_core.proofs.CheckpointLemmas.{before_done}
use Rattle.tool_core.proofs.CompactLemmas.{compacts_done}
use Rattle.tool_core.proofs.GoesOnLemmas.{before_goes_on, calls_go_on, compacts_go_on, opens_go_on, same_goes}
use Rattle.tool_core.proofs.OpeningLemmas.{OneState, opens_done}
use Rattle.tool_core.proofs.SimulationLemmas.{EachFollows, Follows, OfStates}
use Rattle.tool_core.proofs.StandingLemmas.{Done, IsBanksOf, IsOfDisk, IsScene, IsStanding, at_scene, from_scene, left_as, left_of, reads_may_stay, scene_at}

offered : (makes : Bool) (archive : SeenArchive) → makes ≡ (script_checkpoints makes).offers archive
offered true archive = refl
offered false archive = refl

module _ (makes : Bool) {A : Type 0} (view : A → SeenArchive) (of_disk : (archive : A) → IsOfDisk (view archive)) where
  -- the disk obeys
  abbrev pub Obeys : A → Type 0
  Obeys a = IsTrue (life_of (view a)).obeys

  -- the scene is that of the archive
  abbrev pub IsAt : A → Scene → Type 0
  IsAt a x = IsScene (view a) x

  -- a step of the archive is one of its scenes
  exactly : (P : SeenArchive → SeenArchive → Type 0) (Q : Scene → Scene → Type 0) → ((old new : SeenArchive) → P old new → DiskGoesOn (life_of old) (life_of new))
      → ((old new : A) (s : Standing) (b : Banks) → IsStanding (view old) s → IsBanksOf (view old) s b → Obeys new → P (view old) (view new) → Done (view new) (Q (scene_at (view old) s b)))
      → Follows Obeys IsAt (λ old new. P (view old) (view new)) Q
  exactly P Q goes_on done old new made obeys =
      let on = goes_on (view old) (view new) made in
      (on.obeyed obeys, λ x is. from_scene (view old) (view new) x Q is (done old new x.archive x.banks is.stands is.banks obeys made))

  pub each_exact : EachFollows Obeys IsAt (ways_seen view archive_ways) exact_ways (checkpointing_seen view (script_checkpoints makes)) (exact_checkpoints makes)
  each_exact = record {
    terms = λ session answer. exactly (λ x y. archive_ways.terms session x answer y) (λ x y. exact_ways.terms session x answer y) (λ old new are. same_goes old new are.1)
        (λ old new s b stands told obeys are. terms_done session (view old) (view new) s b answer stands told are.0 are.1);
    call = λ event outcome. exactly (λ x y. archive_ways.call event x outcome y) (λ x y. exact_ways.call event x outcome y) (λ old new. calls_go_on event old outcome new)
        (λ old new s b stands told obeys answers. calls_done event (view old) (view new) s b outcome stands told obeys answers);
    reopen = λ outcome. exactly (λ x y. archive_ways.reopen x outcome y) (λ x y. exact_ways.reopen x outcome y) (λ old new. opens_go_on (life_of old) outcome new)
        (λ old new s b stands told obeys opens.
        let left = left_of (view old) s b (of_disk old) stands told in
        opens_done (life_of (view old)) (view new) (shut s) b outcome left.0 left.1 (reads_may_stay (view old) (of_disk old)) obeys opens);
    compact = λ outcome. exactly (λ x y. archive_ways.compact x outcome y) (λ x y. exact_ways.compact x outcome y) (λ old new. compacts_go_on old outcome new)
        (λ old new s b stands told obeys compacts. compacts_done (view old) (view new) s b outcome (of_disk old) stands told obeys compacts);
    before = exactly (λ x y. (script_checkpoints makes).before x y) (λ x y. (exact_checkpoints makes).before x y) (before_goes_on makes)
        (λ old new s b stands told obeys before. before_done makes (view old) (view new) s b (of_disk new) stands told obeys before);
    offers = λ a x is. offered makes (view a);
  }

  -- lines that are answered so are answered exactly
  module _ (Answer : ScriptState A → ScriptState A → List (List ℕ) → List ℕ → Type 0) (Exact : ScriptState Scene → ScriptState Scene → List (List ℕ) → List ℕ → Type 0) (lines : List (List ℕ)) (text : List ℕ)
      (follows : OfStates Obeys IsAt (λ s t. Answer s t lines text) (λ x y. Exact x y lines text)) where
    pub transcript : OneState → (old new : Life) (first : A) (beginning : Beginning) → BeginsAs old beginning (view first) → ReadsMayStay old → (standing : Standing) (banks : Banks) → Begins old standing banks → (last : ScriptState A) → new ≡ life_of (view last.archive)
        → Obeys last.archive → Answer (begun_with first) last lines text → IsTranscriptBy Exact standing banks old new lines text
    transcript one_state old new first beginning opens may standing banks begins last left obeys answers =
        let done = follows (begun_with first) last answers obeys in
        let is : Starts old (view first) standing banks = starts one_state old beginning (view first) standing banks may opens done.0 begins in
        let begun : Scene = scene_at (view first) is.begun banks in
        let end = done.1 (begun_with begun) (at_scene (view first) is.begun banks is.stands is.told, refl) in
        record {
          begun = begun;
          begins = record { banks = refl; archive = is.is; any_moment = is.any_moment };
          last = end.0;
          answers = end.2;
          left = left_as new (view last.archive) end.0.archive (of_disk last.archive) left end.1.0;
        }
