-- Checkpoints that a script makes before its lines.
use Rattle.std.proofs.Common.{◌≡◌, ap, refl, sym, subst, inl, inr, Bool, true, false, IsTrue}
use Rattle.std.specs.Prelude.{◌⊎◌, MatchBool, Result}
use Rattle.frame_core.specs.declared.refusal.Refusal.{Refusal}
use Rattle.archive_model.specs.declared.reply.Reply.{Reply}
use Rattle.catalogue_log.specs.LogState.{Banks, banks_of}
use Rattle.control_core.specs.declared.event.Event.TheVariants as events
use Rattle.control_core.specs.Desk.{DeskState}
use Rattle.control_core.specs.Exact.{Archive}
use Rattle.engine_core.specs.Calls.{AnswersEvent}
use Rattle.engine_core.specs.Consistent.{KeepsArchive}
use Rattle.engine_core.specs.Engine.{EngineState}
use Rattle.tool_core.specs.Archives.{Closed, Open, SeenArchive, life_of}
use Rattle.tool_core.specs.Checkpoints.{Checkpoints, ChecksDue, Precedes, PreparesArchive, checkpoint_due, exact_checkpoints, script_checkpoints}
use Rattle.tool_core.specs.Left.{LeavesShut}
use Rattle.tool_core.specs.ScriptLines.{Scene, Standing, opened, unknown}
use Rattle.tool_core.proofs.CallLemmas.{calls_done, still}
use Rattle.tool_core.proofs.StandingLemmas.{Done, IsBanksOf, IsOfDisk, IsScene, IsStanding, at_scene, by_closed, by_open, scene_at, scene_left}

-- one is made where it is due
made_due : (e f : EngineState) (s : Standing) (b : Banks) (due : Bool) → IsStanding (Open e) s → IsBanksOf (Open e) s b → IsTrue f.life.obeys → MatchBool due ((outcome : Result Reply Refusal) × AnswersEvent e f events.Checkpoint outcome) (f ≡ e)
    → Done (Open f) (λ t. MatchBool due (Checkpoints (scene_at (Open e) s b) t) (t ≡ scene_at (Open e) s b))
made_due e f s b true stands told obeys (outcome, answers) = let done = calls_done events.Checkpoint (Open e) (Open f) s b outcome stands told obeys answers in (done.0, done.1, (outcome, done.2))
made_due e f s b false stands told obeys same =
    subst (λ (x : EngineState). Done (Open x) (λ t. t ≡ scene_at (Open e) s b)) (sym same) (scene_at (Open e) s b, at_scene (Open e) s b stands told, refl)

either : (due : Bool) (x t : Scene) → MatchBool due (Checkpoints x t) (t ≡ x) → Checkpoints x t ⊎ (t ≡ x)
either true x t checks = inl checks
either false x t same = inr same

due_done : (old new : SeenArchive) (s : Standing) (b : Banks) → IsStanding old s → IsBanksOf old s b → IsTrue (life_of new).obeys → PreparesArchive old new → Done new (ChecksDue s (scene_at old s b))
due_done (Open e) (Open f) s b stands told obeys makes =
    by_open e (λ (s : Standing). Done (Open f) (ChecksDue s (scene_at (Open e) s b)))
    (λ a keeps. subst (λ (d : DeskState). Done (Open f) (λ t. MatchBool (checkpoint_due d) (Checkpoints (scene_at (Open e) (opened a) b) t) (t ≡ scene_at (Open e) (opened a) b))) keeps.desk (made_due e f (opened a) b (checkpoint_due e.desk) keeps told obeys makes))
    (let done = made_due e f unknown b (checkpoint_due e.desk) tt told obeys makes in (done.0, done.1, either (checkpoint_due e.desk) (scene_at (Open e) unknown b) done.0 done.2)) s stands
due_done (Open e) (Closed disk) s b stands told obeys makes = absurd makes
due_done (Closed disk) new s b stands told obeys same = still disk new s b (ChecksDue s (scene_at (Closed disk) s b)) same stands told
    (by_closed disk (λ (s : Standing). ChecksDue s (scene_at (Closed disk) s b) (scene_at (Closed disk) s b)) (λ a. refl) (λ s u. refl) (λ image why. refl) (inr refl) s stands)

precedes : (makes : Bool) (old new : SeenArchive) (s : Standing) (b : Banks) → IsStanding old s → IsBanksOf old s b → IsTrue (life_of new).obeys → (script_checkpoints makes).before old new → Done new (Precedes makes (scene_at old s b))
precedes true old new s b stands told obeys makes = due_done old new s b stands told obeys makes
precedes false old new s b stands told obeys same = subst (λ (x : SeenArchive). Done x (λ t. t ≡ scene_at old s b)) (sym same) (scene_at old s b, at_scene old s b stands told, refl)

-- and a crash leaves the scene then
pub before_done : (makes : Bool) (old new : SeenArchive) (s : Standing) (b : Banks) → IsOfDisk new → IsStanding old s → IsBanksOf old s b → IsTrue (life_of new).obeys → (script_checkpoints makes).before old new
    → Done new ((exact_checkpoints makes).before (scene_at old s b))
before_done makes old new s b of_disk stands told obeys before =
    let done = precedes makes old new s b stands told obeys before in
    (done.0, done.1, (done.2, scene_left new done.0 of_disk done.1))
