-- Calls of a script's archive, from how it stands on.
use Rattle.std.proofs.Common.{◌≡◌, ◌∙◌, sym, ap, refl, subst, ℤ, IsTrue}
use Rattle.std.specs.Prelude.{Result, Ok, Err}
use Rattle.frame_core.specs.declared.geometry.Geometry.{Geometry}
use Rattle.frame_core.specs.declared.refusal.Refusal.{Refusal}
use Rattle.frame_core.specs.declared.refusal.Refusal.TheVariants.{Broken}
use Rattle.disk_core.specs.Life.{Life}
use Rattle.archive_model.specs.declared.reply.Reply.{Reply}
use Rattle.archive_model.specs.State.{State}
use Rattle.catalogue_log.specs.LogState.{Banks, banks_of}
use Rattle.control_core.specs.declared.event.Event.{Event}
use Rattle.control_core.specs.Bytes.{terms_in}
use Rattle.control_core.specs.Desk.{DeskState}
use Rattle.control_core.specs.Exact.{Archive, with_desk}
use Rattle.engine_core.specs.Calls.{AnswersEvent, CallEnded, EndsAs, is_cut}
use Rattle.engine_core.specs.Consistent.{IsCrashConsistent, KeepsArchive}
use Rattle.engine_core.specs.Engine.{EngineState, archive_of, content_of}
use Rattle.tool_core.specs.Archives.{CallsEngine, Closed, Open, SeenArchive, TermsAre, life_of}
use Rattle.tool_core.specs.Merging.{Ends}
use Rattle.tool_core.specs.ScriptLines.{BanksCalled, Calls, KnowsTerms, Scene, Standing, WhereOpen, closed, doubtful, opened, refused, unknown}
use Rattle.tool_core.proofs.BanksLemmas.{called, called_closed}
use Rattle.tool_core.proofs.StandingLemmas.{Done, IsBanksOf, IsStanding, at_scene, by_open, scene_at}

-- an engine that keeps an archive answers an event of it
pub answered_at : (old new : EngineState) (a : Archive) (event : Event) (outcome : Result Reply Refusal) → old.desk ≡ a.desk → IsCrashConsistent old.life old.log a → AnswersEvent old new event outcome → (IsTrue (is_cut event) → IsTrue new.life.obeys)
    → CallEnded old new a (EndsAs old.life new.life event a outcome)
answered_at old new a event outcome desk was answers cut =
    let same : archive_of old (content_of a) ≡ a = ap (λ (d : DeskState). with_desk d a) desk in
    subst (λ (b : Archive). CallEnded old new b (EndsAs old.life new.life event b outcome)) same
    (answers.ends.ended (content_of a) (subst (λ (b : Archive). IsCrashConsistent old.life old.log b) (sym same) was) cut)

-- ---- where none is open

-- nothing changes
pub still : (disk : Life) (new : SeenArchive) (s : Standing) (b : Banks) (Made : Scene → Type 0) → new ≡ Closed disk → IsStanding (Closed disk) s → IsBanksOf (Closed disk) s b → Made (scene_at (Closed disk) s b) → Done new Made
still disk new s b Made same stands told made = subst (λ (x : SeenArchive). Done x Made) (sym same) (scene_at (Closed disk) s b, at_scene (Closed disk) s b stands told, made)

-- it is Broken
pub none_open : (disk : Life) (s : Standing) (b : Banks) (Made : Archive → Ends Scene) (outcome : Result Reply Refusal) → IsStanding (Closed disk) s → outcome ≡ Err Broken
    → WhereOpen Made s (scene_at (Closed disk) s b) outcome (scene_at (Closed disk) s b)
none_open disk (opened a) b Made outcome stands is = absurd stands
none_open disk unknown b Made outcome stands is = refl
none_open disk standing b Made outcome stands is = (is, refl)

-- nothing is known
pub unknown_scene : (new : SeenArchive) (b : Banks) → Done new (λ t. t.archive ≡ unknown)
unknown_scene (Open engine) b = (scene_at (Open engine) unknown (banks_of engine.log), at_scene (Open engine) unknown (banks_of engine.log) tt refl, refl)
unknown_scene (Closed disk) b = (scene_at (Closed disk) unknown b, at_scene (Closed disk) unknown b tt tt, refl)

-- ---- calls

opened_called : (event : Event) (old new : EngineState) (a : Archive) (b : Banks) (outcome : Result Reply Refusal) → KeepsArchive old a → BanksCalled event b outcome (banks_of new.log) → IsTrue new.life.obeys → AnswersEvent old new event outcome
    → Done (Open new) (Calls event (scene_at (Open old) (opened a) b) outcome)
opened_called event old new a b outcome keeps banks obeys answers =
    let ended = answered_at old new a event outcome keeps.desk keeps.consistent answers (λ cut. obeys) in
    let c : Archive = archive_of new ended.after in (
      scene_at (Open new) (opened c) (banks_of new.log),
      at_scene (Open new) (opened c) (banks_of new.log) (record { desk = refl; consistent = ended.consistent }) refl,
      ((c, refl, ended.ends.0 (λ reads. obeys), ended.any_moment), banks),
    )

-- an event, whatever stands
pub calls_done : (event : Event) (old new : SeenArchive) (s : Standing) (b : Banks) (outcome : Result Reply Refusal) → IsStanding old s → IsBanksOf old s b → IsTrue (life_of new).obeys → CallsEngine event old outcome new
    → Done new (Calls event (scene_at old s b) outcome)
calls_done event (Open old) (Open new) s b outcome stands told obeys answers =
    let banks : BanksCalled event b outcome (banks_of new.log) = subst (λ (x : Banks). BanksCalled event x outcome (banks_of new.log)) (sym told) (called event old new.log outcome answers.ends.bank) in
    by_open old (λ (s : Standing). Done (Open new) (Calls event (scene_at (Open old) s b) outcome)) (λ a keeps. opened_called event old new a b outcome keeps banks obeys answers)
    (scene_at (Open new) unknown (banks_of new.log), at_scene (Open new) unknown (banks_of new.log) tt refl, (refl, banks)) s stands
calls_done event (Open old) (Closed disk) s b outcome stands told obeys answers = absurd answers
calls_done event (Closed disk) new s b outcome stands told obeys (is, same) =
    still disk new s b (Calls event (scene_at (Closed disk) s b) outcome) same stands told
    (none_open disk s b _ outcome stands is, subst (λ (o : Result Reply Refusal). BanksCalled event b o b) (sym is) (called_closed event b))

-- ---- terms

knows : (archive : SeenArchive) (s : Standing) (session : ℤ) (terms : Result Geometry Refusal) → IsStanding archive s → TermsAre archive session terms → KnowsTerms s session terms
knows (Open engine) s session terms stands are = by_open engine (λ (s : Standing). KnowsTerms s session terms) (λ a keeps. are ∙ ap (λ (d : DeskState). terms_in d session) keeps.desk) tt s stands
knows (Closed disk) (opened a) session terms stands are = absurd stands
knows (Closed disk) unknown session terms stands are = tt
knows (Closed disk) standing session terms stands are = are

pub terms_done : (session : ℤ) (old new : SeenArchive) (s : Standing) (b : Banks) (terms : Result Geometry Refusal) → IsStanding old s → IsBanksOf old s b → TermsAre old session terms → new ≡ old
    → Done new (λ t. KnowsTerms s session terms × (t ≡ scene_at old s b))
terms_done session old new s b terms stands told are same =
    subst (λ (x : SeenArchive). Done x (λ t. KnowsTerms s session terms × (t ≡ scene_at old s b))) (sym same) (scene_at old s b, at_scene old s b stands told, (knows old s session terms stands are, refl))
