-- An archive that is closed, opened, closed, written anew and opened.
use Rattle.std.proofs.Common.{◌≡◌, ◌⊎◌, ◌+◌, ◌<◌, ◌≤◌, ◌^◌, ◌∙◌, ap, refl, inl, inr, sym, subst, ℕ, ℤ, List, IsTrue, Bool, true, false, arith}
use Rattle.std.specs.Prelude.{Option, None, Result, Ok, Err}
use Rattle.frame_core.specs.declared.refusal.Refusal.{Refusal}
use Rattle.frame_core.specs.declared.refusal.Refusal.TheVariants.{ActiveRecording, DeviceFault, HistoryFull, NoMemory, NotCatalogue}
use Rattle.disk_core.specs.DiskImage.{DiskImage, MayLeave, reads}
use Rattle.disk_core.specs.Life.{HasFailed, LeavesOnly, Life}
use Rattle.disk_core.proofs.CallerLemmas.{goes_on_part, now_leaves, weaker}
use Rattle.archive_model.specs.declared.version.BankVersion.TheVariants.{Two}
use Rattle.archive_model.specs.declared.command.Command.TheVariants.{Restart}
use Rattle.archive_model.specs.declared.reply.Reply.{Reply}
use Rattle.archive_model.specs.declared.reply.Reply.TheVariants.{Compacted, Reopened}
use Rattle.archive_model.specs.Commands.{after}
use Rattle.archive_model.specs.Register as register
use Rattle.archive_model.specs.Register.{RegisterState, no_recordings}
use Rattle.archive_model.specs.State.{State, register_of}
use Rattle.catalogue_entries.specs.declared.entry.Entry.{Entry}
use Rattle.catalogue_entries.specs.Fold.{after_entries}
use Rattle.catalogue_entries.specs.Snapshot.{snapshot_of}
use Rattle.catalogue_entries.proofs.CallerLemmas.{none_counts}
use Rattle.catalogue_log.specs.declared.bank.BankHeader.{BankHeader}
use Rattle.catalogue_log.specs.Catalogue.{IsCatalogue, IsOfNoImage, RefusesCatalogue}
use Rattle.catalogue_log.specs.Compacting.{HasSpare, IsCompacted, RefusesCompaction, next_header}
use Rattle.catalogue_log.specs.LogState.{Banks, TellsBanks, banks_of}
use Rattle.catalogue_log.proofs.CallerLemmas.{catalogue_told, not_refused, one_catalogue, told_epoch, told_spare}
use Rattle.control_core.specs.Exact.{Archive, opened_archive}
use Rattle.engine_core.specs.Compacting as engines
use Rattle.engine_core.specs.Consistent.{KeepsArchive}
use Rattle.engine_core.specs.Engine.{DiskGoesOn, EngineState}
use Rattle.engine_core.specs.Opened.{HasOpened}
use Rattle.engine_core.specs.Opening.{ReadsAsBefore}
use Rattle.engine_core.specs.Recovery.{Recovers, RecoversTo}
use Rattle.tool_core.specs.Archives.{Closed, CompactsArchive, CompactsDisk, HasCompacted, IsEngine, Open, OpensDisk, ReadsMayStay, SeenArchive, life_of}
use Rattle.tool_core.specs.Left.{LeavesArchive, LeavesBanks, LeavesBanksOf, LeavesShut}
use Rattle.tool_core.specs.ScriptLines.{BanksAgain, Compacts, IsRestarted, LeavesBetween, LeavesReopening, MayCompact, MayStandAt, ReopensAs, Scene, Standing, WritesAnew, closed, closed_in, compacted, doubtful, next_banks, opened, reopened}
use Rattle.tool_core.proofs.CallLemmas.{none_open, still, unknown_scene}
use Rattle.tool_core.proofs.GoesOnLemmas.{failed_later, goes_further, opens_go_on}
use Rattle.tool_core.proofs.OpeningLemmas.{Again, IsRestartOf, banks_stay, opened_anew, opens_done, stays_closed}
use Rattle.tool_core.proofs.RestartLemmas.{none_active, restart_again}
use Rattle.tool_core.proofs.StandingLemmas.{Done, IsBanksOf, IsOfDisk, IsScene, IsStanding, at_scene, by_open, left_of, recovers_as, scene_at}

-- ---- the archive that was opened first

-- its restart is the same, and so is what a compaction makes of it
module _ (f : Archive) (is : IsRestartOf f) where
  same_restart : after f.state Restart ≡ f.state
  same_restart =
      let state : f.state ≡ after is.read Restart = ap (λ (x : Archive). x.state) is.is in
      ap (λ (s : State). after s Restart) state ∙ restart_again is.read is.well ∙ sym state

  same_compacted : reopened (compacted f) ≡ compacted f
  same_compacted = ap (λ (s : State). opened_archive s 0 f.desk.limit Two) same_restart

  is_certain_now : f.doubt ≡ None
  is_certain_now = ap (λ (x : Archive). x.doubt) is.is

  none_is_active : register.active_count (register_of f.state) ≡ 0
  none_is_active = ap (λ (x : Archive). register.active_count (register_of x.state)) is.is ∙ none_active is.read is.well

-- ---- a catalogue that is written anew

true_or_false : (b : Bool) → (b ≡ true → ⊥) → b ≡ false
true_or_false true not = absurd (not refl)
true_or_false false not = refl

module _ (old new : Life) (f : Archive) (b : Banks) (leaves : LeavesArchive old f) (banks : LeavesBanks old b) (may : MayLeave old.now (reads old.now)) (obeys : IsTrue new.obeys) where
  -- the catalogue that it reads is the archive's
  read_catalogue : (h : BankHeader) (es : List Entry) → IsCatalogue (reads old.now) h es → (h ≡ leaves.header) × (es ≡ leaves.entries)
  read_catalogue h es catalogue = one_catalogue (reads old.now) h leaves.header es leaves.entries catalogue (leaves.catalogue (reads old.now) may)

  read_epoch : (h : BankHeader) (es : List Entry) → IsCatalogue (reads old.now) h es → h.epoch ≡ b.epoch
  read_epoch h es catalogue = told_epoch (reads old.now) b h es (banks (reads old.now) may) catalogue

  read_spare : HasSpare (reads old.now) → b.spare ≡ true
  read_spare spare = (told_spare (reads old.now) b (banks (reads old.now) may)).1 spare

  -- what it leaves
  leaves_anew : IsCompacted old new → engines.Compacts old new (Ok tt) → LeavesArchive new (compacted f)
  leaves_anew w anew = record {
    recovers = λ image left. now_leaves old new (λ image. Recovers image f.state) (anew.any_moment f.state (λ image left. leaves.recovers image left) obeys) image left;
    header = next_header w.header;
    entries = snapshot_of (after_entries no_recordings w.entries);
    catalogue = w.behind;
    counted = sym (none_counts (after_entries no_recordings w.entries));
    limit = leaves.limit ∙ ap (λ (h : BankHeader). h.history_limit) (sym (read_catalogue w.header w.entries w.before.catalogue).0);
    version = refl;
  }

  banks_anew : IsCompacted old new → LeavesBanks new (next_banks b)
  banks_anew w image left =
      subst (λ (n : ℕ). TellsBanks image (record { epoch = n + 1; spare = true })) (read_epoch w.header w.entries w.before.catalogue)
      (catalogue_told image (next_header w.header) (snapshot_of (after_entries no_recordings w.entries)) (w.behind image left) (w.spare_behind image left))

  could_compact : IsCompacted old new → MayCompact b
  could_compact w = (read_spare w.spare, subst (λ (n : ℕ). n + 1 < 2 ^ 64) (read_epoch w.header w.entries w.before.catalogue) w.later)

-- what is answered where the last opening is answered so
abbrev said : Result Reply Refusal → Result Reply Refusal
said (Ok reply) = Ok Compacted
said (Err refusal) = Err refusal

-- the scene of the archive that was opened first, and how a compaction of it ends
abbrev Fresh : EngineState → Archive → Scene
Fresh engine f = scene_at (Open engine) (opened f) (banks_of engine.log)

abbrev Anew : Scene → Archive → Result Reply Refusal → Scene → Type 0
Anew s f outcome t = WritesAnew (HasFailed s.life t.life) f s.banks outcome t.archive t.banks × LeavesBetween s t

module _ (engine : EngineState) (f : Archive) (is : IsRestartOf f) (keeps : KeepsArchive engine f) (leaves : LeavesArchive engine.life f) (banks : LeavesBanks engine.life (banks_of engine.log)) (may : ReadsMayStay engine.life) where
  abbrev old : Life
  old = engine.life

  abbrev b : Banks
  b = banks_of engine.log

  -- while it is written anew, a crash leaves its state
  moments : (disk : Life) (t : Standing) → LeavesOnly old disk (λ image. Recovers image f.state) → LeavesOnly old disk (RecoversTo (λ x. MayStandAt (opened f) x ⊎ MayStandAt t x))
  moments disk t only = weaker old disk _ (λ image. Recovers image f.state) only (λ image recovers. record { state = f.state; is = inl (inl refl); recovers = recovers })

  -- ---- refused

  module _ (back : Life) (obeys : IsTrue back.obeys) where
    -- it stands so then
    stands_so : (refusal : Refusal) (t : Standing) → LeavesShut back t → LeavesBanksOf back t b → LeavesOnly old back (λ image. Recovers image f.state) → WritesAnew (HasFailed old back) f b (Err refusal) t b → Done (Closed back) (Anew (Fresh engine f) f (Err refusal))
    stands_so refusal t left told only ends = (scene_at (Closed back) t b, at_scene (Closed back) t b left told, (ends, moments back t only))

    unwritten : (refusal : Refusal) → engines.Compacts old back (Err refusal) → Done (Closed back) (Anew (Fresh engine f) f (Err refusal))
    unwritten refusal anew = by refusal (anew.refused obeys) anew.kept (λ same. anew.cause (ap (λ (r : Refusal). Err r) same))
      where
        only : LeavesOnly old back (λ image. Recovers image f.state)
        only = anew.any_moment f.state (λ image left. leaves.recovers image left) obeys

        -- nothing has changed
        same : (refusal : Refusal) → ReadsAsBefore old back → WritesAnew (HasFailed old back) f b (Err refusal) (closed f) b → Done (Closed back) (Anew (Fresh engine f) f (Err refusal))
        same refusal before ends = stands_so refusal (closed f) (stays_closed old back f leaves before) (banks_stay old back b banks before) only ends

        -- no catalogue is refused that is there
        wrong : (refusal : Refusal) → (refusal ≡ DeviceFault → ⊥) → (refusal ≡ NoMemory → ⊥) → RefusesCatalogue (reads old.now) refusal → ⊥
        wrong refusal no_fault no_want refuses =
            elim (not_refused (reads old.now) leaves.header leaves.entries refusal (leaves.catalogue (reads old.now) may) refuses) [ inl fault ↦ no_fault fault | inr want ↦ no_want want ]

        none_active_in : (h : BankHeader) (es : List Entry) → IsCatalogue (reads old.now) h es → register.active_count (after_entries no_recordings es) ≡ 0
        none_active_in h es catalogue =
            let recovers = leaves.recovers (reads old.now) may in
            let one = one_catalogue (reads old.now) h recovers.header es recovers.entries catalogue recovers.catalogue in
            ap (λ (ks : List Entry). register.active_count (after_entries no_recordings ks)) one.1 ∙ ap register.active_count recovers.folds ∙ none_is_active f is

        by : (r : Refusal) → RefusesCompaction (reads old.now) r → (r ≡ DeviceFault) ⊎ ReadsAsBefore old back → (r ≡ DeviceFault → HasFailed old back) → Done (Closed back) (Anew (Fresh engine f) f (Err r))
        by ActiveRecording (h, es, catalogue, some) kept cause = let none = none_active_in h es catalogue in absurd (omega (arith, none, some))
        by NotCatalogue (inl refuses) kept cause = absurd (wrong NotCatalogue (λ same. absurd cc) (λ same. absurd cc) refuses)
        by NotCatalogue (inr (h, es, stopped, unusable)) (inl fault) cause = absurd cc
        by NotCatalogue (inr (h, es, stopped, unusable)) (inr before) cause =
            same NotCatalogue before
            (true_or_false b.spare (λ usable. unusable ((told_spare (reads old.now) b (banks (reads old.now) may)).0 usable)), refl, refl)
        by HistoryFull refuses (inl fault) cause = absurd cc
        by HistoryFull (h, es, stopped, spare, last) (inr before) cause =
            same HistoryFull before (
              read_spare old back f b leaves banks may obeys spare,
              subst (λ (n : ℕ). 2 ^ 64 ≤ n + 1) (read_epoch old back f b leaves banks may obeys h es stopped.catalogue) last,
              refl,
              refl,
            )
        by NoMemory refuses (inl fault) cause = absurd cc
        by NoMemory refuses (inr before) cause = same NoMemory before (inl (refl, refl))
        by DeviceFault refuses kept cause =
            stands_so DeviceFault (doubtful f.state f.state)
            (λ image left. record { state = f.state; is = inl refl; recovers = now_leaves old back (λ image. Recovers image f.state) only image left }) tt only (cause refl, refl)
        by r refuses kept cause = absurd (wrong r (λ same. absurd cc) (λ same. absurd cc) refuses)

  -- ---- opened again behind it

  -- what stands at a moment of the opening
  near : (t : Standing) (x : State) → MayStandAt (closed (compacted f)) x ⊎ (MayStandAt t x ⊎ IsRestarted (closed (compacted f)) x) → MayStandAt (opened f) x ⊎ MayStandAt t x
  near t x (inl stood) = inl (inl stood)
  near t x (inr (inl after)) = inr after
  near t x (inr (inr (y, stood, restarted))) = inl (inl (restarted ∙ ap (λ (s : State). after s Restart) stood ∙ same_restart f is))

  written : (faulted wider : Type 0) (disk : Life) (outcome : Result Reply Refusal) (t : Standing) (c : Banks) → (faulted → wider) → MayCompact b → ReopensAs faulted (compacted f) outcome t → BanksAgain disk (closed (compacted f)) (next_banks b) t c
      → WritesAnew wider f b (said outcome) t c
  written faulted wider disk (Ok reply) t c failed may_compact ends again =
      let is_open : t ≡ opened (compacted f) = ends.1 ∙ ap (λ (x : Archive). opened x) (same_compacted f is) in
      (refl, may_compact, is_open, subst (λ (x : Standing). BanksAgain disk (closed (compacted f)) (next_banks b) x c) is_open again)
  written faulted wider disk (Err NoMemory) t c failed may_compact ends again = inr (may_compact, ends, subst (λ (x : Standing). BanksAgain disk (closed (compacted f)) (next_banks b) x c) ends again)
  written faulted wider disk (Err DeviceFault) t c failed may_compact ends again = (failed ends.0, ends.1 ∙ ap (λ (s : State). doubtful f.state s) (same_restart f is))
  written faulted wider disk (Err refusal) t c failed may_compact ends again = absurd ends

  opened_behind : (disk : Life) (new : SeenArchive) (outcome : Result Reply Refusal) → engines.Compacts old disk (Ok tt) → ReadsMayStay disk → IsTrue disk.obeys → IsTrue (life_of new).obeys → DiskGoesOn disk (life_of new)
      → OpensDisk disk outcome new → Done new (Anew (Fresh engine f) f (said outcome))
  opened_behind disk new outcome anew stays wrote obeys later opens =
      let w = anew.compacted wrote in
      let only = anew.any_moment f.state (λ image left. leaves.recovers image left) wrote in
      let done = opens_done disk new (closed (compacted f)) (next_banks b) outcome (leaves_anew old disk f b leaves banks may wrote w anew) (banks_anew old disk f b leaves banks may wrote w) stays obeys opens in
      let t = done.0 in
      let ends = done.2 in (
        t,
        done.1,
        (
          written (HasFailed disk t.life) (HasFailed old t.life) disk outcome t.archive t.banks (failed_later old disk t.life anew.goes_on) (could_compact old disk f b leaves banks may wrote w) ends.0 ends.1,
          goes_on_part old disk t.life _ (RecoversTo (λ x. MayStandAt (closed (compacted f)) x ⊎ (MayStandAt t.archive x ⊎ IsRestarted (closed (compacted f)) x))) (moments disk t.archive only) ends.2
              (λ image. recovers_as _ _ image (λ x. near t.archive x)),
        ),
      )

-- ---- the line

module _ (old : EngineState) (a : Archive) (b : Banks) (is_engine : IsEngine old) (keeps : KeepsArchive old a) (told : b ≡ banks_of old.log) where
  abbrev start : Scene
  start = scene_at (Open old) (opened a) b

  -- what it leaves once it is closed
  left : LeavesShut old.life (closed_in a a.doubt) × LeavesBanksOf old.life (closed_in a a.doubt) b
  left = left_of (Open old) (opened a) b is_engine keeps told

  -- the archive that was opened first
  first_opened : (mid : EngineState) (stopped : ℤ) → HasOpened old.life mid stopped → IsTrue mid.life.obeys → Again old.life mid (closed_in a a.doubt) b (Reopened stopped)
  first_opened mid stopped opens obeys = let is = left in opened_anew old.life mid stopped a a.doubt b is.0 is.1 is_engine.stays opens obeys

  -- what it leaves then
  first_left : (mid : EngineState) (f : Archive) → IsEngine mid → IsRestartOf f → KeepsArchive mid f → LeavesArchive mid.life f × LeavesBanks mid.life (banks_of mid.log)
  first_left mid f is_mid is kept =
      subst (λ (o : Option State). LeavesShut mid.life (closed_in f o) × LeavesBanksOf mid.life (closed_in f o) (banks_of mid.log)) (is_certain_now f is) (left_of (Open mid) (opened f) (banks_of mid.log) is_mid kept refl)

  -- what is done of it then
  then_anew : (mid : EngineState) (stopped : ℤ) (new : SeenArchive) (outcome : Result Reply Refusal) (first : Again old.life mid (closed_in a a.doubt) b (Reopened stopped)) → Done new (Anew (Fresh mid first.archive) first.archive outcome) → Done new (Compacts start outcome)
  then_anew mid stopped new outcome first done = (done.0, done.1, (Ok (Reopened stopped), Fresh mid first.archive, first.ends, (first.archive, refl, done.2.0, done.2.1)))

  -- the catalogue was written anew, and opened so
  done_anew : (disk : Life) (new : SeenArchive) (outcome : Result Reply Refusal) → IsTrue (life_of new).obeys → HasCompacted old.life disk → OpensDisk disk outcome new → Done new (Compacts start (said outcome))
  done_anew disk new outcome obeys done opens =
      let mid = done.engine in
      let later = opens_go_on disk outcome new opens in
      let wrote : IsTrue disk.obeys = later.obeyed obeys in
      let first = first_opened mid done.stopped done.opened (done.anew.goes_on.obeyed wrote) in
      let leaves = first_left mid first.archive done.is first.restart first.keeps in
      then_anew mid done.stopped new (said outcome) first
      (opened_behind mid first.archive first.restart first.keeps leaves.0 leaves.1 done.is.stays disk new outcome done.anew done.stays wrote obeys later opens)

  open_anew : (new : SeenArchive) (outcome : Result Reply Refusal) → IsTrue (life_of new).obeys → CompactsDisk old.life outcome new → Done new (Compacts start outcome)
  open_anew (Open engine) (Ok reply) obeys (is, disk, done, stopped, opens) =
      subst (λ (r : Reply). Done (Open engine) (Compacts start (Ok r))) (sym is) (done_anew disk (Open engine) (Ok (Reopened stopped)) obeys done (stopped, refl, opens))
  open_anew (Closed back) (Ok reply) obeys compacts = absurd compacts
  open_anew (Open engine) (Err refusal) obeys compacts = absurd compacts
  open_anew (Closed back) (Err refusal) obeys (inr (disk, done, shut)) = done_anew disk (Closed back) (Err refusal) obeys done shut
  open_anew (Closed back) (Err refusal) obeys (inl (inl shut)) =
      let is = left in
      let done = opens_done old.life (Closed back) (closed_in a a.doubt) b (Err refusal) is.0 is.1 is_engine.stays obeys shut in
      (done.0, done.1, (Err refusal, done.0, done.2, (refl, refl)))
  open_anew (Closed back) (Err refusal) obeys (inl (inr refuses)) =
      let mid = refuses.engine in
      let first = first_opened mid refuses.stopped refuses.opened (refuses.refused.goes_on.obeyed obeys) in
      let leaves = first_left mid first.archive refuses.is first.restart first.keeps in
      then_anew mid refuses.stopped (Closed back) (Err refusal) first
      (unwritten mid first.archive first.restart first.keeps leaves.0 leaves.1 refuses.is.stays back obeys refusal refuses.refused)

pub compacts_done : (old new : SeenArchive) (s : Standing) (b : Banks) (outcome : Result Reply Refusal) → IsOfDisk old → IsStanding old s → IsBanksOf old s b → IsTrue (life_of new).obeys → CompactsArchive old outcome new
    → Done new (Compacts (scene_at old s b) outcome)
compacts_done (Open old) new s b outcome of_disk stands told obeys compacts =
    by_open old (λ (s : Standing). Done new (Compacts (scene_at (Open old) s b) outcome)) (λ a keeps. open_anew old a b of_disk keeps told new outcome obeys compacts) (unknown_scene new b) s stands
compacts_done (Closed disk) new s b outcome of_disk stands told obeys (is, same) = still disk new s b (Compacts (scene_at (Closed disk) s b) outcome) same stands told (none_open disk s b _ outcome stands is)
