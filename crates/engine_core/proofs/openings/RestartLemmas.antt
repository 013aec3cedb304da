-- How the recordings of an archive that is opened stop.
use Rattle.std.proofs.Common.{◌≡◌, ◌≢◌, ◌⊎◌, ◌∙◌, ◌+◌, inl, inr, sym, ap, subst, refl, ℕ, ℤ, pos, negsuc, Bool, true, false, cond, List, [], ◌∷◌, ◌++◌, None, Some, map, arith}
use Rattle.std.specs.Prelude.{Result, Ok, Err, count_by}
use Rattle.std.specs.Ordering.{int_eq}
use Rattle.std.proofs.lemmas.Bool.Decides.{Decides-int_eq}
use Rattle.std.proofs.lemmas.List.{map-id}
use Rattle.std.proofs.lemmas.List.Sums.{sum_by-cons}
use Rattle.engine_core.proofs.Words.{Accepts, AddsBehind, Archive, BankVersion, CallEnded, ChangesBank, ChangesThese, CommitEnds, CommitsEntry, Content, DeskState, DeviceFault, EngineState, Entry, HasEntries, HasFailed, IsAtRest, IsCrashConsistent, IsEither, IsSound, IsWell, LeavesOnly, Life, LogState, MayStandIn, NoMemory, Recording, RecoversTo, Refusal, RegisterState, Registration, Reply, Restart, Restarts, State, after, all_stopped, archive_after, archive_of, bank_file, book_of, broken, content_of, empty, is_active, opened_archive, opened_desk, register_of, registration_of, reply_after, rest_left, started, weaker}
use Rattle.archive_model.specs.declared.registration.Change.TheVariants as changes
use Rattle.archive_model.specs.Acceptance.{BookState}
use Rattle.archive_model.specs.Commands.{restarted, stopped}
use Rattle.archive_model.specs.Register as register
use Rattle.archive_model.specs.State.{active_count}
use Rattle.archive_model.proofs.StateLemmas.{register_follows}
use Rattle.control_core.proofs.ConsistentLemmas.{consistent_opened}
use Rattle.catalogue_entries.specs.declared.entry.Entry.TheVariants as entries
use Rattle.engine_core.specs.Catalogued.{AddsCommand, restarted_entries}
use Rattle.engine_core.proofs.calls.TouchLemmas.{quiet_these, still_quiet}
use Rattle.engine_core.specs.Making.{RestartsBehind}
use Rattle.engine_core.proofs.calls.EndedLemmas.{recovers_as, same_bank, sound_consistent}

-- ---- an archive at which nobody calls yet

pub opened_consistent : (life : Life) (log : LogState) (s : State) (counted limit : ℕ) (version : BankVersion)
    → IsSound life.now log s → IsCrashConsistent life log (opened_archive s counted limit version)
opened_consistent life log s counted limit version sound = sound_consistent life log (opened_archive s counted limit version) sound (consistent_opened s counted limit version sound.well) tt (λ obeys. tt)

-- ---- the restart

-- a register counts as many active recordings as its state
counted_same : (rs : List Recording) → count_by register.is_active (map registration_of rs) ≡ count_by is_active rs
counted_same [] = refl
counted_same (r ∷ rs) =
    sum_by-cons (λ g. cond (register.is_active g) 1 0) (registration_of r) (map registration_of rs) ∙ ap (λ n. cond (is_active r) 1 0 + n) (counted_same rs) ∙ sym (sum_by-cons (λ x. cond (is_active x) 1 0) r rs)

pub active_same : (desk : DeskState) (s : State) (counted limit : ℕ) (version : BankVersion) (stopped : ℤ) → desk ≡ opened_desk (register_of s) counted limit version → stopped ≡ pos (register.active_count desk.register) → stopped ≡ pos (active_count s)
active_same desk s counted limit version stopped is count = count ∙ ap (λ (d : DeskState). pos (register.active_count d.register)) is ∙ ap pos (counted_same s.recordings)

-- what changes only elements of which something holds changes none where it holds of none
unchanged : {X Y : Type 0} (of : X → Y) (test : Y → Bool) (change : X → X) (xs : List X) → ((x : X) → test (of x) ≡ false → change x ≡ x) → count_by test (map of xs) ≡ 0 → map change xs ≡ xs
unchanged of test change [] same none = refl
unchanged of test change (x ∷ xs) same none = by (test (of x)) refl (sym (sum_by-cons (λ y. cond (test y) 1 0) (of x) (map of xs)) ∙ none) (unchanged of test change xs same)
  where
    by : (b : Bool) → test (of x) ≡ b → cond b 1 0 + count_by test (map of xs) ≡ 0
        → (count_by test (map of xs) ≡ 0 → map change xs ≡ xs) → change x ∷ map change xs ≡ x ∷ xs
    by true is none later = absurd (omega (arith, none))
    by false is none later = ap (λ y. y ∷ map change xs) (same x is) ∙ ap (λ ys. x ∷ ys) (later (omega (arith, none)))

-- where none is active it changes nothing
same_after : (s : State) → register.active_count (register_of s) ≡ 0 → after s Restart ≡ s
same_after s none =
    let same : map restarted s.recordings ≡ s.recordings = unchanged registration_of register.is_active restarted s.recordings (λ r is. ap (λ b. cond b (stopped (negsuc 0) r) r) is) none in
    ap (λ (rs : List Recording). record { recordings = rs; next = s.next }) same

pub none_stop : (g : RegisterState) → register.active_count g ≡ 0 → all_stopped g ≡ g
none_stop g none =
    let every : count_by register.is_active (map (λ r. r) g.recordings) ≡ 0 = subst (λ rs. count_by register.is_active rs ≡ 0) (sym (map-id g.recordings)) none in
    let same : map register.restarted g.recordings ≡ g.recordings = unchanged (λ r. r) register.is_active register.restarted g.recordings (λ r is. ap (λ b. cond b (register.changed_by (changes.Stop (negsuc 0)) r) r) is) every in
    ap (λ (rs : List Registration). record { recordings = rs; next = g.next }) same

accepts_restart : (b : BookState) → Accepts b Restart
accepts_restart b = (true, refl, refl)

pub register_restarted : (s : State) (counted limit : ℕ) (version : BankVersion) → IsWell s
    → all_stopped (register_of s) ≡ register_of (after s Restart)
register_restarted s counted limit version well =
    let b : BookState = record { state = s; counted = counted; limit = limit } in
    sym (register_follows b Restart well (accepts_restart b))

restart_of : (s : State) (counted limit : ℕ) (version : BankVersion) → IsWell s → archive_after (opened_archive s counted limit version) Restart ≡ opened_archive (after s Restart) counted limit version
restart_of s counted limit version well =
    ap (λ (g : RegisterState). record { state = after s Restart; desk = opened_desk g counted limit version; blocks = λ session. []; doubt = None }) (register_restarted s counted limit version well)

-- what stands in an archive at which nobody called, or in its restart
stands_either : (x y : State) (counted limit : ℕ) (version : BankVersion) (s : State) → MayStandIn (opened_archive x counted limit version) (opened_archive y counted limit version) s → IsEither x y s
stands_either x y counted limit version s (inl (inl is)) = inl is
stands_either x y counted limit version s (inl (inr doubt)) = let none : None ≡ Some s = doubt in absurd cc
stands_either x y counted limit version s (inr (inl is)) = inr is
stands_either x y counted limit version s (inr (inr doubt)) = let none : None ≡ Some s = doubt in absurd cc

-- or where its restart is in doubt
stands_broken : (x y : State) (counted limit : ℕ) (version : BankVersion) (s : State) → MayStandIn (opened_archive x counted limit version) (broken y (opened_archive x counted limit version)) s → IsEither x y s
stands_broken x y counted limit version s (inl (inl is)) = inl is
stands_broken x y counted limit version s (inl (inr doubt)) = let none : None ≡ Some s = doubt in absurd cc
stands_broken x y counted limit version s (inr (inl is)) = inl is
stands_broken x y counted limit version s (inr (inr doubt)) = let some : Some y ≡ Some s = doubt in let same : s ≡ y = cc in inr same

moments_of : (old new : Life) (x y : State) (a b c : Archive) → c ≡ b → ((s : State) → MayStandIn a b s → IsEither x y s) → LeavesOnly old new (RecoversTo (MayStandIn a c)) → LeavesOnly old new (RecoversTo (IsEither x y))
moments_of old new x y a b c is stands any =
    let any_of : LeavesOnly old new (RecoversTo (MayStandIn a b)) = subst (λ (z : Archive). LeavesOnly old new (RecoversTo (MayStandIn a z))) is any in
    weaker old new (RecoversTo (IsEither x y)) (RecoversTo (MayStandIn a b)) any_of (λ image. recovers_as (MayStandIn a b) (IsEither x y) image stands)

refused_moments : (refusal : Refusal) (old new : EngineState) (s : State) (counted limit : ℕ) (version : BankVersion) (reply : Reply) (faulted : Type 0)
    → CallEnded old new (opened_archive s counted limit version) (CommitEnds (opened_archive s counted limit version) reply (opened_archive (after s Restart) counted limit version) faulted (Err refusal)) → LeavesOnly old.life new.life (RecoversTo (IsEither s (after s Restart)))
refused_moments NoMemory old new s counted limit version reply faulted ended =
    moments_of old.life new.life s (after s Restart) (opened_archive s counted limit version) (opened_archive s counted limit version) (archive_of new ended.after) ended.ends
    (λ x stands. elim (stands_either s s counted limit version x stands) [ inl is ↦ inl is | inr is ↦ inl is ]) ended.any_moment
refused_moments DeviceFault old new s counted limit version reply faulted ended =
    moments_of old.life new.life s (after s Restart) (opened_archive s counted limit version) (broken (after s Restart) (opened_archive s counted limit version)) (archive_of new ended.after) ended.ends.1 (stands_broken s (after s Restart) counted limit version) ended.any_moment
refused_moments refusal old new s counted limit version reply faulted ended = absurd ended.ends

-- ---- by an entry

-- the engine with another desk
abbrev with_desk : DeskState → EngineState → EngineState
with_desk d e = record { life = e.life; log = e.log; desk = d }

-- what a commit of a restart leads to
abbrev RestartsBy : EngineState → EngineState → Result Reply Refusal → Type 0
RestartsBy old new result = CommitsEntry old new (λ a. Accepts (book_of a) Restart) (reply_after old.desk Restart) (λ a. archive_after a Restart) result

-- of an archive at which nobody calls yet
ended_restart : (old new : EngineState) (s : State) (counted limit : ℕ) (version : BankVersion) (result : Result Reply Refusal) → RestartsBy old new result → old.desk ≡ opened_desk (register_of s) counted limit version → IsCrashConsistent old.life old.log (opened_archive s counted limit version)
    → CallEnded old new (opened_archive s counted limit version) (CommitEnds (opened_archive s counted limit version) (reply_after (opened_desk (register_of s) counted limit version) Restart) (opened_archive (after s Restart) counted limit version) (HasFailed old.life new.life) result)
ended_restart old new s counted limit version result made is was =
    let a : Archive = opened_archive s counted limit version in
    let made_here : RestartsBy (with_desk a.desk old) new result = subst (λ (d : DeskState). RestartsBy (with_desk d old) new result) is made in
    let ended = made_here.ended (content_of a) was (accepts_restart (book_of a)) in
    let Goes : EngineState → Archive → Type 0 = λ e b. CallEnded e new a (CommitEnds a (reply_after a.desk Restart) b (HasFailed old.life new.life) result) in
    let same : with_desk a.desk old ≡ old = ap (λ (d : DeskState). with_desk d old) (sym is) in
    subst (Goes old) (restart_of s counted limit version was.archive.well) (subst (λ (e : EngineState). Goes e (archive_after a Restart)) same ended)

nothing_known : Content
nothing_known = record { state = empty; blocks = λ number. []; doubt = None }

-- a desk that was opened is that of a restart
desk_restarted : (old new : EngineState) (told : Reply) → RestartsBy old new (Ok told) → (g : RegisterState) (counted limit : ℕ) (version : BankVersion) → old.desk ≡ opened_desk g counted limit version → new.desk ≡ opened_desk (all_stopped g) counted limit version
desk_restarted old new told made g counted limit version is =
    let made_here : RestartsBy (with_desk (opened_desk g counted limit version) old) new (Ok told) = subst (λ (d : DeskState). RestartsBy (with_desk d old) new (Ok told)) is made in
    ap (λ (b : Archive). b.desk) (made_here.exact nothing_known).1.1

-- the entry of a restart was added
abbrev AddsRestart : EngineState → EngineState → Result Reply Refusal → Type 0
AddsRestart old new result = AddsCommand old new Restart result

abbrev TouchesBank : EngineState → EngineState → Type 0
TouchesBank old new = ChangesThese (λ file. file ≡ bank_file old.log.bank) 4 old.life new.life

-- with the entry, where some were stopped
some_stopped : (count : ℤ) (es : List Entry) → count ≢ pos 0 → restarted_entries count es ≡ es ++ entries.Restart ∷ []
some_stopped count es some = by (int_eq count (pos 0)) refl
  where
    by : (b : Bool) → int_eq count (pos 0) ≡ b → cond b es (es ++ entries.Restart ∷ []) ≡ es ++ entries.Restart ∷ []
    by true is = absurd (some ((Decides-int_eq count (pos 0)).0 is))
    by false is = refl

none_stopped : (count : ℤ) (es : List Entry) → count ≡ pos 0 → restarted_entries count es ≡ es
none_stopped count es none = ap (λ (z : ℤ). restarted_entries z es) none

behind_done : (old new : EngineState) (told : Reply) (count : ℤ) (es : List Entry) → count ≢ pos 0 → AddsBehind old.life new.life old.log new.log es entries.Restart (Ok told) → RestartsBehind old new es (Ok count)
behind_done old new told count es some adds = record { any_moment = adds.any_moment; rests = subst (IsAtRest new.life.now new.log) (sym (some_stopped count es some)) adds.rests }

pub restarts_done : (old new : EngineState) (told : Reply) (count : ℤ) → RestartsBy old new (Ok told) → ChangesBank old.life new.life → TouchesBank old new → AddsRestart old new (Ok told) → count ≢ pos 0 → count ≡ pos (register.active_count old.desk.register) → Restarts old new (Ok count)
restarts_done old new told count made changes touches adds some is = record {
  bank = made.bank;
  touches = touches;
  entries = λ es rests makes. behind_done old new told count es some (adds es rests makes);
  changes = changes;
  cause = λ fault. absurd cc;
  outside = tt;
  kept = tt;
  idle = λ none. absurd (some none);
  stopped = is;
  desk = desk_restarted old new told made;
  restarted = λ s counted limit version desk was. (let ended = ended_restart old new s counted limit version (Ok told) made desk was in subst (λ (b : Archive). IsCrashConsistent new.life new.log b) ended.ends.1 ended.consistent);
  any_moment = λ s counted limit version desk was. (let ended = ended_restart old new s counted limit version (Ok told) made desk was in
      moments_of old.life new.life s (after s Restart) (opened_archive s counted limit version) (opened_archive (after s Restart) counted limit version) (archive_of new ended.after) ended.ends.1 (stands_either s (after s Restart) counted limit version) ended.any_moment);
}

abbrev Refused : Refusal → Result (Unit {0}) Refusal
Refused refusal = Err refusal

-- a commit is refused by a fault, which has its cause, or for want of memory
pub commit_outside : (refusal : Refusal) (a b c : Archive) (reply : Reply) (faulted : Type 0)
    → CommitEnds a reply b faulted (Err refusal) c → (refusal ≡ DeviceFault) ⊎ (refusal ≡ NoMemory)
commit_outside NoMemory a b c reply faulted ends = inr refl
commit_outside DeviceFault a b c reply faulted ends = inl refl
commit_outside refusal a b c reply faulted ends = absurd ends

pub commit_cause : (refusal : Refusal) (a b c : Archive) (reply : Reply) (faulted : Type 0)
    → CommitEnds a reply b faulted (Err refusal) c → refusal ≡ DeviceFault → faulted
commit_cause DeviceFault a b c reply faulted ends is = ends.0
commit_cause NoMemory a b c reply faulted ends is = absurd cc
commit_cause refusal a b c reply faulted ends is = absurd ends

pub restarts_refused : (old new : EngineState) (refusal : Refusal) → RestartsBy old new (Err refusal) → ChangesBank old.life new.life → (refusal ≢ DeviceFault → new.life ≡ old.life) → TouchesBank old new → AddsRestart old new (Err refusal) → Restarts old new (Err refusal)
restarts_refused old new refusal made changes quiet touches adds =
    let exact = made.exact nothing_known in
    let a : Archive = archive_of old nothing_known in
    let outside = commit_outside refusal a (archive_after a Restart) (archive_of new exact.0) (reply_after old.desk Restart) (HasFailed old.life new.life) exact.1 in
    record {
      bank = made.bank;
      touches = touches;
      entries = λ es rests makes. record { any_moment = (adds es rests makes).any_moment; rests = tt };
      changes = changes;
      cause = λ fault. commit_cause refusal a (archive_after a Restart) (archive_of new exact.0) (reply_after old.desk Restart) (HasFailed old.life new.life) exact.1 cc;
      outside = outside;
      kept = elim outside [ inl fault ↦ inl fault | inr memory ↦ inr (quiet (λ fault. (let other : Refused NoMemory ≡ Refused DeviceFault = ap Refused (sym memory ∙ fault) in absurd cc))) ];
      idle = tt;
      stopped = tt;
      desk = tt;
      restarted = tt;
      any_moment = λ s counted limit version desk was.
          refused_moments refusal old new s counted limit version (reply_after (opened_desk (register_of s) counted limit version) Restart) (HasFailed old.life new.life) (ended_restart old new s counted limit version (Err refusal) made desk was);
    }

-- ---- where none is active

none_active : (s : State) (counted limit : ℕ) (version : BankVersion) → register.active_count (register_of s) ≡ 0
    → opened_archive s counted limit version ≡ opened_archive (after s Restart) counted limit version
none_active s counted limit version none = ap (λ (x : State). opened_archive x counted limit version) (sym (same_after s none))

pub restarts_none : (old : EngineState) (count : ℤ) → count ≡ pos 0
    → register.active_count old.desk.register ≡ 0 → Restarts old old (Ok count)
restarts_none old count zero none = record {
  bank = same_bank old.log old.log refl;
  touches = quiet_these (λ file. file ≡ bank_file old.log.bank) 4 old.life old.life (still_quiet old.life);
  entries = λ es rests makes. record {
    any_moment = started old.life (HasEntries old.log.header es entries.Restart) (λ image left. inl (rest_left old.life.now old.log es image rests left));
    rests = subst (IsAtRest old.life.now old.log) (sym (none_stopped count es zero)) rests;
  };
  changes = record { others = λ file not_a not_b. refl; faults = omega arith; obeyed = λ obeys. obeys };
  cause = λ fault. absurd cc;
  outside = tt;
  kept = tt;
  idle = λ is. refl;
  stopped = zero ∙ ap pos (sym none);
  desk = λ g counted limit version is.
      is ∙ ap (λ (r : RegisterState). opened_desk r counted limit version) (sym (none_stop g (sym (ap (λ (d : DeskState). register.active_count d.register) is) ∙ none)));
  restarted = λ s counted limit version is was. subst (λ (a : Archive). IsCrashConsistent old.life old.log a) (none_active s counted limit version (sym (ap (λ (d : DeskState). register.active_count d.register) is) ∙ none)) was;
  any_moment = λ s counted limit version is was.
      started old.life (RecoversTo (IsEither s (after s Restart))) (λ image left. recovers_as (MayStandIn (opened_archive s counted limit version) (opened_archive s counted limit version)) (IsEither s (after s Restart)) image
      (λ x stands. elim (stands_either s s counted limit version x stands) [ inl same ↦ inl same | inr same ↦ inl same ]) (recovers_as _ _ image (λ x stands. inl stands) (was.images image left)));
}
