-- What several sessions wrote, and what recording it together makes of a desk and of an archive.
use Rattle.std.proofs.Common.{rules, ◌≡◌, ◌≢◌, ◌⊎◌, ◌∙◌, inl, inr, sym, ap, subst, refl, ◌+◌, ◌<◌, ◌≤◌, ◌++◌, ◌&&◌, ℕ, ℤ, Bool, true, false, cond, true≢false, List, [], ◌∷◌, Contains, append_assoc, append-nil, length, length-append, Option, Some, None, Result, Ok, Err, unsigned_abs, nat_le, nat_lt, arith}
use Rattle.std.proofs.lemmas.Bool.Decides.{Decides-int_eq, nat_tests}
use Rattle.std.proofs.lemmas.List.Elements.{Contains-append_cases, Contains-append_left, Contains-append_right, Contains-push, Contains-push_cases}
use Rattle.std.proofs.lemmas.List.Sums.{sum_by-cons}
use Rattle.std.specs.Prelude.{IsFalse, IsTrue, IsSomeAnd, count_by, is_some}
use Rattle.std.specs.Ordering.{int_eq}
use Rattle.engine_core.proofs.Words.{AreDurableFrames, Archive, BankA, BankB, BankVersion, Block, DeskState, DiskImage, Each, EngineState, Entry, FileId, Files, IsConsistent, IsCrashConsistent, IsDurable, IsKept, IsLayout, IsWriting, KeepsDesk, Layout, Life, LogState, MayLeave, RecorderSession, Recording, Registration, StandsBehind, Written, admits, after, after_entries, both, change, checks, counts, covered, durable, each_change, each_found, empty, file_of, find, found_number, frames_of, id_of, is_of, last_of, layout_of, passes, reads, recorded_position, recording_at, registration_in, session_in, session_number, settle_decision, settled}
use Rattle.archive_model.specs.declared.command.Command.TheVariants as commands
use Rattle.archive_model.specs.declared.version.BankVersion.TheVariants.{One, Two}
use Rattle.archive_model.specs.declared.registration.Change.TheVariants as changes
use Rattle.archive_model.specs.Commands.{appended, recorded_in}
use Rattle.archive_model.specs.Register.{changed_by, is_active}
use Rattle.archive_model.proofs.CommandsLemmas.{find_other}
use Rattle.archive_model.proofs.RegisterLemmas.{id_kept}
use Rattle.catalogue_entries.specs.declared.entry.Entry.TheVariants as entries
use Rattle.catalogue_entries.specs.Fold.{may_settle}
use Rattle.catalogue_log.specs.Groups.{AdmitsAll, AreHeld}
use Rattle.control_core.specs.declared.turns.Settling.{Settling}
use Rattle.control_core.specs.declared.turns.Settling.TheVariants as settling
use Rattle.control_core.specs.Changes.{settled_by, settled_each}
use Rattle.control_core.specs.Consistent.{HasBlocks, Wrote}
use Rattle.control_core.specs.Exact.{settled_archive, settled_archives, settled_by_number, settling_in, with_session_blocks}
use Rattle.control_core.specs.Seats.{AreApart}
use Rattle.control_core.specs.Turns.{are_once, has_written, settle_all_tests, settling_by, settling_of, wrote_any}
use Rattle.control_core.proofs.ConsistentLemmas.{MayOfAll, behind_one, decided_blocks, may_of_all, one_settled}
use Rattle.control_core.proofs.DecidedLemmas.{settling_session}
use Rattle.control_core.proofs.DeskLemmas.{not_same}
use Rattle.control_core.proofs.FoundLemmas.{found_other}
use Rattle.control_core.proofs.GroupLemmas.{AreOther, HasRoomBehind, counted_each, others, room_here, session_beside}
use Rattle.control_core.proofs.WriteLemmas.{other_blocks}
use Rattle.engine_core.specs.Grouping.{AreDurableAs, AreSegments, IsGroup, MayRecord, entries_each, entry_of_session, entry_of_written, segment_of_session, segment_of_written, segments_each}
use Rattle.engine_core.specs.Touching.{IsSegmentAt, IsSettledAmong, IsSettledFile, written_by}
use Rattle.engine_core.proofs.calls.EntryLemmas.{settled_admitted}
use Rattle.engine_core.proofs.calls.KnownLemmas.{is_there, known_recording}
use Rattle.engine_core.proofs.calls.SettleCallLemmas.{stands_settled}
use Rattle.engine_core.proofs.files.FrameLemmas.{durable_append, each_both, each_then, segment_not_a, segment_not_b}
use Rattle.engine_core.proofs.files.GroupLemmas.{these_durable}
use Rattle.engine_core.proofs.files.SettleLemmas.{end_more}

-- ---- numbers that stand once

-- sessions of two numbers write two recordings
apart_found : (n m : ℤ) (ss : List RecorderSession) (s t : RecorderSession) → AreApart ss → int_eq m n ≡ false → find session_number n ss ≡ Some s → find session_number m ss ≡ Some t → t.recording ≢ s.recording
apart_found n m [] s t apart other found there = absurd cc
apart_found n m (x ∷ ss) s t apart other found there = by (int_eq n x.number) (int_eq m x.number) refl refl found there (apart_found n m ss s t apart.1 other)
  where
    by : (a b : Bool) → int_eq n x.number ≡ a → int_eq m x.number ≡ b → cond a (Some x) (find session_number n ss) ≡ Some s → cond b (Some x) (find session_number m ss) ≡ Some t
        → (find session_number n ss ≡ Some s → find session_number m ss ≡ Some t → t.recording ≢ s.recording) → t.recording ≢ s.recording
    by true true is this found there rest =
        let same : m ≡ n = (Decides-int_eq m x.number).0 this ∙ sym ((Decides-int_eq n x.number).0 is) in
        absurd (true≢false (sym ((Decides-int_eq m n).1 same) ∙ other))
    by true false is this found there rest =
        let same : x ≡ s = cc in
        subst (λ (y : RecorderSession). t.recording ≢ y.recording) same (each_found session_number (λ y. y.recording ≢ x.recording) m ss t apart.0 there)
    by false true is this found there rest =
        let same : x ≡ t = cc in
        let differs : s.recording ≢ x.recording = each_found session_number (λ y. y.recording ≢ x.recording) n ss s apart.0 found in
        subst (λ (y : RecorderSession). y.recording ≢ s.recording) same (λ e. differs (sym e))
    by false false is this found there rest = rest found there

once_parts : (n : ℤ) (ns : List ℤ) → are_once (n ∷ ns) ≡ true → AreOther n ns × (are_once ns ≡ true)
once_parts n ns once = let parts = both once in (others n ns parts.0, parts.1)

other_numbers : (n m : ℤ) → int_eq m n ≡ false → int_eq n m ≡ false
other_numbers n m other = not_same n m (λ same. true≢false (sym ((Decides-int_eq m n).1 (sym same)) ∙ other))

-- ---- how many

count_cons : {X : Type 0} (p : X → Bool) (x : X) (xs : List X) → count_by p (x ∷ xs) ≡ cond (p x) 1 0 + count_by p xs
count_cons p x xs = sum_by-cons (λ y. cond (p y) 1 0) x xs

module _ (d : DeskState) where
  abbrev wrote_one : ℤ → Bool
  wrote_one n = has_written (session_in d n)

  -- as many entries count as sessions wrote something
  pub counted_entries : (ns : List ℤ) → count_by counts (entries_each d ns) ≡ count_by wrote_one ns
  counted_entries [] = refl
  counted_entries (n ∷ ns) = more (session_in d n) ∙ ap (λ (k : ℕ). cond (wrote_one n) 1 0 + k) (counted_entries ns) ∙ sym (count_cons wrote_one n ns)
    where
      written : (s : RecorderSession) (w : Option Written) → count_by counts (entry_of_written s w ++ entries_each d ns) ≡ cond (is_some w) 1 0 + count_by counts (entries_each d ns)
      written s None = omega arith
      written s (Some w) = count_cons counts (entries.Settle s.recording w.last) (entries_each d ns)

      more : (o : Option RecorderSession) → count_by counts (entry_of_session o ++ entries_each d ns) ≡ cond (has_written o) 1 0 + count_by counts (entries_each d ns)
      more None = omega arith
      more (Some s) = written s s.written

  -- and so many there are
  pub length_entries : (ns : List ℤ) → length (entries_each d ns) ≡ count_by wrote_one ns
  length_entries [] = refl
  length_entries (n ∷ ns) = more (session_in d n) ∙ ap (λ (k : ℕ). cond (wrote_one n) 1 0 + k) (length_entries ns) ∙ sym (count_cons wrote_one n ns)
    where
      written : (s : RecorderSession) (w : Option Written) → length (entry_of_written s w ++ entries_each d ns) ≡ cond (is_some w) 1 0 + length (entries_each d ns)
      written s None = omega arith
      written s (Some w) = omega arith

      more : (o : Option RecorderSession) → length (entry_of_session o ++ entries_each d ns) ≡ cond (has_written o) 1 0 + length (entries_each d ns)
      more None = omega arith
      more (Some s) = written s s.written

  pub few_entries : (ns : List ℤ) → length (entries_each d ns) ≤ length ns
  few_entries [] = omega arith
  few_entries (n ∷ ns) = let rest = few_entries ns in let one = more (session_in d n) in omega (arith, rest, one)
    where
      written : (s : RecorderSession) (w : Option Written) → length (entry_of_written s w ++ entries_each d ns) ≤ length (entries_each d ns) + 1
      written s None = omega arith
      written s (Some w) = omega arith

      more : (o : Option RecorderSession) → length (entry_of_session o ++ entries_each d ns) ≤ length (entries_each d ns) + 1
      more None = omega arith
      more (Some s) = written s s.written

  pub few_segments : (ns : List ℤ) → length (segments_each d ns) ≤ length ns
  few_segments [] = omega arith
  few_segments (n ∷ ns) = let rest = few_segments ns in let one = more (session_in d n) in omega (arith, rest, one)
    where
      written : (g : Option Registration) (w : Option Written) → length (segment_of_written g w ++ segments_each d ns) ≤ length (segments_each d ns) + 1
      written None w = omega arith
      written (Some g) None = omega arith
      written (Some g) (Some w) = omega arith

      more : (o : Option RecorderSession) → length (segment_of_session d o ++ segments_each d ns) ≤ length (segments_each d ns) + 1
      more None = omega arith
      more (Some s) = written (registration_in d.register s.recording) s.written

  -- each bank can hold them
  pub held_each : (v : BankVersion) (ns : List ℤ) → AreHeld v (entries_each d ns)
  held_each v [] = tt
  held_each v (n ∷ ns) = by (session_in d n) (held_each v ns)
    where
      written : (s : RecorderSession) (w : Option Written) → AreHeld v (entries_each d ns) → AreHeld v (entry_of_written s w ++ entries_each d ns)
      written s None rest = rest
      written s (Some w) rest = (refl, rest)

      by : (o : Option RecorderSession) → AreHeld v (entries_each d ns) → AreHeld v (entry_of_session o ++ entries_each d ns)
      by None rest = rest
      by (Some s) rest = written s s.written rest

  -- ---- their files

  -- a file where something begins that a session wrote
  pub record SegmentFound (n : ℤ) (file : FileId) : Type 0 where
    pub session : RecorderSession
    pub written : Written
    pub known : Registration
    pub found : session_in d n ≡ Some session
    pub has : session.written ≡ Some written
    pub there : registration_in d.register session.recording ≡ Some known
    pub is : file ≡ file_of (layout_of known.descriptor) (unsigned_abs written.first)

  none_contained : (file : FileId) → Contains [] file → ⊥
  none_contained file has = absurd (omega (arith, has.1))

  one_contained : (x file : FileId) → Contains (x ∷ []) file → file ≡ x
  one_contained x file has = elim (Contains-push_cases [] x file has) [ inl none ↦ absurd (none_contained file none) | inr same ↦ sym same ]

  segment_found : (n : ℤ) (file : FileId) → Contains (segment_of_session d (session_in d n)) file → SegmentFound n file
  segment_found n file has = by (session_in d n) refl has
    where
      at : (s : RecorderSession) (g : Option Registration) (w : Option Written) → session_in d n ≡ Some s → registration_in d.register s.recording ≡ g → s.written ≡ w → Contains (segment_of_written g w) file → SegmentFound n file
      at s None w found there has in_it = absurd (none_contained file in_it)
      at s (Some g) None found there has in_it = absurd (none_contained file in_it)
      at s (Some g) (Some w) found there has in_it = record { session = s; written = w; known = g; found = found; has = has; there = there; is = one_contained (file_of (layout_of g.descriptor) (unsigned_abs w.first)) file in_it }

      by : (o : Option RecorderSession) → session_in d n ≡ o → Contains (segment_of_session d o) file → SegmentFound n file
      by None is in_it = absurd (none_contained file in_it)
      by (Some s) is in_it = at s (registration_in d.register s.recording) s.written is refl refl in_it

  segments_found : (ns : List ℤ) (file : FileId) (P : ℤ → Type 0) → Each P ns → Contains (segments_each d ns) file → (n : ℤ) × P n × SegmentFound n file
  segments_found [] file P all has = absurd (none_contained file has)
  segments_found (n ∷ ns) file P all has = elim (Contains-append_cases (segment_of_session d (session_in d n)) (segments_each d ns) file has) [
    | inl this ↦ (n, all.0, segment_found n file this)
    | inr rest ↦ segments_found ns file P all.1 rest
  ]

  holds_each : (ns : List ℤ) → Each (Contains ns) ns
  holds_each [] = tt
  holds_each (n ∷ ns) =
      (Contains-append_left (n ∷ []) ns n (Contains-push [] n), each_then (Contains ns) (Contains (n ∷ ns)) ns (holds_each ns) (λ m has. Contains-append_right (n ∷ []) ns m has))

  -- no bank is among them
  pub are_segments : (ns : List ℤ) → AreSegments (segments_each d ns)
  are_segments ns file has =
      let found = segments_found ns file (Contains ns) (holds_each ns) has in
      let l = layout_of found.2.known.descriptor in
      let p = unsigned_abs found.2.written.first in
      (λ same. segment_not_a l p (sym found.2.is ∙ same), λ same. segment_not_b l p (sym found.2.is ∙ same))

  settled_file : (n : ℤ) (file : FileId) → SegmentFound n file → IsSettledFile d n file
  settled_file n file at =
      let s = at.session in
      let w = at.written in
      let writes : written_by d (session_in d n) ≡ Some at.known = ap (written_by d) at.found ∙ at.there in
      subst (λ (o : Option RecorderSession). IsSomeAnd o (λ x. IsSomeAnd x.written (λ (v : Written). IsSegmentAt d n v.first file))) (sym at.found)
      (subst (λ (o : Option Written). IsSomeAnd o (λ (v : Written). IsSegmentAt d n v.first file)) (sym at.has)
      (subst (λ (o : Option Registration). IsSomeAnd o (λ g. file ≡ file_of (layout_of g.descriptor) (unsigned_abs w.first))) (sym writes) at.is))

  -- each is one that a session of these wrote to
  pub settled_among : (ns : List ℤ) (file : FileId) → Contains (segments_each d ns) file → IsSettledAmong d ns file
  settled_among ns file has =
      let found = segments_found ns file (Contains ns) (holds_each ns) has in
      (found.0, found.1, settled_file found.0 file found.2)

  -- and each that they wrote to is there
  abbrev pub IsListed : List FileId → ℤ → Type 0
  IsListed files n = (s : RecorderSession) (w : Written) (g : Registration) → session_in d n ≡ Some s → s.written ≡ Some w → registration_in d.register s.recording ≡ Some g → Contains files (file_of (layout_of g.descriptor) (unsigned_abs w.first))

  pub all_listed : (ns : List ℤ) → Each (IsListed (segments_each d ns)) ns
  all_listed [] = tt
  all_listed (n ∷ ns) = (
    λ s w g found has there.
        let file = file_of (layout_of g.descriptor) (unsigned_abs w.first) in
        let is : segment_of_session d (session_in d n) ≡ file ∷ [] = ap (segment_of_session d) found ∙ ap (segment_of_written (registration_in d.register s.recording)) has ∙ ap (λ (o : Option Registration). segment_of_written o (Some w)) there in
        Contains-append_left (segment_of_session d (session_in d n)) (segments_each d ns) file (subst (λ (xs : List FileId). Contains xs file) (sym is) (Contains-push [] file)),
    each_then (IsListed (segments_each d ns)) (IsListed (segments_each d (n ∷ ns))) ns (all_listed ns)
        (λ m listed s w g found has there. Contains-append_right (segment_of_session d (session_in d n)) (segments_each d ns) (file_of (layout_of g.descriptor) (unsigned_abs w.first)) (listed s w g found has there)),
  )

-- ---- what the entries make of the register

-- a session that was not settled, and what is known of its recording, are as before
abbrev IsSame : DeskState → DeskState → ℤ → Type 0
IsSame d x m = (session_in x m ≡ session_in d m) × ((s : RecorderSession) → session_in d m ≡ Some s → registration_in x.register s.recording ≡ registration_in d.register s.recording)

same_beside : (d x : DeskState) (n m : ℤ) → AreApart d.callers.sessions → int_eq m n ≡ false → IsSame d x n → IsSame d x m → IsSame d (settled (session_in x n) x) m
same_beside d x n m apart other first this = (session_beside x n m other ∙ this.0, λ s found. by (session_in x n) refl s found ∙ this.1 s found)
  where
    written : (s t : RecorderSession) (w : Option Written) → session_in d m ≡ Some s → session_in d n ≡ Some t → registration_in (settled_by t w x).register s.recording ≡ registration_in x.register s.recording
    written s t None found there = refl
    written s t (Some w) found there =
        found_other s.recording t.recording (changed_by (changes.Settle w.last)) x.register.recordings (id_kept (changes.Settle w.last)) (not_same s.recording t.recording (apart_found n m d.callers.sessions t s apart other there found))

    by : (o : Option RecorderSession) → session_in x n ≡ o → (s : RecorderSession) → session_in d m ≡ Some s → registration_in (settled o x).register s.recording ≡ registration_in x.register s.recording
    by None is s found = refl
    by (Some t) is s found = written s t t.written found (sym first.0 ∙ is)

pub all_same : (d : DeskState) (ns : List ℤ) → Each (IsSame d d) ns
all_same d [] = tt
all_same d (n ∷ ns) = ((refl, λ s found. refl), all_same d ns)

-- an archive with a desk
abbrev of_desk : DeskState → Archive
of_desk d = record { state = empty; desk = d; blocks = λ n. []; doubt = None }

pub record LeadOn (x : DeskState) (es : List Entry) (u : DeskState) : Type 0 where
  pub admitted : AdmitsAll x.register es
  pub makes : after_entries x.register es ≡ u.register

module _ (d : DeskState) (keeps : KeepsDesk d.register d.callers) (works : IsFalse d.is_broken) (room : d.counted < d.limit) where
  one_admitted : (x : DeskState) (n : ℤ) (s : RecorderSession) (w : Written) → IsSame d x n → session_in d n ≡ Some s → s.written ≡ Some w → admits x.register (entries.Settle s.recording w.last) ≡ true
  one_admitted x n s w same found has =
      let is : settling_in (of_desk d) n ≡ settling.Blocks s.recording w = ap (settling_of d) found ∙ ap (settling_by d s) has in
      let told : settle_decision d n ≡ Ok (settling.Blocks s.recording w) = decided_blocks (of_desk d) n s.recording w works room is in
      ap (λ (o : Option Registration). is_of o (may_settle w.last)) (same.1 s found) ∙ settled_admitted d n s.recording w keeps told

  pub lead_on : (x : DeskState) (ns : List ℤ) → are_once ns ≡ true → Each (IsSame d x) ns → LeadOn x (entries_each d ns) (settled_each ns x)
  lead_on x [] once same = record { admitted = tt; makes = refl }
  lead_on x (n ∷ ns) once same =
      let parts = once_parts n ns once in
      let apart = keeps.seats.sessions.apart in
      let next : Each (IsSame d (settled (session_in x n) x)) ns =
      each_then (λ m. (int_eq m n ≡ false) × IsSame d x m) (IsSame d (settled (session_in x n) x)) ns (each_both (λ m. int_eq m n ≡ false) (IsSame d x) ns parts.0 same.1) (λ m has. same_beside d x n m apart has.0 same.0 has.1) in
      subst (λ (o : Option RecorderSession). LeadOn x (entries_each d (n ∷ ns)) (settled_each ns (settled o x))) (sym same.0.0)
      (by (session_in d n) refl (subst (λ (o : Option RecorderSession). LeadOn (settled o x) (entries_each d ns) (settled_each ns (settled o x))) same.0.0 (lead_on (settled (session_in x n) x) ns parts.1 next)))
    where
      written : (s : RecorderSession) (w : Option Written) → session_in d n ≡ Some s → s.written ≡ w → LeadOn (settled_by s w x) (entries_each d ns) (settled_each ns (settled_by s w x)) → LeadOn x (entry_of_written s w ++ entries_each d ns) (settled_each ns (settled_by s w x))
      written s None found has rest = rest
      written s (Some w) found has rest = record { admitted = (one_admitted x n s w same.0 found has, rest.admitted); makes = rest.makes }

      by : (o : Option RecorderSession) → session_in d n ≡ o → LeadOn (settled o x) (entries_each d ns) (settled_each ns (settled o x)) → LeadOn x (entry_of_session o ++ entries_each d ns) (settled_each ns (settled o x))
      by None is rest = rest
      by (Some s) is rest = written s s.written is refl rest

-- ---- an archive whose sessions are settled one after another

-- what each of its sessions wrote stands on
pub group_stand : (image : DiskImage) (a : Archive) (ns : List ℤ) → IsConsistent a → IsFalse a.desk.is_broken → HasRoomBehind a.desk ns → Each (StandsBehind image a) a.desk.callers.sessions → Each (StandsBehind image (settled_archives ns a)) (settled_archives ns a).desk.callers.sessions
group_stand image a [] was works room stand = stand
group_stand image a (n ∷ ns) was works room stand =
    let one = one_settled a n was works (room_here a.desk n ns room) in
    let behind = behind_one a n ns works room in
    group_stand image (settled_by_number a n (settling_in a n)) ns one.consistent behind.0 behind.1 (by (settling_in a n) refl)
  where
    by : (s : Settling) → settling_in a n ≡ s → Each (StandsBehind image (settled_by_number a n s)) (settled_by_number a n s).desk.callers.sessions
    by (settling.Nothing position) is = stand
    by (settling.Blocks id w) is =
        let of = settling_session a.desk n id w (session_in a.desk n) refl is in
        let wrote : has_written (session_in a.desk n) ≡ true = ap has_written of.found ∙ ap is_some of.written in
        stands_settled image a n id w was stand (decided_blocks a n id w works (room_here a.desk n ns room wrote) is)

-- what a session wrote is durable
abbrev pub IsReady : Files → Archive → ℤ → Type 0
IsReady files a n = (s : RecorderSession) (r : Recording) → session_in a.desk n ≡ Some s → recording_at a s.recording ≡ Some r
    → AreDurableFrames files (layout_of r.descriptor) (last_of r) (frames_of (a.blocks n)) (last_of r + covered (frames_of (a.blocks n)))

-- it stays so where another session is settled
ready_beside : (files : Files) (a : Archive) (n id : ℤ) (w : Written) (m : ℤ) → IsConsistent a → settling_in a n ≡ settling.Blocks id w → int_eq m n ≡ false → IsReady files a m → IsReady files (settled_archive a n id) m
ready_beside files a n id w m was is other ready s r found there =
    let of = settling_session a.desk n id w (session_in a.desk n) refl is in
    let before : session_in a.desk m ≡ Some s = sym (session_beside a.desk n m other) ∙ found in
    let differs : s.recording ≢ id = λ same. apart_found n m a.desk.callers.sessions of.session s was.seats.sessions.apart other of.found before (same ∙ sym of.recording) in
    let rest : recording_at (settled_archive a n id) s.recording ≡ recording_at a s.recording = find_other s.recording id (appended (a.blocks n)) (λ x. refl) (not_same s.recording id differs) a.state.recordings in
    let blocks : with_session_blocks n [] a.blocks m ≡ a.blocks m = other_blocks n [] a.blocks m (other_numbers n m other) in
    subst (λ (bs : List Block). AreDurableFrames files (layout_of r.descriptor) (last_of r) (frames_of bs) (last_of r + covered (frames_of bs))) (sym blocks) (ready s r before (sym rest ∙ there))

-- a recording to which durable frames are added
appended_on : (files : Files) (r : Recording) (blocks : List Block) → IsKept r → IsDurable files r → AreDurableFrames files (layout_of r.descriptor) (last_of r) (frames_of blocks) (last_of r + covered (frames_of blocks)) → IsDurable files (appended blocks r)
appended_on files r blocks kept stand more =
    let l = layout_of r.descriptor in
    durable_append files l r.frames (frames_of blocks) (last_of_start r) (last_of r) (last_of (appended blocks r)) stand
    (subst (AreDurableFrames files l (last_of r) (frames_of blocks)) (end_more r.descriptor.start_position r.frames (frames_of blocks) kept.start) more)
  where
    last_of_start : Recording → ℕ
    last_of_start x = unsigned_abs x.descriptor.start_position

-- so the frames of the archive behind them are durable
pub group_durable : (files : Files) (a : Archive) (ns : List ℤ) → IsConsistent a → IsFalse a.desk.is_broken → HasRoomBehind a.desk ns → are_once ns ≡ true → Each (IsReady files a) ns → Each (IsDurable files) a.state.recordings → Each (IsDurable files) (settled_archives ns a).state.recordings
group_durable files a [] was works room once ready all = all
group_durable files a (n ∷ ns) was works room once ready all =
    let parts = once_parts n ns once in
    let one = one_settled a n was works (room_here a.desk n ns room) in
    let behind = behind_one a n ns works room in
    let next = by (settling_in a n) refl parts.0 in
    group_durable files (settled_by_number a n (settling_in a n)) ns one.consistent behind.0 behind.1 parts.1 next.0 next.1
  where
    by : (s : Settling) → settling_in a n ≡ s → AreOther n ns → Each (IsReady files (settled_by_number a n s)) ns × Each (IsDurable files) (settled_by_number a n s).state.recordings
    by (settling.Nothing position) is other = (ready.1, all)
    by (settling.Blocks id w) is other =
        let of = settling_session a.desk n id w (session_in a.desk n) refl is in (
          each_then (λ m. (int_eq m n ≡ false) × IsReady files a m) (IsReady files (settled_archive a n id)) ns (each_both (λ m. int_eq m n ≡ false) (IsReady files a) ns other ready.1) (λ m has. ready_beside files a n id w m was is has.0 has.1),
          each_change id_of (IsDurable files) id (appended (a.blocks n)) a.state.recordings all
              (λ x there stands. appended_on files x (a.blocks n) (each_found id_of IsKept id a.state.recordings x was.well.kept there) stands (ready.0 of.session x of.found (ap (recording_at a) of.recording ∙ there))),
        )

-- what is read behind what is recorded is durable once its file is synced
ready_here : (old mid : Life) (log : LogState) (a : Archive) (files : List FileId) (n : ℤ) → IsCrashConsistent old log a → IsListed a.desk files n → AreDurableAs files old mid → IsReady mid.now a n
ready_here old mid log a files n was listed synced s r found there =
    let number : s.number ≡ n = found_number session_number n a.desk.callers.sessions s found in
    let has = each_found session_number (λ x. HasBlocks a x x.written) n a.desk.callers.sessions s was.archive.blocks found in
    subst (λ (m : ℤ). AreDurableFrames mid.now (layout_of r.descriptor) (last_of r) (frames_of (a.blocks m)) (last_of r + covered (frames_of (a.blocks m)))) number (by s.written refl has)
  where
    one : (x y : Recording) → Some x ≡ Some y → x ≡ y
    one x y is = cc

    by : (w : Option Written) → s.written ≡ w → HasBlocks a s w → AreDurableFrames mid.now (layout_of r.descriptor) (last_of r) (frames_of (a.blocks s.number)) (last_of r + covered (frames_of (a.blocks s.number)))
    by None is none = subst (λ (bs : List Block). AreDurableFrames mid.now (layout_of r.descriptor) (last_of r) (frames_of bs) (last_of r + covered (frames_of bs))) (sym none) (omega arith)
    by (Some w) is wrote =
        let writing : IsWriting a.desk.register s = each_found session_number (IsWriting a.desk.register) n a.desk.callers.sessions s was.archive.seats.sessions.writing found in
        let registered = is_there (registration_in a.desk.register s.recording) is_active writing in
        let known = known_recording a s.recording registered.0 was.archive.agrees registered.1 in
        let same : known.recording ≡ r = one known.recording r (sym known.found ∙ there) in
        let layout : layout_of registered.0.descriptor ≡ layout_of r.descriptor = ap (λ (g : Registration). layout_of g.descriptor) known.is ∙ ap (λ (x : Recording). layout_of x.descriptor) same in
        let first : w.first ≡ recorded_position r = wrote.first ∙ ap recorded_in there in
        let file : file_of (layout_of registered.0.descriptor) (unsigned_abs w.first) ≡ file_of (layout_of r.descriptor) (last_of r) =
        ap (λ (l : Layout). file_of l (unsigned_abs w.first)) layout ∙ ap (λ (z : ℤ). file_of (layout_of r.descriptor) (unsigned_abs z)) first in
        let this = synced (file_of (layout_of r.descriptor) (last_of r)) (subst (Contains files) file (listed s w registered.0 found is registered.1)) in
        let stands = each_found session_number (StandsBehind (reads old.now) a) n a.desk.callers.sessions s was.stand found r there in
        these_durable old mid (file_of (layout_of r.descriptor) (last_of r)) (layout_of r.descriptor) (frames_of (a.blocks s.number)) (last_of r) (last_of r + covered (frames_of (a.blocks s.number))) this stands.holds stands.lie

pub all_ready : (old mid : Life) (log : LogState) (a : Archive) (files : List FileId) (ns : List ℤ) → IsCrashConsistent old log a → Each (IsListed a.desk files) ns → AreDurableAs files old mid → Each (IsReady mid.now a) ns
all_ready old mid log a files [] was listed synced = tt
all_ready old mid log a files (n ∷ ns) was listed synced = (ready_here old mid log a files n was listed.0 synced, all_ready old mid log a files ns was listed.1 synced)

-- ---- what is collected, one session after another

-- what is there, and what is left, make what all of them wrote
pub record SoFar (d : DeskState) (all left : List ℤ) (files : List FileId) (es : List Entry) : Type 0 where
  pub entries : es ++ entries_each d left ≡ entries_each d all
  pub segments : files ++ segments_each d left ≡ segments_each d all

pub so_far_next : (d : DeskState) (all left : List ℤ) (n : ℤ) (files more_files : List FileId) (es more : List Entry) → SoFar d all (n ∷ left) files es → more_files ≡ files ++ segment_of_session d (session_in d n) → more ≡ es ++ entry_of_session (session_in d n) → SoFar d all left more_files more
so_far_next d all left n files more_files es more so_far files_are entries_are = record {
  entries = ap (λ (xs : List Entry). xs ++ entries_each d left) entries_are ∙ append_assoc es (entry_of_session (session_in d n)) (entries_each d left) ∙ so_far.entries;
  segments = ap (λ (xs : List FileId). xs ++ segments_each d left) files_are ∙ append_assoc files (segment_of_session d (session_in d n)) (segments_each d left) ∙ so_far.segments;
}

pub so_far_all : (d : DeskState) (all left : List ℤ) (files : List FileId) (es : List Entry) → left ≡ [] → SoFar d all left files es → (es ≡ entries_each d all) × (files ≡ segments_each d all)
so_far_all d all left files es none so_far = (
  sym (append-nil es) ∙ ap (λ (ns : List ℤ). es ++ entries_each d ns) (sym none) ∙ so_far.entries,
  sym (append-nil files) ∙ ap (λ (ns : List ℤ). files ++ segments_each d ns) (sym none) ∙ so_far.segments,
)
