-- Sessions and replays of recordings that are there.
use Rattle.std.proofs.Common.{◌≡◌, ◌≢◌, ◌+◌, ◌+ℤ◌, ◌<◌, ◌≤◌, not, ℤ, pos, negsuc, Bool, true, false, cond, List, [], ◌∷◌, ◌++◌, length, filter, Option, Some, None, refl, sym, ap, subst, ◌∙◌, true≢false, arith}
use Rattle.std.proofs.lemmas.Int.{ints}
use Rattle.std.proofs.lemmas.List.{length-append}
use Rattle.std.proofs.lemmas.List.Sums.{length-filter}
use Rattle.std.proofs.lemmas.Bool.Decides.{Decides-int_eq}
use Rattle.std.specs.Prelude.{is_some}
use Rattle.std.specs.Ordering.{int_eq}
use Rattle.archive_model.specs.declared.registration.Registration.{Registration}
use Rattle.archive_model.specs.declared.registration.Change.{Change}
use Rattle.archive_model.specs.declared.registration.Change.TheVariants as changes
use Rattle.archive_model.specs.Keyed.{find, change, without, Each, Rise}
use Rattle.archive_model.specs.Checks.{is_of}
use Rattle.archive_model.specs.Register.{RegisterState, active_count, all_stopped, changed, changed_by, id_of, is_active, registration_in, restarted, with_one, with_out}
use Rattle.archive_model.proofs.RegisterLemmas.{each_push, found_number, id_kept, rise_push}
use Rattle.control_core.specs.declared.callers.RecorderSession.{RecorderSession}
use Rattle.control_core.specs.declared.callers.OpenReplay.{OpenReplay}
use Rattle.control_core.specs.declared.callers.Written.{Written}
use Rattle.control_core.specs.Callers.{CallersState, moved_to, no_callers, replay_number, session_number, with_written}
use Rattle.control_core.specs.Desk.{DeskState, is_replay_of}
use Rattle.control_core.specs.Changes.{begun_session, entered, is_session_of, settled, settled_by, with_blocks, with_session, without_callers, without_sessions}
use Rattle.control_core.specs.Turns.{session_in}
use Rattle.control_core.specs.Seats.{AreApart, IsReading, IsWriting, KeepsReplays, KeepsSeats, KeepsSessions}
use Rattle.control_core.proofs.SeatLemmas.{rise_filter}
use Rattle.control_core.proofs.FoundLemmas.{each_both, each_filter, each_weaker, found_below, found_changed, found_here, found_last, found_left, found_more, found_other, one_less, rise_change, rise_map, rise_without}

-- ---- lists of sessions and replays

pub other_session : (id : ℤ) (s : RecorderSession) → not (is_session_of id s) ≡ true → int_eq s.recording id ≡ false
other_session id s is = by (int_eq s.recording id) is
  where
    by : (b : Bool) → not b ≡ true → b ≡ false
    by true h = absurd (true≢false (sym h))
    by false h = refl

pub other_replay : (id : ℤ) (r : OpenReplay) → not (is_replay_of id r) ≡ true → int_eq r.recording id ≡ false
unfolding is_replay_of
other_replay id r is = by (int_eq r.recording id) is
  where
    by : (b : Bool) → not b ≡ true → b ≡ false
    by true h = absurd (true≢false (sym h))
    by false h = refl

filter_shorter : {X : Type 0} (test : X → Bool) (xs : List X) → length (filter test xs) ≤ length xs
filter_shorter test [] = omega arith
filter_shorter test (x ∷ xs) = by (test x) (filter_shorter test xs)
  where
    by : (b : Bool) → length (filter test xs) ≤ length xs → length (cond b (x ∷ filter test xs) (filter test xs)) ≤ length (x ∷ xs)
    by true h = omega arith
    by false h = omega arith

apart_push : (ss : List RecorderSession) (s : RecorderSession) → AreApart ss → Each (λ other. other.recording ≢ s.recording) ss → AreApart (ss ++ s ∷ [])
apart_push [] s apart others = (tt, tt)
apart_push (x ∷ ss) s apart others = (each_push (λ other. other.recording ≢ x.recording) ss s apart.0 (λ same. others.0 (sym same)), apart_push ss s apart.1 others.1)

apart_filter : (test : RecorderSession → Bool) (ss : List RecorderSession) → AreApart ss → AreApart (filter test ss)
apart_filter test [] apart = tt
apart_filter test (x ∷ ss) apart = by (test x) (apart_filter test ss apart.1)
  where
    by : (b : Bool) → AreApart (filter test ss) → AreApart (cond b (x ∷ filter test ss) (filter test ss))
    by true rest = (each_filter (λ other. other.recording ≢ x.recording) (λ other. other.recording ≢ x.recording) test ss (λ other is differs. differs) apart.0, rest)
    by false rest = rest

-- a session that wrote writes the same recording
each_written : (P : ℤ → Type 0) (n : ℤ) (w : Option Written) (ss : List RecorderSession) → Each (λ s. P s.recording) ss → Each (λ s. P s.recording) (change session_number n (with_written w) ss)
each_written P n w [] all = tt
each_written P n w (x ∷ ss) all = by (int_eq n (session_number x)) (each_written P n w ss all.1)
  where
    by : (b : Bool) → Each (λ s. P s.recording) (change session_number n (with_written w) ss) → Each (λ s. P s.recording) (cond b (with_written w x ∷ ss) (x ∷ change session_number n (with_written w) ss))
    by true rest = (all.0, all.1)
    by false rest = (all.0, rest)

pub apart_written : (n : ℤ) (w : Option Written) (ss : List RecorderSession) → AreApart ss → AreApart (change session_number n (with_written w) ss)
apart_written n w [] apart = tt
apart_written n w (x ∷ ss) apart = by (int_eq n (session_number x)) (apart_written n w ss apart.1)
  where
    by : (b : Bool) → AreApart (change session_number n (with_written w) ss) → AreApart (cond b (with_written w x ∷ ss) (x ∷ change session_number n (with_written w) ss))
    by true rest = (apart.0, apart.1)
    by false rest = (each_written (λ id. id ≢ x.recording) n w ss apart.0, rest)

as_many : {X : Type 0} (number : X → ℤ) (n : ℤ) (f : X → X) (xs : List X) → length (change number n f xs) ≡ length xs
as_many number n f [] = refl
as_many number n f (x ∷ xs) = by (int_eq n (number x)) (as_many number n f xs)
  where
    by : (b : Bool) → length (change number n f xs) ≡ length xs → length (cond b (f x ∷ xs) (x ∷ change number n f xs)) ≡ length (x ∷ xs)
    by true rest = refl
    by false rest = omega (arith, rest)

without_shorter : {X : Type 0} (number : X → ℤ) (n : ℤ) (xs : List X) → length (without number n xs) ≤ length xs
without_shorter number n [] = omega arith
without_shorter number n (x ∷ xs) = by (int_eq n (number x)) (without_shorter number n xs)
  where
    by : (b : Bool) → length (without number n xs) ≤ length xs → length (cond b xs (x ∷ without number n xs)) ≤ length (x ∷ xs)
    by true rest = omega arith
    by false rest = omega (arith, rest)

pub not_same : (m n : ℤ) → m ≢ n → int_eq m n ≡ false
not_same m n differs = by (int_eq m n) refl
  where
    by : (b : Bool) → int_eq m n ≡ b → b ≡ false
    by true is = absurd (differs ((Decides-int_eq m n).0 is))
    by false is = refl

-- sessions of different active recordings are at most as many as these
no_more : (rs : List Registration) (ss : List RecorderSession) → Each (λ s. is_of (find id_of s.recording rs) is_active ≡ true) ss → AreApart ss → length ss ≤ length (filter is_active rs)
no_more rs [] writing apart = omega arith
no_more rs (s ∷ ss) writing apart =
    let left : List Registration = without id_of s.recording rs in
    let others : Each (λ t. is_of (find id_of t.recording left) is_active ≡ true) ss =
    each_both (λ t. is_of (find id_of t.recording rs) is_active ≡ true) (λ t. t.recording ≢ s.recording) (λ t. is_of (find id_of t.recording left) is_active ≡ true) ss
    (λ t has differs. ap (λ (o : Option Registration). is_of o is_active) (found_left t.recording s.recording rs (not_same t.recording s.recording differs)) ∙ has) writing.1 apart.0 in
    let fewer = no_more left ss others apart.1 in
    let less = one_less s.recording rs writing.0 in
    omega (arith, less, fewer)

one_more_session : (g : RegisterState) (ss : List RecorderSession) (s : RecorderSession) → Each (IsWriting g) ss → AreApart ss → active_count g < 64 → length (ss ++ s ∷ []) ≤ 64
one_more_session g ss s writing apart few =
    let fewer = no_more g.recordings ss writing apart in
    let count = length-filter is_active g.recordings in
    let more = length-append ss (s ∷ []) in
    omega (arith, fewer, count, more)

-- ---- sessions

-- a recording more, and a session of it
sessions_begun : (g : RegisterState) (ss : List RecorderSession) (next : ℤ) (r : Registration) → Rise id_of (pos 0) g.recordings g.next → id_of r ≡ g.next → is_active r ≡ true → active_count g < 64 → KeepsSessions g ss next
    → KeepsSessions (with_one r g) (ss ++ begun_session next g.next ∷ []) (next +ℤ pos 1)
sessions_begun g ss next r ids is active few keeps = record {
  rising = rise_push session_number (pos 0) next ss (begun_session next g.next) keeps.rising refl;
  writing = each_push (IsWriting (with_one r g)) ss (begun_session next g.next)
      (each_weaker (IsWriting g) (IsWriting (with_one r g)) ss (λ s has. found_more s.recording g.recordings (r ∷ []) is_active has) keeps.writing)
      (subst (λ (z : ℤ). is_of (find id_of z (g.recordings ++ r ∷ [])) is_active ≡ true) is (found_last (pos 0) g.recordings r is_active (subst (Rise id_of (pos 0) g.recordings) (sym is) ids) active));
  apart = apart_push ss (begun_session next g.next) keeps.apart
      (each_weaker (IsWriting g) (λ s. s.recording ≢ g.next) ss (λ s has. found_below s.recording (pos 0) g.next g.recordings is_active ids has) keeps.writing);
  few = one_more_session g ss (begun_session next g.next) keeps.writing keeps.apart few;
}

pub not_both : (o : Option Registration) → is_of o is_active ≡ true → is_of o (λ r. not (is_active r)) ≡ true → ⊥
not_both None active stopped = true≢false (sym active)
not_both (Some r) active stopped = true≢false (sym stopped ∙ ap not active)

is_there : (o : Option Registration) (test : Registration → Bool) → is_of o test ≡ true → is_some o ≡ true
is_there None test has = absurd (true≢false (sym has))
is_there (Some r) test has = refl

-- a recording that is active again, and a session of it
sessions_extended : (g : RegisterState) (ss : List RecorderSession) (next id session_id : ℤ) → is_of (registration_in g id) (λ r. not (is_active r)) ≡ true → active_count g < 64 → KeepsSessions g ss next
    → KeepsSessions (changed id (changes.Extend session_id) g) (ss ++ begun_session next id ∷ []) (next +ℤ pos 1)
sessions_extended g ss next id session_id stopped few keeps =
    let c = changes.Extend session_id in
    record {
      rising = rise_push session_number (pos 0) next ss (begun_session next id) keeps.rising refl;
      writing = each_push (IsWriting (changed id c g)) ss (begun_session next id)
          (each_weaker (IsWriting g) (IsWriting (changed id c g)) ss (λ s has. found_changed s.recording id (changed_by c) g.recordings is_active (id_kept c) (λ r is. refl) has) keeps.writing)
          (found_here id (changed_by c) g.recordings is_active (id_kept c) (λ r. refl) (is_there (registration_in g id) _ stopped));
      apart = apart_push ss (begun_session next id) keeps.apart
          (each_weaker (IsWriting g) (λ s. s.recording ≢ id) ss
          (λ s has same. not_both (registration_in g id) (subst (λ (z : ℤ). is_of (registration_in g z) is_active ≡ true) same has) stopped) keeps.writing);
      few = one_more_session g ss (begun_session next id) keeps.writing keeps.apart few;
    }

-- a recording that stays active where it was
sessions_changed : (g : RegisterState) (ss : List RecorderSession) (next id : ℤ) (c : Change) → ((r : Registration) → is_active r ≡ true → is_active (changed_by c r) ≡ true) → KeepsSessions g ss next → KeepsSessions (changed id c g) ss next
sessions_changed g ss next id c stays keeps = record {
  rising = keeps.rising;
  writing = each_weaker (IsWriting g) (IsWriting (changed id c g)) ss (λ s has. found_changed s.recording id (changed_by c) g.recordings is_active (id_kept c) stays has) keeps.writing;
  apart = keeps.apart;
  few = keeps.few;
}

-- the sessions of a recording are gone, and the others' recordings are found as they were
sessions_ended : (g h : RegisterState) (ss : List RecorderSession) (next id : ℤ) → ((n : ℤ) → int_eq n id ≡ false → registration_in h n ≡ registration_in g n) → KeepsSessions g ss next
    → KeepsSessions h (filter (λ s. not (is_session_of id s)) ss) next
sessions_ended g h ss next id same keeps =
    let shorter = filter_shorter (λ s. not (is_session_of id s)) ss in
    let few = keeps.few in
    record {
      rising = rise_filter session_number (λ s. not (is_session_of id s)) (pos 0) next ss keeps.rising;
      writing = each_filter (IsWriting g) (IsWriting h) (λ s. not (is_session_of id s)) ss
          (λ s other has. ap (λ (o : Option Registration). is_of o is_active) (same s.recording (other_session id s other)) ∙ has) keeps.writing;
      apart = apart_filter (λ s. not (is_session_of id s)) ss keeps.apart;
      few = omega (arith, shorter, few);
    }

sessions_written : (g : RegisterState) (ss : List RecorderSession) (next n : ℤ) (w : Option Written) → KeepsSessions g ss next → KeepsSessions g (change session_number n (with_written w) ss) next
sessions_written g ss next n w keeps =
    let same = as_many session_number n (with_written w) ss in
    let few = keeps.few in
    record {
      rising = rise_change session_number n (pos 0) next (with_written w) ss (λ s. refl) keeps.rising;
      writing = each_written (λ id. is_of (registration_in g id) is_active ≡ true) n w ss keeps.writing;
      apart = apart_written n w ss keeps.apart;
      few = omega (arith, same, few);
    }

-- ---- replays

-- the recordings of replays are found as they were
replays_weaker : (g h : RegisterState) (rs : List OpenReplay) (next : ℤ) → ((id : ℤ) → is_of (registration_in g id) (λ known. true) ≡ true → is_of (registration_in h id) (λ known. true) ≡ true) → KeepsReplays g rs next → KeepsReplays h rs next
replays_weaker g h rs next stay keeps = record {
  rising = keeps.rising;
  reading = each_weaker (IsReading g) (IsReading h) rs (λ r has. stay r.recording has) keeps.reading;
  few = keeps.few;
}

replays_changed : (g : RegisterState) (rs : List OpenReplay) (next id : ℤ) (c : Change) → KeepsReplays g rs next → KeepsReplays (changed id c g) rs next
replays_changed g rs next id c keeps =
    replays_weaker g (changed id c g) rs next (λ n has. found_changed n id (changed_by c) g.recordings (λ known. true) (id_kept c) (λ r there. refl) has) keeps

replays_ended : (g h : RegisterState) (rs : List OpenReplay) (next id : ℤ) → ((n : ℤ) → int_eq n id ≡ false → registration_in h n ≡ registration_in g n) → KeepsReplays g rs next
    → KeepsReplays h (filter (λ r. not (is_replay_of id r)) rs) next
replays_ended g h rs next id same keeps =
    let shorter = filter_shorter (λ r. not (is_replay_of id r)) rs in
    let few = keeps.few in
    record {
      rising = rise_filter replay_number (λ r. not (is_replay_of id r)) (pos 0) next rs keeps.rising;
      reading = each_filter (IsReading g) (IsReading h) (λ r. not (is_replay_of id r)) rs
          (λ r other has. ap (λ (o : Option Registration). is_of o (λ known. true)) (same r.recording (other_replay id r other)) ∙ has) keeps.reading;
      few = omega (arith, shorter, few);
    }

replays_moved : (g : RegisterState) (rs : List OpenReplay) (next n position : ℤ) → KeepsReplays g rs next → KeepsReplays g (change replay_number n (moved_to position) rs) next
replays_moved g rs next n position keeps =
    let same = as_many replay_number n (moved_to position) rs in
    let few = keeps.few in
    record {
      rising = rise_change replay_number n (pos 0) next (moved_to position) rs (λ r. refl) keeps.rising;
      reading = all rs keeps.reading;
      few = omega (arith, same, few);
    }
  where
    all : (xs : List OpenReplay) → Each (IsReading g) xs → Each (IsReading g) (change replay_number n (moved_to position) xs)
    all [] has = tt
    all (x ∷ xs) has = by (int_eq n (replay_number x)) (all xs has.1)
      where
        by : (b : Bool) → Each (IsReading g) (change replay_number n (moved_to position) xs) → Each (IsReading g) (cond b (moved_to position x ∷ xs) (x ∷ change replay_number n (moved_to position) xs))
        by true rest = (has.0, has.1)
        by false rest = (has.0, rest)

replays_closed : (g : RegisterState) (rs : List OpenReplay) (next n : ℤ) → KeepsReplays g rs next → KeepsReplays g (without replay_number n rs) next
replays_closed g rs next n keeps =
    let shorter = without_shorter replay_number n rs in
    let few = keeps.few in
    record {
      rising = rise_without replay_number n (pos 0) next rs keeps.rising;
      reading = all rs keeps.reading;
      few = omega (arith, shorter, few);
    }
  where
    all : (xs : List OpenReplay) → Each (IsReading g) xs → Each (IsReading g) (without replay_number n xs)
    all [] has = tt
    all (x ∷ xs) has = by (int_eq n (replay_number x)) (all xs has.1)
      where
        by : (b : Bool) → Each (IsReading g) (without replay_number n xs) → Each (IsReading g) (cond b xs (x ∷ without replay_number n xs))
        by true rest = has.1
        by false rest = (has.0, rest)

is_of_some : (o : Option Registration) → is_some o ≡ true → is_of o (λ known. true) ≡ true
is_of_some None h = absurd (true≢false (sym h))
is_of_some (Some r) h = refl

replays_opened : (g : RegisterState) (rs : List OpenReplay) (next : ℤ) (r : OpenReplay) → replay_number r ≡ next → length rs < 64 → is_some (registration_in g r.recording) ≡ true → KeepsReplays g rs next
    → KeepsReplays g (rs ++ r ∷ []) (next +ℤ pos 1)
replays_opened g rs next r is few there keeps =
    let more : length (rs ++ r ∷ []) ≡ length rs + 1 = length-append rs (r ∷ []) in
    record {
      rising = rise_push replay_number (pos 0) next rs r keeps.rising is;
      reading = each_push (IsReading g) rs r keeps.reading (is_of_some (registration_in g r.recording) there);
      few = omega (arith, more);
    }

-- ---- what the desk keeps

pub keeps_begun : (g : RegisterState) (c : CallersState) (r : Registration) → id_of r ≡ g.next → is_active r ≡ true → active_count g < 64 → KeepsSeats g c → KeepsSeats (with_one r g) (with_session g.next c)
keeps_begun g c r is active few keeps = record {
  rising = rise_push id_of (pos 0) g.next g.recordings r keeps.rising is;
  sessions = sessions_begun g c.sessions c.next_session r keeps.rising is active few keeps.sessions;
  replays = replays_weaker g (with_one r g) c.replays c.next_replay (λ id has. found_more id g.recordings (r ∷ []) (λ known. true) has) keeps.replays;
}

ids_changed : (g : RegisterState) (id : ℤ) (change : Change) → Rise id_of (pos 0) g.recordings g.next → Rise id_of (pos 0) (changed id change g).recordings g.next
ids_changed g id change rising = rise_change id_of id (pos 0) g.next (changed_by change) g.recordings (id_kept change) rising

pub keeps_extended : (g : RegisterState) (c : CallersState) (id session_id : ℤ) → is_of (registration_in g id) (λ r. not (is_active r)) ≡ true → active_count g < 64 → KeepsSeats g c
    → KeepsSeats (changed id (changes.Extend session_id) g) (with_session id c)
keeps_extended g c id session_id stopped few keeps = record {
  rising = ids_changed g id (changes.Extend session_id) keeps.rising;
  sessions = sessions_extended g c.sessions c.next_session id session_id stopped few keeps.sessions;
  replays = replays_changed g c.replays c.next_replay id (changes.Extend session_id) keeps.replays;
}

-- a recording that stays active where it was
keeps_changed : (g : RegisterState) (c : CallersState) (id : ℤ) (change : Change) → ((r : Registration) → is_active r ≡ true → is_active (changed_by change r) ≡ true) → KeepsSeats g c → KeepsSeats (changed id change g) c
keeps_changed g c id change stays keeps = record {
  rising = ids_changed g id change keeps.rising;
  sessions = sessions_changed g c.sessions c.next_session id change stays keeps.sessions;
  replays = replays_changed g c.replays c.next_replay id change keeps.replays;
}

-- the first segments of a recording are gone
pub keeps_purged : (g : RegisterState) (c : CallersState) (id position : ℤ) → KeepsSeats g c → KeepsSeats (changed id (changes.PurgeSegments position) g) c
keeps_purged g c id position keeps = keeps_changed g c id (changes.PurgeSegments position) (λ r is. is) keeps

-- a session that wrote, or settled
pub keeps_written : (g : RegisterState) (c : CallersState) (n : ℤ) (w : Option Written) → KeepsSeats g c → KeepsSeats g (with_blocks n w c)
keeps_written g c n w keeps = record { rising = keeps.rising; sessions = sessions_written g c.sessions c.next_session n w keeps.sessions; replays = keeps.replays }

-- what a session wrote is recorded
pub keeps_settled : (g : RegisterState) (c : CallersState) (id position n : ℤ) → KeepsSeats g c → KeepsSeats (changed id (changes.Settle position) g) (with_blocks n None c)
keeps_settled g c id position n keeps = keeps_written (changed id (changes.Settle position) g) c n None (keeps_changed g c id (changes.Settle position) (λ r is. is) keeps)

-- a recording that has no session any more
keeps_ended : (g : RegisterState) (c : CallersState) (id : ℤ) (change : Change) → KeepsSeats g c → KeepsSeats (changed id change g) (without_sessions id c)
keeps_ended g c id change keeps = record {
  rising = ids_changed g id change keeps.rising;
  sessions = sessions_ended g (changed id change g) c.sessions c.next_session id (λ n other. found_other n id (changed_by change) g.recordings (id_kept change) other) keeps.sessions;
  replays = replays_changed g c.replays c.next_replay id change keeps.replays;
}

pub keeps_stopped : (g : RegisterState) (c : CallersState) (id timestamp : ℤ) → KeepsSeats g c → KeepsSeats (changed id (changes.Stop timestamp) g) (without_sessions id c)
keeps_stopped g c id timestamp keeps = keeps_ended g c id (changes.Stop timestamp) keeps

pub keeps_truncated : (g : RegisterState) (c : CallersState) (id position : ℤ) → KeepsSeats g c → KeepsSeats (changed id (changes.Truncate position) g) (without_sessions id c)
keeps_truncated g c id position keeps = keeps_ended g c id (changes.Truncate position) keeps

-- a recording that is gone, and its sessions and replays
pub keeps_removed : (g : RegisterState) (c : CallersState) (id : ℤ) → KeepsSeats g c → KeepsSeats (with_out id g) (without_callers id c)
keeps_removed g c id keeps = record {
  rising = rise_without id_of id (pos 0) g.next g.recordings keeps.rising;
  sessions = sessions_ended g (with_out id g) c.sessions c.next_session id (λ n other. found_left n id g.recordings other) keeps.sessions;
  replays = replays_ended g (with_out id g) c.replays c.next_replay id (λ n other. found_left n id g.recordings other) keeps.replays;
}

restarted_id : (r : Registration) (b : Bool) → id_of (cond b (changed_by (changes.Stop (negsuc 0)) r) r) ≡ id_of r
restarted_id r true = refl
restarted_id r false = refl

-- nobody calls
pub keeps_none : (g : RegisterState) → Rise id_of (pos 0) g.recordings g.next → KeepsSeats g no_callers
keeps_none g rising = record {
  rising = rising;
  sessions = record { rising = omega (arith, ints); writing = tt; apart = tt; few = omega arith };
  replays = record { rising = omega (arith, ints); reading = tt; few = omega arith };
}

-- an opening
pub keeps_restarted : (g : RegisterState) (c : CallersState) → KeepsSeats g c → KeepsSeats (all_stopped g) no_callers
keeps_restarted g c keeps = keeps_none (all_stopped g) (rise_map id_of (pos 0) g.next restarted g.recordings (λ r. restarted_id r (is_active r)) keeps.rising)

-- a replay that goes on
pub keeps_moved : (g : RegisterState) (c : CallersState) (n position : ℤ) → KeepsSeats g c → KeepsSeats g (record c { replays = change replay_number n (moved_to position) c.replays })
keeps_moved g c n position keeps = record { rising = keeps.rising; sessions = keeps.sessions; replays = replays_moved g c.replays c.next_replay n position keeps.replays }

-- a replay less
pub keeps_closed : (g : RegisterState) (c : CallersState) (n : ℤ) → KeepsSeats g c → KeepsSeats g (record c { replays = without replay_number n c.replays })
keeps_closed g c n keeps = record { rising = keeps.rising; sessions = keeps.sessions; replays = replays_closed g c.replays c.next_replay n keeps.replays }

-- a replay more
pub keeps_opened : (g : RegisterState) (c : CallersState) (r : OpenReplay) → replay_number r ≡ c.next_replay → length c.replays < 64 → is_some (registration_in g r.recording) ≡ true → KeepsSeats g c
    → KeepsSeats g (record c { replays = c.replays ++ r ∷ []; next_replay = c.next_replay +ℤ pos 1 })
keeps_opened g c r is few there keeps = record { rising = keeps.rising; sessions = keeps.sessions; replays = replays_opened g c.replays c.next_replay r is few there keeps.replays }

-- what a session that is found wrote is recorded
pub settled_found : (d : DeskState) (n : ℤ) (s : RecorderSession) (w : Written) → session_in d n ≡ Some s → s.written ≡ Some w →
    settled (session_in d n) d ≡ entered (changed s.recording (changes.Settle w.last) d.register) (with_blocks n None d.callers) d
settled_found d n s w found wrote =
    let number : s.number ≡ n = found_number session_number n d.callers.sessions s found in
    ap (λ (o : Option RecorderSession). settled o d) found ∙ ap (λ (o : Option Written). settled_by s o d) wrote
    ∙ ap (λ (m : ℤ). entered (changed s.recording (changes.Settle w.last) d.register) (with_blocks m None d.callers) d) number
