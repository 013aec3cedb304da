-- A sweep leaves an archive as it is.
use Rattle.std.proofs.Common.{rules, cond, ◌≡◌, ◌≢◌, ◌⊎◌, ◌∙◌, inl, inr, sym, ap, subst, refl, ℕ, ℤ, pos, ◌+◌, ◌-◌, ◌%◌, ◌<◌, ◌≤◌, ◌<ℤ◌, ◌≤ℤ◌, Bool, true, false, true≢false, ◌||◌, ◌&&◌, List, [], ◌∷◌, Some, map, max, int_le, int_lt, unsigned_abs, arith}
use Rattle.std.proofs.lemmas.Int.{ints}
use Rattle.std.proofs.lemmas.Nat.{div-add-mod'}
use Rattle.std.proofs.Math.Nat.{mod-eq_of_lt, mod-lt}
use Rattle.std.proofs.lemmas.Bool.Decides.{nat_tests, Decides-int_eq}
use Rattle.std.specs.Prelude.{◌==◌, not}
use Rattle.std.specs.List.{list_any}
use Rattle.std.specs.Ordering.{int_eq}
use Rattle.engine_core.proofs.Words.{AreEncodable, BankA, BankB, Below, DiskImage, Each, FileId, Files, Frame, FrameKind, Heartbeat, HoldsRecording, IsDurable, IsKept, IsOfStream, IsQuiet, IsSound, IsWell, Keep, Layout, LeavesFile, LeavesOnly, Life, LogState, Message, Pad, Recording, RecoversTo, State, SweepsAtMost, aligned_length, banks_left, base_of, covered, each_found, file_of, find, first_of, goes_quiet, id_of, is_active, is_power, is_term_length, keeps_of, last_of, layout_of, other_files, recorded_position, started, weaker}
use Rattle.frame_core.specs.FrameEncoding.{HasLength}
use Rattle.frame_core.specs.Segment.{first_base, segment_base}
use Rattle.frame_core.proofs.SegmentLemmas.{base_between}
use Rattle.segment_store.specs.Stale.{is_base_of_recorded, is_kept, is_stale, keeps_base}
use Rattle.segment_store.proofs.LayoutLemmas.{base_before, length_positive}
use Rattle.engine_core.specs.Moves.{SparesKept, StaysSound, keep_of}
use Rattle.engine_core.specs.Consistent.{Lie}
use Rattle.engine_core.proofs.files.FrameLemmas.{each_both, each_then, frames_left, frames_same, lie_then}
use Rattle.engine_core.proofs.files.WriteLemmas.{natural}

-- tests of a list

pub or_left : (a b : Bool) → a ≡ true → a || b ≡ true
or_left true b is = refl
or_left false b is = absurd (true≢false (sym is))

pub or_right : (a b : Bool) → b ≡ true → a || b ≡ true
or_right true b is = refl
or_right false b is = is

pub and_both : (a b : Bool) → a ≡ true → b ≡ true → a && b ≡ true
and_both true b first second = second
and_both false b first second = absurd (true≢false (sym first))

pub and_not : (a b : Bool) → b ≡ true → a && not b ≡ false
and_not true true is = refl
and_not true false is = absurd (true≢false (sym is))
and_not false b is = refl

-- what a test finds of a recording it finds of the state
abbrev Hits : List Keep → Recording → Type 0
Hits keeps r = (test : Keep → Bool) → test (keep_of r) ≡ true → list_any test keeps ≡ true

each_hit : (keeps : List Keep) (rs : List Recording) → ((test : Keep → Bool) → list_any test (map keep_of rs) ≡ true → list_any test keeps ≡ true) → Each (Hits keeps) rs
each_hit keeps [] within = tt
each_hit keeps (r ∷ rs) within = (
  λ test is. within test (or_left (test (keep_of r)) (list_any test (map keep_of rs)) is),
  each_hit keeps rs (λ test is. within test (or_right (test (keep_of r)) (list_any test (map keep_of rs)) is)),
)

all_hit : (s : State) → Each (Hits (keeps_of s)) s.recordings
all_hit s = each_hit (keeps_of s) s.recordings (λ test is. or_right (test (Below s.next)) (list_any test (map keep_of s.recordings)) is)

-- which bases a recording keeps

low_base : (start t s p : ℕ) → 0 < t → t ≤ s → start ≤ p
    → segment_base start t s start ≤ segment_base start t s p
low_base start t s p some less from =
    let rest : start - first_base start t ≡ start % t = omega (arith, div-add-mod' start t) in
    let small : start % t < s = omega (arith, mod-lt start some, less) in
    let same : (start - first_base start t) % s ≡ start - first_base start t = ap (λ (n : ℕ). n % s) rest ∙ mod-eq_of_lt small ∙ sym rest in
    let part : (p - first_base start t) % s ≤ p - first_base start t = omega (arith, div-add-mod' (p - first_base start t) s) in
    let low : first_base start t ≤ start = omega arith in
    omega (arith, same, part, low, from)

int_before : (a b : ℤ) → a <ℤ b → int_lt a b ≡ true
int_before a b less = search rules

between : (l : Layout) (p q : ℕ) → 0 < unsigned_abs l.segment_length
    → unsigned_abs l.start_position ≤ q → q ≤ p → base_of l p ≤ q → base_of l q ≡ base_of l p
unfolding base_of
between l p q some from before behind = base_between (unsigned_abs l.start_position) (unsigned_abs l.term_length) (unsigned_abs l.segment_length) p q some from before behind

pub base_kept : (l : Layout) (recorded : ℤ) (p : ℕ) → 0 < unsigned_abs l.segment_length → unsigned_abs l.start_position ≤ p → pos p <ℤ recorded → is_base_of_recorded l recorded (pos (base_of l p)) ≡ true
unfolding is_base_of_recorded
base_kept l recorded p some from before =
    let first : ℕ = max (base_of l p) (unsigned_abs l.start_position) in
    let within : first ≤ p = omega (arith, base_before l p, from) in
    let inside : int_lt (pos first) recorded ≡ true = int_before (pos first) recorded (omega (arith, ints, within, before)) in
    let same : base_of l first ≡ base_of l p = between l p first some (omega arith) within (omega arith) in
    and_both (int_lt (pos first) recorded) (base_of l first == base_of l p) inside (subst (λ (n : ℕ). (n == base_of l p) ≡ true) (sym same) (grind (arith, nat_tests)))

pub start_kept : (l : Layout) (p : ℕ) → 0 < unsigned_abs l.term_length
    → unsigned_abs l.term_length ≤ unsigned_abs l.segment_length → unsigned_abs l.start_position ≤ p
    → int_le (pos (base_of l (unsigned_abs l.start_position))) (pos (base_of l p)) ≡ true
unfolding base_of
start_kept l p some less from =
    let low = low_base (unsigned_abs l.start_position) (unsigned_abs l.term_length) (unsigned_abs l.segment_length) p some less from in
    grind (arith, nat_tests)

pub length_low : (length : ℤ) → is_term_length length ≡ true → pos 0 ≤ℤ length
length_low length is = let power = is_power length is in subst (λ (z : ℤ). pos 0 ≤ℤ z) (sym power.3) (omega (arith, ints))

-- a position is one that the recording keeps: recorded, or where it is active any from its start on
abbrev IsKeptAt : Recording → ℕ → Type 0
IsKeptAt r p = (is_active r ≡ true) ⊎ (pos p <ℤ recorded_position r)

keeps_its_base : (r : Recording) (p : ℕ) → IsKept r → first_of r ≤ p → IsKeptAt r p → keeps_base (layout_of r.descriptor) (recorded_position r) (is_active r) (pos (base_of (layout_of r.descriptor) p)) ≡ true
keeps_its_base r p kept from at = by (is_active r) refl at
  where
    l : Layout
    l = layout_of r.descriptor

    by : (b : Bool) → is_active r ≡ b → IsKeptAt r p
        → keeps_base l (recorded_position r) b (pos (base_of l p)) ≡ true
    by true active at = start_kept l p (length_positive l.term_length kept.term) (natural l.term_length l.segment_length (length_low l.term_length kept.term) kept.no_less) from
    by false stopped (inl active) = absurd (true≢false (sym active ∙ stopped))
    by false stopped (inr before) = base_kept l (recorded_position r) p (length_positive l.segment_length kept.segment) from before

-- so its file is not stale
fresh_file : (keeps : List Keep) (r : Recording) (p : ℕ) → IsKept r → Hits keeps r → first_of r ≤ p
    → IsKeptAt r p → is_stale keeps (file_of (layout_of r.descriptor) p) ≡ false
fresh_file keeps r p kept hits from at =
    let base : ℤ = pos (base_of (layout_of r.descriptor) p) in
    let mine : int_eq (id_of r) (id_of r) ≡ true = (Decides-int_eq (id_of r) (id_of r)).1 refl in
    let here : is_kept (id_of r) base (keep_of r) ≡ true = and_both (int_eq (id_of r) (id_of r)) _ mine (keeps_its_base r p kept from at) in
    and_not _ (list_any (is_kept (id_of r) base) keeps) (hits (is_kept (id_of r) base) here)

-- a frame of a recording covers some bytes
some_bytes : (kind : FrameKind) (f : Frame) → kind ≢ Heartbeat → HasLength kind f.length f.payload
    → 0 < aligned_length f
some_bytes Pad f other long = omega (arith, ints, long.0)
some_bytes Message f other long = omega (arith, ints, long)
some_bytes Heartbeat f other long = absurd (other refl)

frames_fresh : (keeps : List Keep) (r : Recording) (fs : List Frame) (from : ℕ) → IsKept r → Hits keeps r → first_of r ≤ from → pos (from + covered fs) ≤ℤ recorded_position r → AreEncodable fs → Each (IsOfStream r.descriptor.stream_id) fs
    → Lie (λ file. is_stale keeps file ≡ false) (layout_of r.descriptor) from fs
frames_fresh keeps r [] from kept hits behind within encodable stream = tt
frames_fresh keeps r (f ∷ fs) from kept hits behind within encodable stream =
    let some = some_bytes f.kind f stream.0.kind encodable.0.length in (
      fresh_file keeps r from kept hits behind (inr (omega (arith, ints, some, within))),
      frames_fresh keeps r fs (from + aligned_length f) kept hits (omega (arith, behind)) (omega (arith, ints, within)) encodable.1 stream.1,
    )

-- no recorded frame lies in a stale file
recordings_fresh : (s : State) → IsWell s → Each (λ r. Lie (λ file. is_stale (keeps_of s) file ≡ false) (layout_of r.descriptor) (first_of r) r.frames) s.recordings
recordings_fresh s well =
    each_then (λ r. IsKept r × Hits (keeps_of s) r) (λ r. Lie (λ file. is_stale (keeps_of s) file ≡ false) (layout_of r.descriptor) (first_of r) r.frames) s.recordings
    (each_both IsKept (Hits (keeps_of s)) s.recordings well.kept (all_hit s))
    (λ r both. frames_fresh (keeps_of s) r r.frames (first_of r) both.0 both.1 (omega arith) (omega (arith, ints, both.0.start)) both.0.encodable both.0.of_stream)

-- what is not stale is not what was swept
other_than : (keeps : List Keep) (this file : FileId) → is_stale keeps this ≡ true
    → is_stale keeps file ≡ false → file ≢ this
other_than keeps this file stale fresh same = true≢false (sym stale ∙ ap (is_stale keeps) (sym same) ∙ fresh)

pub fresh_kept : (keeps : List Keep) (old new : Life) → IsQuiet old new ⊎ ((file : FileId) × SweepsAtMost keeps file old new) → (file : FileId) → is_stale keeps file ≡ false → new.now file ≡ old.now file
fresh_kept keeps old new (inl quiet) file fresh = ap (λ (files : Files). files file) quiet.now
fresh_kept keeps old new (inr swept) file fresh = swept.1.touches.changes.others file (other_than keeps swept.0 file swept.1.stale fresh)

pub spares_kept : (keeps : List Keep) (old new : Life) → IsQuiet old new ⊎ ((file : FileId) × SweepsAtMost keeps file old new) → SparesKept keeps old new
spares_kept keeps old new (inl quiet) = record { same = fresh_kept keeps old new (inl quiet); obeyed = quiet.obeyed; faults = quiet.faults }
spares_kept keeps old new (inr swept) = record { same = fresh_kept keeps old new (inr swept); obeyed = swept.1.touches.changes.obeyed; faults = swept.1.touches.changes.faults }

-- an archive to whose kept files nothing happened stays with its state

sound_kept : (old new : Life) (log : LogState) (s : State) → IsSound old.now log s → ((file : FileId) → is_stale (keeps_of s) file ≡ false → new.now file ≡ old.now file) → IsSound new.now log s
sound_kept old new log s sound kept = record {
  entries = sound.entries;
  rests = other_files old.now new.now log sound.entries sound.rests (kept BankA refl) (kept BankB refl);
  folds = sound.folds;
  frames = each_then (λ r. Lie (λ file. is_stale (keeps_of s) file ≡ false) (layout_of r.descriptor) (first_of r) r.frames × IsDurable old.now r) (IsDurable new.now) s.recordings
      (each_both (λ r. Lie (λ file. is_stale (keeps_of s) file ≡ false) (layout_of r.descriptor) (first_of r) r.frames) (IsDurable old.now) s.recordings (recordings_fresh s sound.well) sound.frames)
      (λ r both. frames_same old.now new.now (layout_of r.descriptor) r.frames (first_of r) (last_of r) (lie_then (λ file. is_stale (keeps_of s) file ≡ false) (λ file. new.now file ≡ old.now file) (layout_of r.descriptor) r.frames (first_of r) both.0 kept) both.1);
  well = sound.well;
}

kept_recovers : (files : Files) (log : LogState) (s : State) (image : DiskImage) → IsSound files log s → ((file : FileId) → is_stale (keeps_of s) file ≡ false → LeavesFile (files file) (image file)) → RecoversTo (λ x. x ≡ s) image
kept_recovers files log s image sound kept = record {
  state = s;
  is = refl;
  recovers = record {
    header = log.header;
    entries = sound.entries;
    catalogue = banks_left files log sound.entries image sound.rests (kept BankA refl) (kept BankB refl);
    folds = sound.folds;
    frames = each_then (λ r. Lie (λ file. is_stale (keeps_of s) file ≡ false) (layout_of r.descriptor) (first_of r) r.frames × IsDurable files r) (HoldsRecording image) s.recordings
        (each_both (λ r. Lie (λ file. is_stale (keeps_of s) file ≡ false) (layout_of r.descriptor) (first_of r) r.frames) (IsDurable files) s.recordings (recordings_fresh s sound.well) sound.frames)
        (λ r both. frames_left files (layout_of r.descriptor) r.frames (first_of r) (last_of r) image (lie_then (λ file. is_stale (keeps_of s) file ≡ false) (λ file. LeavesFile (files file) (image file)) (layout_of r.descriptor) r.frames (first_of r) both.0 kept) both.1);
    well = sound.well;
  };
}

moments_kept : (old new : Life) (log : LogState) (s : State) → IsSound old.now log s → IsQuiet old new ⊎ ((file : FileId) × SweepsAtMost (keeps_of s) file old new) → LeavesOnly old new (RecoversTo (λ x. x ≡ s))
moments_kept old new log s sound (inl quiet) =
    goes_quiet old old new (RecoversTo (λ x. x ≡ s)) (started old (RecoversTo (λ x. x ≡ s)) (λ image left. kept_recovers old.now log s image sound (λ file fresh. left file))) quiet
moments_kept old new log s sound (inr swept) =
    weaker old new (RecoversTo (λ x. x ≡ s)) _ swept.1.touches.any_moment (λ image left. kept_recovers old.now log s image sound (λ file fresh. left file (other_than (keeps_of s) swept.0 file swept.1.stale fresh)))

pub sweep_stays : (keeps : List Keep) (old new : Life) (log : LogState) (s : State) → IsSound old.now log s → keeps ≡ keeps_of s → IsQuiet old new ⊎ ((file : FileId) × SweepsAtMost keeps file old new) → StaysSound old new log s
sweep_stays keeps old new log s sound same bounded =
    let mine : IsQuiet old new ⊎ ((file : FileId) × SweepsAtMost (keeps_of s) file old new) = subst (λ (ks : List Keep). IsQuiet old new ⊎ ((file : FileId) × SweepsAtMost ks file old new)) same bounded in
    (sound_kept old new log s sound (fresh_kept (keeps_of s) old new mine), moments_kept old new log s sound mine)

-- the files of an active recording from its start on are kept

found_hits : (test : Keep → Bool) (id : ℤ) (rs : List Recording) (r : Recording)
    → find id_of id rs ≡ Some r → test (keep_of r) ≡ true → list_any test (map keep_of rs) ≡ true
found_hits test id [] r found is = absurd cc
found_hits test id (x ∷ xs) r found is = by (int_eq id (id_of x)) found (λ later. found_hits test id xs r later is)
  where
    by : (b : Bool) → cond b (Some x) (find id_of id xs) ≡ Some r → (find id_of id xs ≡ Some r → list_any test (map keep_of xs) ≡ true) → test (keep_of x) || list_any test (map keep_of xs) ≡ true
    by true here later = let same : r ≡ x = cc in or_left (test (keep_of x)) (list_any test (map keep_of xs)) (subst (λ (y : Recording). test (keep_of y) ≡ true) same is)
    by false here later = or_right (test (keep_of x)) (list_any test (map keep_of xs)) (later here)

pub active_kept : (keeps : List Keep) (old new : Life) (s : State) (id : ℤ) (r : Recording) (p : ℕ) → IsWell s → keeps ≡ keeps_of s → IsQuiet old new ⊎ ((file : FileId) × SweepsAtMost keeps file old new)
    → find id_of id s.recordings ≡ Some r → is_active r ≡ true → first_of r ≤ p → new.now (file_of (layout_of r.descriptor) p) ≡ old.now (file_of (layout_of r.descriptor) p)
active_kept keeps old new s id r p well same bounded found active from =
    let hits : Hits (keeps_of s) r = λ test is. or_right (test (Below s.next)) (list_any test (map keep_of s.recordings)) (found_hits test id s.recordings r found is) in
    let fresh = fresh_file (keeps_of s) r p (each_found id_of IsKept id s.recordings r well.kept found) hits from (inl active) in
    fresh_kept keeps old new bounded (file_of (layout_of r.descriptor) p) (ap (λ (ks : List Keep). is_stale ks (file_of (layout_of r.descriptor) p)) same ∙ fresh)
