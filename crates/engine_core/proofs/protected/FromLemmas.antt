-- The recorded frames from a position on, and what becomes of them.
use Rattle.std.proofs.Common.{rules, ◌≡◌, ◌≢◌, ◌∙◌, ◌+◌, ◌-◌, ◌<◌, ◌≤◌, ◌+ℤ◌, ◌≤ℤ◌, ◌++◌, inl, inr, append-nil, append_assoc, sym, ap, subst, refl, ℕ, ℤ, pos, negsuc, Bool, true, false, cond, true≢false, List, [], ◌∷◌, filter, int_le, arith}
use Rattle.std.proofs.lemmas.Int.{ints}
use Rattle.std.proofs.lemmas.List.Elements.{filter-append}
use Rattle.std.specs.Prelude.{unsigned_abs}
use Rattle.engine_core.proofs.Words.{AreEncodable, Block, DiskImage, Each, Frame, FrameKind, Heartbeat, HoldsFrames, HoldsRecording, IsKept, IsOfStream, Layout, Message, Pad, PolledFrame, Recording, aligned_length, base_of, covered, first_of, frames_of, is_active, is_boundary, is_later_base, last_of, layout_of, recorded_position, registration_of, stored}
use Rattle.disk_core.specs.DiskImage.{bytes_of}
use Rattle.disk_core.specs.Standing.{Holds}
use Rattle.disk_core.specs.declared.file_id.FileId.TheVariants.{Segment}
use Rattle.frame_core.specs.FrameEncoding.{HasLength}
use Rattle.segment_store.specs.Stored.{HoldsFrame}
use Rattle.archive_model.specs.Commands.{appended, extended, purged, restarted, stopped}
use Rattle.archive_model.specs.Replay.{placed, placed_frames}
use Rattle.archive_model.proofs.CutLemmas.{IsEdge}
use Rattle.archive_model.proofs.LeftLemmas.{purge_leaves_last}
use Rattle.archive_model.proofs.ReplayLemmas.{placed-append, placed_appended}
use Rattle.control_core.proofs.FoundLemmas.{each_both, each_filter}
use Rattle.control_core.proofs.PollLemmas.{le_true}
use Rattle.engine_core.specs.Protected.{KeepsFrom, StandFrom, frames_from, is_from}
use Rattle.engine_core.proofs.files.StayLemmas.{is_later, same_bases}
use Rattle.engine_core.proofs.replays.ReadLemmas.{bounds_edge}

-- ---- frames that are placed

is_le : (a b : ℤ) → a ≤ℤ b → int_le a b ≡ true
is_le a b low = search rules

-- of frames that end at or before a position none begins from it on
none_from : (p at : ℤ) (fs : List Frame) → Each (λ (f : Frame). 0 < aligned_length f) fs → (at +ℤ pos (covered fs)) ≤ℤ p → filter (is_from p) (placed at fs) ≡ []
none_from p at [] cover low = refl
none_from p at (f ∷ fs) cover low = by (int_le p at) refl (none_from p (at +ℤ pos (aligned_length f)) fs cover.1 (omega (arith, ints, low)))
  where
    rest : List PolledFrame
    rest = filter (is_from p) (placed (at +ℤ pos (aligned_length f)) fs)

    by : (b : Bool) → int_le p at ≡ b → rest ≡ [] → cond b (record { position = at; frame = f } ∷ rest) rest ≡ []
    by true is later = let here = le_true p at is in let some = cover.0 in absurd (omega (arith, ints, here, some, low))
    by false is later = later

-- of frames from a position on each does
all_from : (p at : ℤ) (fs : List Frame) → p ≤ℤ at → filter (is_from p) (placed at fs) ≡ placed at fs
all_from p at [] low = refl
all_from p at (f ∷ fs) low = rw (is_le p at low) (ap (λ (xs : List PolledFrame). record { position = at; frame = f } ∷ xs) (all_from p (at +ℤ pos (aligned_length f)) fs (omega (arith, ints, low))))

-- frames from a later position are among those from an earlier one
later_from : (p q : ℤ) (fs : List PolledFrame) → p ≤ℤ q → filter (is_from q) (filter (is_from p) fs) ≡ filter (is_from q) fs
later_from p q [] low = refl
later_from p q (f ∷ fs) low = by (int_le p f.position) (int_le q f.position) refl refl (later_from p q fs low)
  where
    rest : List PolledFrame
    rest = filter (is_from p) fs

    by : (b c : Bool) → int_le p f.position ≡ b → int_le q f.position ≡ c → filter (is_from q) rest ≡ filter (is_from q) fs
        → filter (is_from q) (cond b (f ∷ rest) rest) ≡ cond c (f ∷ filter (is_from q) fs) (filter (is_from q) fs)
    by true true is there later = rw there (ap (λ (xs : List PolledFrame). f ∷ xs) later)
    by true false is there later = rw there later
    by false true is there later =
        let past = le_true q f.position there in
        absurd (true≢false (sym (is_le p f.position (omega (arith, ints, past, low))) ∙ is))
    by false false is there later = later

each_first : {X : Type 0} (P : X → Type 0) (xs ys : List X) → Each P (xs ++ ys) → Each P xs
each_first P [] ys all = tt
each_first P (x ∷ xs) ys all = (all.0, each_first P xs ys all.1)

-- ---- a frame of a recording covers some bytes

some_bytes : (kind : FrameKind) (f : Frame) → kind ≢ Heartbeat → HasLength kind f.length f.payload → 0 < aligned_length f
some_bytes Pad f other long = omega (arith, ints, long.0)
some_bytes Message f other long = omega (arith, ints, long)
some_bytes Heartbeat f other long = absurd (other refl)

pub all_cover : (stream : ℤ) (fs : List Frame) → Each (IsOfStream stream) fs → AreEncodable fs → Each (λ (f : Frame). 0 < aligned_length f) fs
all_cover stream [] of_stream encodable = tt
all_cover stream (f ∷ fs) of_stream encodable = (some_bytes f.kind f of_stream.0.kind encodable.0.length, all_cover stream fs of_stream.1 encodable.1)

-- from where some frames end on there are the others
pub parted_from : (p at : ℤ) (front back : List Frame) → Each (λ (f : Frame). 0 < aligned_length f) front → (at +ℤ pos (covered front)) ≤ℤ p → filter (is_from p) (placed at (front ++ back)) ≡ filter (is_from p) (placed (at +ℤ pos (covered front)) back)
parted_from p at front back cover low =
    let parts : filter (is_from p) (placed at (front ++ back)) ≡ filter (is_from p) (placed at front ++ placed (at +ℤ pos (covered front)) back) = ap (filter (is_from p)) (placed-append at front back) in
    let split = filter-append (is_from p) (placed at front) (placed (at +ℤ pos (covered front)) back) in
    parts ∙ split ∙ ap (λ (xs : List PolledFrame). xs ++ filter (is_from p) (placed (at +ℤ pos (covered front)) back)) (none_from p at front cover low)

pub back_from : (at : ℤ) (front back : List Frame) → Each (λ (f : Frame). 0 < aligned_length f) front → filter (is_from (at +ℤ pos (covered front))) (placed at (front ++ back)) ≡ placed (at +ℤ pos (covered front)) back
back_from at front back cover =
    let p : ℤ = at +ℤ pos (covered front) in
    parted_from p at front back cover (omega (arith, ints)) ∙ all_from p p back (omega (arith, ints))

-- ---- a recording

pub keeps_itself : (p : ℤ) (r : Recording) → r.descriptor.start_position ≤ℤ p → KeepsFrom p r r
keeps_itself p r low = record {
  more = [];
  frames = sym (append-nil (frames_from p r));
  id = refl;
  stream = refl;
  geometry = refl;
  places = λ q from. refl;
  from = low;
}

pub keeps_on : (p : ℤ) (r x y : Recording) → KeepsFrom p r x → KeepsFrom p x y → KeepsFrom p r y
keeps_on p r x y first next = record {
  more = first.more ++ next.more;
  frames = next.frames ∙ ap (λ (fs : List PolledFrame). fs ++ next.more) first.frames ∙ append_assoc (frames_from p r) first.more next.more;
  id = next.id ∙ first.id;
  stream = next.stream ∙ first.stream;
  geometry = next.geometry ∙ first.geometry;
  places = λ q from. next.places q from ∙ first.places q from;
  from = next.from;
}

pub keeps_later : (p q : ℤ) (r x : Recording) → p ≤ℤ q → KeepsFrom p r x → KeepsFrom q r x
keeps_later p q r x low k = record {
  more = filter (is_from q) k.more;
  frames = sym (later_from p q (placed_frames x) low) ∙ ap (filter (is_from q)) k.frames ∙ filter-append (is_from q) (frames_from p r) k.more
      ∙ ap (λ (fs : List PolledFrame). fs ++ filter (is_from q) k.more) (later_from p q (placed_frames r) low);
  id = k.id;
  stream = k.stream;
  geometry = k.geometry;
  places = λ n from. k.places n (omega (arith, ints, from, low));
  from = (let first = k.from in omega (arith, ints, first, low));
}

pub keeps_appended : (p : ℤ) (x : Recording) (blocks : List Block) → x.descriptor.start_position ≤ℤ p → KeepsFrom p x (appended blocks x)
keeps_appended p x blocks low = record {
  more = filter (is_from p) (placed (recorded_position x) (frames_of blocks));
  frames = ap (filter (is_from p)) (placed_appended blocks x) ∙ filter-append (is_from p) (placed_frames x) (placed (recorded_position x) (frames_of blocks));
  id = refl;
  stream = refl;
  geometry = refl;
  places = λ q from. refl;
  from = low;
}

-- a recording that differs in what no frame rests on

pub keeps_stopped : (p timestamp : ℤ) (x : Recording) → x.descriptor.start_position ≤ℤ p → KeepsFrom p x (stopped timestamp x)
keeps_stopped p timestamp x low = record { more = []; frames = sym (append-nil (frames_from p x)); id = refl; stream = refl; geometry = refl; places = λ q from. refl; from = low }

pub keeps_extended : (p session_id : ℤ) (x : Recording) → x.descriptor.start_position ≤ℤ p → KeepsFrom p x (extended session_id x)
keeps_extended p session_id x low = record { more = []; frames = sym (append-nil (frames_from p x)); id = refl; stream = refl; geometry = refl; places = λ q from. refl; from = low }

pub keeps_restarted : (p : ℤ) (x : Recording) → x.descriptor.start_position ≤ℤ p → KeepsFrom p x (restarted x)
keeps_restarted p x low = by (is_active x)
  where
    by : (b : Bool) → KeepsFrom p x (cond b (stopped (negsuc 0) x) x)
    by true = keeps_stopped p (negsuc 0) x low
    by false = keeps_itself p x low

-- a purge of segments up to the position, or up to one before it
pub keeps_purged : (p position : ℤ) (x : Recording) → IsKept x → is_later_base position (registration_of x) ≡ true → position ≤ℤ p → KeepsFrom p x (purged position x)
keeps_purged p position x kept base low =
    let last = purge_leaves_last x position kept base in
    let gone : List Frame = last.0 in
    let left : List Frame = (purged position x).frames in
    let start : ℤ = x.descriptor.start_position in
    let whole : x.frames ≡ gone ++ left = last.1 in
    let sum : position ≡ start +ℤ pos (covered gone) = last.2 in
    let cover : Each (λ (f : Frame). 0 < aligned_length f) gone =
    each_first (λ (f : Frame). 0 < aligned_length f) gone left (subst (Each (λ (f : Frame). 0 < aligned_length f)) whole (all_cover x.descriptor.stream_id x.frames kept.of_stream kept.encodable)) in
    let parts : frames_from p x ≡ filter (is_from p) (placed start (gone ++ left)) = ap (λ (fs : List Frame). filter (is_from p) (placed start fs)) whole in
    let same : frames_from p x ≡ frames_from p (purged position x) =
    parts ∙ parted_from p start gone left cover (omega (arith, ints, sum, low)) ∙ ap (λ (z : ℤ). filter (is_from p) (placed z left)) (sym sum) in
    let later = is_later x position base in
    record {
      more = [];
      frames = sym same ∙ sym (append-nil (frames_from p x));
      id = refl;
      stream = refl;
      geometry = refl;
      places = λ q from. same_bases x position q kept later (let at = later.is in omega (arith, ints, at, from, low));
      from = low;
    }

-- ---- an image

-- frames that stand one after another, each in its place
stand_placed : (image : DiskImage) (l : Layout) (fs : List Frame) (from to : ℕ) → HoldsFrames image l from fs to → Each (λ (f : PolledFrame). HoldsFrame image l (unsigned_abs f.position) f.frame) (placed (pos from) fs)
stand_placed image l [] from to stand = tt
stand_placed image l (f ∷ fs) from to stand = (stand.0, stand_placed image l fs (from + aligned_length f) to stand.1)

-- a frame stands wherever its position has the same base
stand_alike : (image : DiskImage) (old new : Layout) (q : ℕ) (f : Frame) → new.recording ≡ old.recording → base_of new q ≡ base_of old q → HoldsFrame image new q f → HoldsFrame image old q f
stand_alike image old new q f recording base stand =
    subst (λ (n : ℕ). Holds (bytes_of (image (Segment old.recording (pos n)))) (q - n) (stored f)) base
    (subst (λ (id : ℤ). Holds (bytes_of (image (Segment id (pos (base_of new q))))) (q - base_of new q) (stored f)) recording stand)

-- where a recording stands that keeps the frames of another, these stand in their places
pub stand_from : (image : DiskImage) (p : ℤ) (r x : Recording) → IsKept x → KeepsFrom p r x → HoldsRecording image x → StandFrom image p r
stand_from image p r x kept k holds =
    let lay : Layout = layout_of x.descriptor in
    let old : Layout = layout_of r.descriptor in
    let In : PolledFrame → Type 0 = λ f. HoldsFrame image lay (unsigned_abs f.position) f.frame in
    let Past : PolledFrame → Type 0 = λ f. p ≤ℤ f.position in
    let At : PolledFrame → Type 0 = λ f. HoldsFrame image old (unsigned_abs f.position) f.frame in
    let start : pos (first_of x) ≡ x.descriptor.start_position = (let low = kept.start in omega (arith, ints, low)) in
    let all : Each In (placed_frames x) = subst (λ (z : ℤ). Each In (placed z x.frames)) start (stand_placed image lay x.frames (first_of x) (last_of x) holds) in
    let there : Each In (frames_from p x) = each_filter In In (is_from p) (placed_frames x) (λ f is has. has) all in
    let first : Each In (frames_from p r) = each_first In (frames_from p r) k.more (subst (Each In) k.frames there) in
    let past : Each Past (frames_from p r) = each_filter (λ (f : PolledFrame). Unit {0}) Past (is_from p) (placed_frames r) (λ f is has. le_true p f.position is) (each_unit (placed_frames r)) in
    each_both Past In At (frames_from p r) (λ f from has. stand_alike image old lay (unsigned_abs f.position) f.frame k.id (k.places (unsigned_abs f.position) (at_zero f.position from)) has) past first
  where
    each_unit : (fs : List PolledFrame) → Each (λ (f : PolledFrame). Unit {0}) fs
    each_unit [] = tt
    each_unit (f ∷ fs) = (tt, each_unit fs)

    low : pos 0 ≤ℤ p
    low = let start = kept.start in let from = k.from in omega (arith, ints, start, from)

    at_zero : (q : ℤ) → p ≤ℤ q → p ≤ℤ pos (unsigned_abs q)
    at_zero q from = omega (arith, ints, from, low)

-- from a later position on too
pub stand_later : (image : DiskImage) (p q : ℤ) (r : Recording) → p ≤ℤ q → StandFrom image p r → StandFrom image q r
stand_later image p q r low stand =
    let In : PolledFrame → Type 0 = λ f. HoldsFrame image (layout_of r.descriptor) (unsigned_abs f.position) f.frame in
    subst (Each In) (later_from p q (placed_frames r) low) (each_filter In In (is_from q) (frames_from p r) (λ f is has. has) stand)

-- ---- boundaries

edge_low : (p at : ℕ) (fs : List Frame) → IsEdge p at fs → at ≤ p
edge_low p at [] edge = omega (arith, edge)
edge_low p at (f ∷ fs) (inl is) = omega (arith, is)
edge_low p at (f ∷ fs) (inr edge) = let rest = edge_low p (at + aligned_length f) fs edge in omega (arith, rest)

-- a recording begins at each of its boundaries or before it
pub boundary_past : (p : ℤ) (r : Recording) → IsKept r → is_boundary p r ≡ true → r.descriptor.start_position ≤ℤ p
boundary_past p r kept is =
    let edge = bounds_edge p r.descriptor.start_position r.frames kept.start is in
    let low : first_of r ≤ edge.0 = edge_low edge.0 (first_of r) r.frames edge.2 in
    let at : p ≡ pos edge.0 = edge.1 in
    let start = kept.start in
    omega (arith, ints, low, at, start)
