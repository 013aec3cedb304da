-- What stands where some files have not changed.
use Rattle.std.proofs.Common.{◌≡◌, ◌≢◌, ◌∙◌, ap, sym, subst, refl, ℕ, ℤ, pos, ◌+◌, ◌+ℤ◌, ◌<ℤ◌, Bool, true, false, cond, true≢false, List, [], ◌∷◌, ◌++◌, Option, Some, length, arith}
use Rattle.std.proofs.lemmas.Int.{ints}
use Rattle.std.proofs.lemmas.Bool.Decides.{Decides-int_eq}
use Rattle.std.specs.Ordering.{int_eq}
use Rattle.engine_core.proofs.Words.{AreDurableBytes, AreDurableFrames, BankA, BankB, DiskImage, Each, FileId, FileState, Files, Frame, Holds, HoldsFrames, Layout, LeavesFile, Recording, aligned_length, bytes_of, durable, file_of, find, id_of, layout_of, offset_of, stored}
use Rattle.disk_core.proofs.CallerLemmas.{unsynced_keeps}
use Rattle.segment_store.proofs.DurableLemmas.{durable_bytes}
use Rattle.archive_model.specs.Keyed.{Rise}
use Rattle.engine_core.specs.Consistent.{Lie}

-- a bank is no segment file

pub segment_not_a : (l : Layout) (p : ℕ) → file_of l p ≢ BankA
segment_not_a l p is = absurd cc

pub segment_not_b : (l : Layout) (p : ℕ) → file_of l p ≢ BankB
segment_not_b l p is = absurd cc

pub a_not_segment : (l : Layout) (p : ℕ) → BankA ≢ file_of l p
a_not_segment l p is = absurd cc

pub b_not_segment : (l : Layout) (p : ℕ) → BankB ≢ file_of l p
b_not_segment l p is = absurd cc

-- recordings of other ids have other files
pub apart : (x : Recording) (l : Layout) (p at : ℕ) → id_of x ≢ l.recording
    → file_of (layout_of x.descriptor) p ≢ file_of l at
apart x l p at other same = other cc

-- frames are durable where their files have not changed
pub frames_same : (old new : Files) (l : Layout) (frames : List Frame) (from to : ℕ) → Lie (λ file. new file ≡ old file) l from frames → AreDurableFrames old l from frames to → AreDurableFrames new l from frames to
frames_same old new l [] from to same stand = stand
frames_same old new l (f ∷ fs) from to same stand = (
  subst (λ (state : FileState). AreDurableBytes state (offset_of l from) (stored f)) (sym same.0) stand.0,
  frames_same old new l fs (from + aligned_length f) to same.1 stand.1,
)

-- bytes that are read in a file which is on the disk as it reads are durable
pub read_durable : (read : Option (List ℕ)) (file : FileState) (at : ℕ) (bytes : List ℕ)
    → file ≡ durable read → Holds (bytes_of read) at bytes → AreDurableBytes file at bytes
read_durable read file at bytes synced holds =
    let reads : file.reads ≡ read = ap (λ (state : FileState). state.reads) synced in
    durable_bytes file at bytes (synced ∙ ap durable (sym reads)) (subst (λ (r : Option (List ℕ)). Holds (bytes_of r) at bytes) (sym reads) holds)

-- durable frames stand in an image to which a crash left their files
pub frames_left : (files : Files) (l : Layout) (frames : List Frame) (from to : ℕ) (image : DiskImage) → Lie (λ file. LeavesFile (files file) (image file)) l from frames → AreDurableFrames files l from frames to → HoldsFrames image l from frames to
frames_left files l [] from to image left stand = stand
frames_left files l (f ∷ fs) from to image left stand = (
  stand.0 (image (file_of l from)) (unsynced_keeps (offset_of l from + length (stored f)) (files (file_of l from)) (image (file_of l from)) left.0),
  frames_left files l fs (from + aligned_length f) to image left.1 stand.1,
)

pub lie_all : (P : FileId → Type 0) (l : Layout) (frames : List Frame) (from : ℕ)
    → ((p : ℕ) → P (file_of l p)) → Lie P l from frames
lie_all P l [] from all = tt
lie_all P l (f ∷ fs) from all = (all from, lie_all P l fs (from + aligned_length f) all)

pub lie_then : (P Q : FileId → Type 0) (l : Layout) (frames : List Frame) (from : ℕ)
    → Lie P l from frames → ((file : FileId) → P file → Q file) → Lie Q l from frames
lie_then P Q l [] from lie follows = tt
lie_then P Q l (f ∷ fs) from lie follows = (follows (file_of l from) lie.0, lie_then P Q l fs (from + aligned_length f) lie.1 follows)

pub same_frames : (old new : Files) (l : Layout) (frames : List Frame) (from to : ℕ) → ((p : ℕ) → new (file_of l p) ≡ old (file_of l p)) → AreDurableFrames old l from frames to → AreDurableFrames new l from frames to
same_frames old new l frames from to same stand = frames_same old new l frames from to (lie_all (λ file. new file ≡ old file) l frames from same) stand

pub left_frames : (files : Files) (l : Layout) (frames : List Frame) (from to : ℕ) (image : DiskImage) → AreDurableFrames files l from frames to → ((p : ℕ) → LeavesFile (files (file_of l p)) (image (file_of l p)))
    → HoldsFrames image l from frames to
left_frames files l frames from to image stand left = frames_left files l frames from to image (lie_all (λ file. LeavesFile (files file) (image file)) l frames from left) stand

pub each_both : {X : Type 0} (P Q : X → Type 0) (xs : List X) → Each P xs → Each Q xs
    → Each (λ x. P x × Q x) xs
each_both P Q [] here there = tt
each_both P Q (x ∷ xs) here there = ((here.0, there.0), each_both P Q xs here.1 there.1)

pub each_then : {X : Type 0} (P Q : X → Type 0) (xs : List X) → Each P xs → ((x : X) → P x → Q x)
    → Each Q xs
each_then P Q [] all follows = tt
each_then P Q (x ∷ xs) all follows = (follows x all.0, each_then P Q xs all.1 follows)

-- one fact of the recording of an id, and one of those of other ids, give one of each

module _ (P Q : Recording → Type 0) (id next : ℤ) (others : (x : Recording) → id_of x ≢ id → P x → Q x) where
  behind : (low : ℤ) (rs : List Recording) → id <ℤ low → Rise id_of low rs next → Each P rs
      → Each Q rs
  behind low [] less rising all = tt
  behind low (x ∷ xs) less rising all =
      let differs : id_of x ≢ id = λ same. omega (arith, ints, less, rising.0, same) in
      (others x differs all.0, behind (id_of x +ℤ pos 1) xs (omega (arith, ints, less, rising.0)) rising.1 all.1)

  pub each_by : (low : ℤ) (rs : List Recording) (r : Recording) → Rise id_of low rs next
      → find id_of id rs ≡ Some r → Each P rs → (P r → Q r) → Each Q rs
  each_by low [] r rising found all this = tt
  each_by low (x ∷ xs) r rising found all this = by (int_eq id (id_of x)) refl found (λ is. each_by (id_of x +ℤ pos 1) xs r rising.1 is all.1 this)
    where
      by : (b : Bool) → int_eq id (id_of x) ≡ b → cond b (Some x) (find id_of id xs) ≡ Some r
          → (find id_of id xs ≡ Some r → Each Q xs) → Each Q (x ∷ xs)
      by true e is later =
          let same : x ≡ r = cc in
          let here : id ≡ id_of x = (Decides-int_eq id (id_of x)).0 e in
          (subst Q (sym same) (this (subst P same all.0)), behind (id_of x +ℤ pos 1) xs (omega (arith, ints, here)) rising.1 all.1)
      by false e is later =
          let differs : id_of x ≢ id = λ same. true≢false (sym ((Decides-int_eq id (id_of x)).1 (sym same)) ∙ e) in
          (others x differs all.0, later is)

-- frames stand behind others

pub holds_append : (image : DiskImage) (l : Layout) (fs gs : List Frame) (from mid to : ℕ) → HoldsFrames image l from fs mid → HoldsFrames image l mid gs to → HoldsFrames image l from (fs ++ gs) to
holds_append image l [] gs from mid to front back = subst (λ (n : ℕ). HoldsFrames image l n gs to) (sym front) back
holds_append image l (f ∷ fs) gs from mid to front back = (front.0, holds_append image l fs gs (from + aligned_length f) mid to front.1 back)

pub durable_append : (files : Files) (l : Layout) (fs gs : List Frame) (from mid to : ℕ) → AreDurableFrames files l from fs mid → AreDurableFrames files l mid gs to → AreDurableFrames files l from (fs ++ gs) to
durable_append files l [] gs from mid to front back = subst (λ (n : ℕ). AreDurableFrames files l n gs to) (sym front) back
durable_append files l (f ∷ fs) gs from mid to front back = (front.0, durable_append files l fs gs (from + aligned_length f) mid to front.1 back)
