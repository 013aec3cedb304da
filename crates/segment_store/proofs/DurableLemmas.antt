-- Frames that stand whatever a crash does behind them.
use Rattle.std.proofs.Common.{◌≡◌, ◌≢◌, ◌∙◌, inl, inr, sym, ap, subst, refl, ℕ, ℤ, suc, ◌+◌, ◌-◌, ◌<◌, ◌≤◌, true, Option, Some, None, List, [], ◌∷◌, ◌++◌, All, length, append-nil, take, drop, arith}
use Rattle.disk_core.specs.declared.file_id.FileId.{FileId}
use Rattle.disk_core.specs.DiskImage.{DiskImage, FileState, Files, AgreesWhereDurable, LeavesFile, MayLeave, bytes_of, durable, reads}
use Rattle.disk_core.specs.Standing.{Holds, KeepsBelow, unsynced_from}
use Rattle.disk_core.proofs.CallerLemmas.{same_file, keeps_from, keeps_less, unsynced_keeps, unsynced_lower}
use Rattle.frame_core.specs.declared.frame.Frame.{Frame}
use Rattle.frame_core.specs.declared.geometry.Geometry.{Geometry}
use Rattle.frame_core.specs.Block.{AreEncodable}
use Rattle.frame_core.specs.declared.frame.FrameKind.{FrameKind}
use Rattle.frame_core.specs.declared.frame.FrameKind.TheVariants.{Pad, Message, Heartbeat}
use Rattle.frame_core.specs.FrameEncoding.{HasLength, IsEncodable, aligned_length, encoded, header_of, stored, stored_as}
use Rattle.frame_core.proofs.FrontLemmas.{one_front}
use Rattle.segment_store.specs.declared.layout.Layout.{Layout}
use Rattle.segment_store.specs.Layout.{base_of, file_of, offset_of}
use Rattle.segment_store.specs.DamagedFrame.{ShowsFrame, belongs_at, is_stored}
use Rattle.segment_store.specs.Stored.{AreDurableBytes, AreDurableFrames, HoldsFrame, HoldsFrames, IsLeftBelow}
use Rattle.segment_store.proofs.LayoutLemmas.{base_before}
use Rattle.segment_store.proofs.BlockPositionLemmas.{holds_first}
use Rattle.segment_store.proofs.ReadLemmas.{belongs_stored, shown_front}
use Rattle.segment_store.proofs.StoredLemmas.{stored_no_longer}

-- of a durable file, whatever is left has the bytes that stand in it, also where all behind them is unsynced
durable_left : (file : Option (List ℕ)) (at : ℕ) (bytes : List ℕ) → Holds (bytes_of file) at bytes
    → (left : Option (List ℕ)) → LeavesFile (unsynced_from (at + length bytes) (durable file)) left → Holds (bytes_of left) at bytes
durable_left file at bytes holds None leaves k inside = absurd (omega (arith, leaves.absent.1, (holds k inside).0, inside))
durable_left file at bytes holds (Some left) leaves k inside =
    let agrees : AgreesWhereDurable (unsynced_from (at + length bytes) (durable file)) left = leaves.present in
    let last = holds (length bytes - 1) (omega (arith, inside)) in
    let there = holds k inside in (
      omega (arith, agrees.no_shorter, last.0, inside),
      agrees.same (at + k) (λ unsynced. elim unsynced [ inl none ↦ none | inr past ↦ omega (arith, past, last.0, inside) ]) ∙ there.1,
    )

-- bytes that stand in a durable file are durable
pub durable_bytes : (file : FileState) (at : ℕ) (bytes : List ℕ) → file ≡ durable file.reads → Holds (bytes_of file.reads) at bytes → AreDurableBytes file at bytes
durable_bytes file at bytes synced holds left leaves =
    durable_left file.reads at bytes holds left (subst (λ (f : FileState). LeavesFile (unsynced_from (at + length bytes) f) left) synced leaves)

-- frames end at or after the position where they begin
held_end : (image : DiskImage) (l : Layout) (frames : List Frame) (from to : ℕ) → HoldsFrames image l from frames to → from ≤ to
held_end image l [] from to holds = omega (arith, holds)
held_end image l (f ∷ fs) from to holds = omega (arith, held_end image l fs (from + aligned_length f) to holds.1)

-- frames that cover some bytes each, in files that are durable as they read up to the end of the frames
pub synced_frames : (files : Files) (l : Layout) (frames : List Frame) (from to : ℕ) → All (λ f. 0 < aligned_length f) frames → HoldsFrames (reads files) l from frames to
    → ((p : ℕ) → from ≤ p → p < to → files (file_of l p) ≡ durable (reads files (file_of l p))) → AreDurableFrames files l from frames to
synced_frames files l [] from to some holds synced = holds
synced_frames files l (f ∷ fs) from to some holds synced =
    let next : ℕ = from + aligned_length f in
    let first : 0 < aligned_length f = some 0 f (omega arith) in
    let before : from < to = omega (arith, first, held_end (reads files) l fs next to holds.1) in (
      durable_bytes (files (file_of l from)) (offset_of l from) (stored f) (synced from (omega arith) before) holds.0,
      synced_frames files l fs next to (λ k d inside. some (suc k) d (omega (arith, inside))) holds.1 (λ p behind inside. synced p (omega (arith, behind)) inside),
    )

-- bytes stay durable in a file that is changed behind them alone
bytes_kept : (old new : FileState) (at end : ℕ) (bytes : List ℕ) → AreDurableBytes old at bytes → at + length bytes ≤ end → KeepsBelow end old new → AreDurableBytes new at bytes
bytes_kept old new at end bytes stand before kept left leaves =
    stand left (keeps_from (at + length bytes) old new left (keeps_less (at + length bytes) end old new before kept) leaves)

same_base_of : (l : Layout) (p at : ℕ) → file_of l p ≡ file_of l at → base_of l p ≡ base_of l at
same_base_of l p at same = cc

-- bytes that end at or before a position of their file lie below its offset
pub lies_below : (l : Layout) (p at size : ℕ) → p + size ≤ at → file_of l p ≡ file_of l at → offset_of l p + size ≤ offset_of l at
lies_below l p at size before same = omega (arith, before, same_base_of l p at same, base_before l p, base_before l at)

-- frames end behind where they begin
reaches : (files : Files) (l : Layout) (frames : List Frame) (from to : ℕ) → AreDurableFrames files l from frames to → from ≤ to
reaches files l [] from to stand = omega (arith, stand)
reaches files l (f ∷ fs) from to stand = omega (arith, reaches files l fs (from + aligned_length f) to stand.1)

-- frames stay durable in files that are changed behind them alone
pub frames_kept : (old new : Files) (l : Layout) (frames : List Frame) (from to at : ℕ) → AreEncodable frames → AreDurableFrames old l from frames to → to ≤ at
    → KeepsBelow (offset_of l at) (old (file_of l at)) (new (file_of l at)) → ((file : FileId) → file ≢ file_of l at → new file ≡ old file) → AreDurableFrames new l from frames to
frames_kept old new l [] from to at encodable stand before kept others = stand
frames_kept old new l (f ∷ fs) from to at encodable stand before kept others =
    let fits : from + length (stored f) ≤ at = omega (arith, stored_no_longer f encodable.0, reaches old l fs (from + aligned_length f) to stand.1, before) in
    let here : AreDurableBytes (new (file_of l from)) (offset_of l from) (stored f) = elim (same_file (file_of l from) (file_of l at)) [
      | inl same ↦
          bytes_kept (old (file_of l from)) (new (file_of l from)) (offset_of l from) (offset_of l at) (stored f) stand.0 (lies_below l from at (length (stored f)) fits same)
          (subst (λ (file : FileId). KeepsBelow (offset_of l at) (old file) (new file)) (sym same) kept)
      | inr differs ↦ subst (λ (state : FileState). AreDurableBytes state (offset_of l from) (stored f)) (sym (others (file_of l from) differs)) stand.0
    ] in
    (here, frames_kept old new l fs (from + aligned_length f) to at encodable.1 stand.1 before kept others)

-- durable frames stand in what a crash leaves
pub durable_stand : (files : Files) (l : Layout) (frames : List Frame) (from to : ℕ) (image : DiskImage) → AreDurableFrames files l from frames to → MayLeave files image → HoldsFrames image l from frames to
durable_stand files l [] from to image stand left = stand
durable_stand files l (f ∷ fs) from to image stand left = (
  stand.0 (image (file_of l from)) (unsynced_keeps (offset_of l from + length (stored f)) (files (file_of l from)) (image (file_of l from)) (left (file_of l from))),
  durable_stand files l fs (from + aligned_length f) to image stand.1 left,
)

-- and in what one leaves while what is behind them changes
pub durable_below : (files : Files) (l : Layout) (frames : List Frame) (from to at : ℕ) (image : DiskImage) → AreEncodable frames → AreDurableFrames files l from frames to → to ≤ at
    → IsLeftBelow files (file_of l at) (offset_of l at) image → HoldsFrames image l from frames to
durable_below files l [] from to at image encodable stand before left = stand
durable_below files l (f ∷ fs) from to at image encodable stand before left =
    let fits : from + length (stored f) ≤ at = omega (arith, stored_no_longer f encodable.0, reaches files l fs (from + aligned_length f) to stand.1, before) in
    let end : ℕ = offset_of l from + length (stored f) in
    let leaves : LeavesFile (unsynced_from end (files (file_of l from))) (image (file_of l from)) = elim (same_file (file_of l from) (file_of l at)) [
      | inl same ↦
          subst (λ (file : FileId). LeavesFile (unsynced_from end (files file)) (image file)) (sym same)
          (unsynced_lower end (offset_of l at) (files (file_of l at)) (image (file_of l at)) (lies_below l from at (length (stored f)) fits same) left.segment)
      | inr differs ↦ unsynced_keeps end (files (file_of l from)) (image (file_of l from)) (left.others (file_of l from) differs)
    ] in
    (stand.0 (image (file_of l from)) leaves, durable_below files l fs (from + aligned_length f) to at image encodable.1 stand.1 before left)

-- the stored bytes of a frame that belongs begin with its encoding
stored_begins : (kind : FrameKind) (f : Frame) → is_stored kind ≡ true → HasLength kind f.length f.payload → (rest : List ℕ) × (stored_as kind f ≡ encoded f ++ rest)
stored_begins Pad f is long = ([], sym (append-nil (encoded f) ∙ ap (λ (payload : List ℕ). header_of f ++ payload) long.1 ∙ append-nil (header_of f)))
stored_begins Message f is long = (_, refl)
stored_begins Heartbeat f is long = absurd (cc)

-- a frame that is stored where it belongs is shown
pub stored_shown : (image : DiskImage) (l : Layout) (g : Geometry) (limit : ℤ) (p : ℕ) (f : Frame) → HoldsFrame image l p f → IsEncodable f → belongs_at l g p limit f ≡ true → ShowsFrame image l g limit p f
stored_shown image l g limit p f holds encodable belongs =
    let begins = stored_begins f.kind f (belongs_stored l g p limit f belongs) encodable.length in
    let file : List ℕ = bytes_of (image (file_of l p)) in
    record {
      encodable = encodable;
      stands = holds_first file (offset_of l p) (encoded f) begins.0 (subst (Holds file (offset_of l p)) begins.1 holds);
      belongs = belongs;
    }

-- one frame at most is shown at a position
pub one_shown : (image : DiskImage) (l : Layout) (g : Geometry) (limit : ℤ) (p : ℕ) (f other : Frame) → ShowsFrame image l g limit p f → ShowsFrame image l g limit p other → f ≡ other
one_shown image l g limit p f other here there =
    let size : ℕ = length (encoded f) + length (encoded other) in
    let bytes : List ℕ = take size (drop (offset_of l p) (bytes_of (image (file_of l p)))) in
    let first = shown_front image l g limit p bytes f size refl here (omega arith) in
    let second = shown_front image l g limit p bytes other size refl there (omega arith) in
    (one_front bytes f other first.0 second.0 first.1 second.1).0
