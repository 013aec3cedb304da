-- Which frame a window shows.
use Rattle.std.proofs.Common.{◌≡◌, ◌⊎◌, ◌∙◌, inl, inr, sym, ap, subst, refl, ℕ, ℤ, ◌+◌, ◌-◌, ◌≤◌, true, List, length, take, drop, min, arith}
use Rattle.std.proofs.lemmas.List.{drop-drop, drop-take}
use Rattle.disk_core.specs.declared.file_id.FileId.{FileId}
use Rattle.disk_core.specs.DiskImage.{DiskImage, bytes_of}
use Rattle.frame_core.specs.declared.frame.Frame.{Frame}
use Rattle.frame_core.specs.declared.geometry.Geometry.{Geometry}
use Rattle.frame_core.specs.FrameEncoding.{aligned_length}
use Rattle.frame_core.specs.Header.{StartsWithHeader}
use Rattle.segment_store.specs.declared.boundary.Window.{Window}
use Rattle.segment_store.specs.declared.layout.Layout.{Layout}
use Rattle.segment_store.specs.declared.layout.Spot.{Spot}
use Rattle.segment_store.specs.Layout.{file_of, offset_of}
use Rattle.segment_store.specs.DamagedFrame.{belongs_at}
use Rattle.segment_store.specs.Reading.{encoded_size}
use Rattle.segment_store.specs.Window.{Covers, FrameEndsAt, IsWindow, StartsAt}
use Rattle.segment_store.proofs.ShownLemmas.{HasNumbersFrom, header_shown}

-- a part of what was read
part_of : (file bytes : List ℕ) (count offset start : ℕ) → take count bytes ≡ take count (drop offset file) → start ≤ count → take (count - start) (drop start bytes) ≡ take (count - start) (drop (offset + start) file)
part_of file bytes count offset start same within =
    let m : ℕ = count - start in
    let all : start + m ≡ count = omega (arith, within) in
    sym (drop-take start m bytes) ∙ ap (λ (n : ℕ). drop start (take n bytes)) all ∙ ap (drop start) same ∙ ap (λ (n : ℕ). drop start (take n (drop offset file))) (sym all)
    ∙ drop-take start m (drop offset file) ∙ ap (take m) (drop-drop start offset file)

-- a header in front of the bytes, which belongs there and whose frame is whole, is that of a frame that ends there
pub header_ends : (image : DiskImage) (l : Layout) (g : Geometry) (limit : ℤ) (p : ℕ) (bytes : List ℕ) (header : Frame) (size : ℕ) → bytes ≡ take size (drop (offset_of l p) (bytes_of (image (file_of l p)))) → StartsWithHeader bytes header
    → belongs_at l g p limit header ≡ true → offset_of l p + encoded_size header ≤ length (bytes_of (image (file_of l p))) → (end : ℕ) → end ≡ p + aligned_length header → FrameEndsAt image l g limit p end
header_ends image l g limit p bytes header size are starts belongs whole end is =
    let payload : List ℕ = take (encoded_size header - 32) (drop 32 (drop (offset_of l p) (bytes_of (image (file_of l p))))) in
    record { frame = record header { payload = payload }; shown = header_shown image l g limit p bytes header size payload are starts belongs (whole, refl); is = is }

-- what a window has from a spot on
pub window_has : (image : DiskImage) (w : Window) (spot : Spot) (l : Layout) (p : ℕ) (bytes : List ℕ) → IsWindow image w → Covers w spot ⊎ StartsAt spot w
    → spot.file ≡ file_of l p → spot.offset ≡ offset_of l p
    → bytes ≡ take (min w.count 65536 - min (spot.offset - w.offset) (min w.count 65536)) (drop (min (spot.offset - w.offset) (min w.count 65536)) w.bytes)
    → HasNumbersFrom (bytes_of (image (file_of l p))) (offset_of l p) bytes × (w.length ≡ length (bytes_of (image (file_of l p))))
window_has image w spot l p bytes window has file_is offset_is are =
    let file : List ℕ = bytes_of (image w.file) in
    let start : ℕ = min (spot.offset - w.offset) (min w.count 65536) in
    let same_file : w.file ≡ file_of l p = elim has [ inl covers ↦ covers.file ∙ file_is | inr starts ↦ starts.file ∙ file_is ] in
    let count : min w.count 65536 ≡ w.count = omega (arith, window.count_is) in
    let sum : w.offset + start ≡ offset_of l p = elim has [ inl covers ↦ omega (arith, covers.behind, covers.within, count, offset_is) | inr starts ↦ omega (arith, starts.offset, offset_is) ] in
    let within : start ≤ w.count = omega (arith, count) in
    let read : bytes ≡ take (w.count - start) (drop (offset_of l p) file) =
    are ∙ ap (λ (n : ℕ). take (n - start) (drop start w.bytes)) count ∙ part_of file w.bytes w.count w.offset start window.bytes_are within ∙ ap (λ (n : ℕ). take (w.count - start) (drop n file)) sum in
    let enough : (32 ≤ w.count - start) ⊎ (w.count - start ≡ min 65536 (length file - offset_of l p)) = elim has [
      | inl covers ↦ inl (omega (arith, covers.behind, covers.within, count))
      | inr starts ↦ inr (omega (arith, starts.offset, offset_is, window.count_is))
    ] in
    subst (λ (f : FileId). HasNumbersFrom (bytes_of (image f)) (offset_of l p) bytes × (w.length ≡ length (bytes_of (image f)))) same_file
    (record { size = w.count - start; are = read; enough = enough }, window.length_is)
