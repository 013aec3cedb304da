-- Frames that join.
use Rattle.std.proofs.Common.{◌≡◌, ◌+◌, ◌<◌, ◌≤◌, ℕ, List, [], ◌∷◌, true, Some, arith}
use Rattle.std.specs.Ordering.{nat_cmp}
use Rattle.std.specs.Map.{remove_entry}
use Rattle.std.specs.BTreeMap.{insert_entry, is_at}
use Rattle.std.proofs.lemmas.Bool.Decides.{nat_tests}
use Rattle.frame_core.specs.declared.frame.Frame.{Frame}
use Rattle.frame_core.specs.declared.block.Publication.{Publication}
use Rattle.frame_core.specs.declared.geometry.Geometry.{Geometry}
use Rattle.frame_core.specs.FrameEncoding.{IsEncodable, aligned_length}
use Rattle.image_core.specs.Rebuild.{end_of}
use Rattle.image_core.specs.Received.{is_free, joining_position}
use Rattle.image_core.specs.Kept.{AreMembers, AreSpaced}

pub spaced_insert : (low high p : ℕ) (f : Frame) (ms : List (ℕ × Frame)) → AreSpaced low high ms → low ≤ p → 0 < aligned_length f → p + aligned_length f ≤ high
    → is_free p (p + aligned_length f) ms ≡ true → AreSpaced low high (insert_entry nat_cmp ms p f)
spaced_insert low high p f [] spaced above some ends free = (above, some, ends, tt)
spaced_insert low high p f (m ∷ ms) spaced above some ends free = grind (arith, nat_tests, spaced_insert (end_of m) high p f ms spaced.3)

-- a frame that joined goes out as it came in
pub remove_inserted : (low high p : ℕ) (f : Frame) (ms : List (ℕ × Frame)) → AreSpaced low high ms → 0 < aligned_length f → is_free p (p + aligned_length f) ms ≡ true
    → remove_entry (is_at (nat_cmp p)) (insert_entry nat_cmp ms p f) ≡ ms
remove_inserted low high p f [] spaced some free = grind (arith, nat_tests)
remove_inserted low high p f (m ∷ ms) spaced some free = grind (arith, nat_tests, remove_inserted (end_of m) high p f ms spaced.3)

pub members_insert : (g : Geometry) (publication : Publication) (p : ℕ) (f : Frame) (ms : List (ℕ × Frame)) → AreMembers g publication ms → IsEncodable f
    → joining_position g publication f ≡ Some p → AreMembers g publication (insert_entry nat_cmp ms p f)
members_insert g publication p f [] members encodable lies = (encodable, lies, tt)
members_insert g publication p f (m ∷ ms) members encodable lies = grind (arith, nat_tests, members_insert g publication p f ms members.2 encodable lies)
