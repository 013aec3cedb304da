-- What the frames of a datagram take of a stock.
use Rattle.std.proofs.Common.{◌≡◌, inl, inr, refl, subst, ◌+◌, ◌≤◌, ℕ, ℤ, List, [], ◌∷◌, ◌++◌, length, length-append, Bool, true, false, Some, arith}
use Rattle.std.specs.Prelude.{unsigned_abs}
use Rattle.std.specs.List.{AllByRecursion, list_all}
use Rattle.std.proofs.lemmas.Bool.Decides.{nat_tests}
use Rattle.std.proofs.lemmas.Int.{ints}
use Rattle.frame_core.specs.declared.block.Publication.{Publication}
use Rattle.frame_core.specs.declared.frame.Frame.{Frame}
use Rattle.frame_core.specs.declared.frame.FrameKind.{FrameKind}
use Rattle.frame_core.specs.declared.frame.FrameKind.TheVariants.{Heartbeat, Message, Pad}
use Rattle.frame_core.specs.declared.geometry.Geometry.{Geometry}
use Rattle.frame_core.specs.Datagram.{IsDatagram}
use Rattle.frame_core.specs.FrameEncoding.{HasLength, aligned, aligned_length, stored}
use Rattle.frame_core.specs.Position.{frame_position}
use Rattle.frame_core.proofs.DatagramLemmas.{one_list}
use Rattle.image_core.specs.Kept.{AreMembers}
use Rattle.image_core.specs.Rebuild.{end_of}
use Rattle.image_core.specs.Received.{IsChain, Received}
use Rattle.image_core.specs.Stock.{are_near, is_near, is_near_of, stock_end}
use Rattle.publication_core.specs.declared.datagram.Datagram.{Datagram}
use Rattle.publication_core.specs.Copies.{AreAmong}
use Rattle.publication_core.specs.Meeting.{HasGone}
use Rattle.publication_core.specs.Runs.{AreMessages, IsMadeOf, IsPadIf, stored_all}
use Rattle.publication_core.proofs.BytesLemmas.{length_pad}
use Rattle.publication_core.proofs.HoldLemmas.{member_of}
use Rattle.publication_core.proofs.MadeLemmas.{length_message}
use Rattle.publication_core.proofs.ReadLemmas.{frames_of, is_datagram}
use Rattle.publication_core.proofs.TermLemmas.{may_join}

-- what is kept of the frames of a datagram ends at a position at most
abbrev pub KeptBelow : ℕ → Datagram → Type 0
KeptBelow most d = d.position + length d.bytes ≤ most

pub kept_further : (most more : ℕ) (ds : List Datagram) → most ≤ more → AllByRecursion (KeptBelow most) ds → AllByRecursion (KeptBelow more) ds
kept_further most more [] up kept = tt
kept_further most more (d ∷ ds) up kept = (let here = kept.0 in omega (arith, here, up), kept_further most more ds up kept.1)

pub kept_both : (most : ℕ) (ds es : List Datagram) → AllByRecursion (KeptBelow most) ds → AllByRecursion (KeptBelow most) es → AllByRecursion (KeptBelow most) (ds ++ es)
kept_both most [] es here there = there
kept_both most (d ∷ ds) es here there = (here.0, kept_both most ds es here.1 there)

pub kept_gone : (most : ℕ) (out : List Datagram) (d : Datagram) → AllByRecursion (KeptBelow most) out → HasGone out d → KeptBelow most d
kept_gone most [] d kept gone = elim gone [ ]
kept_gone most (x ∷ out) d kept (inl is) = rw is kept.0
kept_gone most (x ∷ out) d kept (inr gone) = kept_gone most out d kept.1 gone

-- ---- of a run

-- a pad covers at least its header
pad_covers : (kind : FrameKind) (size : ℤ) (payload : List ℕ) → kind ≡ Pad → HasLength kind size payload → 32 ≤ aligned (unsigned_abs size)
pad_covers Pad size payload is has = omega (arith, ints, has.0)
pad_covers Message size payload is has = absurd (cc)
pad_covers Heartbeat size payload is has = absurd (cc)

kept_run : (g : Geometry) (publication : Publication) (stream : List (ℕ × Frame)) (closed : Bool) (p q : ℕ) (messages pad : List (ℕ × Frame)) → AreMembers g publication stream
    → AreAmong stream messages → AreMessages messages → AreAmong stream pad → IsPadIf closed pad → IsChain p (messages ++ pad) q
    → p + length (stored_all messages ++ stored_all pad) ≤ q
kept_run g publication stream false p q [] [] members among kinds last is chain = omega (arith, chain)
kept_run g publication stream false p q [] (m ∷ pad) members among kinds last is chain = elim is [ ]
kept_run g publication stream true p q [] [] members among kinds last is chain = elim is [ ]
kept_run g publication stream true p q [] (m ∷ n ∷ pad) members among kinds last is chain = elim is [ ]
kept_run g publication stream true p q [] (m ∷ []) members among kinds last is chain =
    let size = length_pad m.1.kind m.1 is in
    let covers = pad_covers m.1.kind m.1.length m.1.payload is (member_of g publication m.0 m.1 stream members last.0).encodable.length in
    let at = chain.0 in
    let ends = chain.2 in
    omega (arith, size, covers, at, ends, length-append (stored m.1) [])
kept_run g publication stream closed p q (m ∷ ms) pad members among kinds last is chain =
    let size : length (stored m.1) ≡ aligned_length m.1 = length_message m.1 (member_of g publication m.0 m.1 stream members among.0).encodable kinds.0 in
    let rest = kept_run g publication stream closed (end_of m) q ms pad members among.1 kinds.1 last is chain.2 in
    let at = chain.0 in
    omega (arith, size, rest, at, length-append (stored m.1 ++ stored_all ms) (stored_all pad), length-append (stored m.1) (stored_all ms), length-append (stored_all ms) (stored_all pad))

-- what is kept ends where the datagram does at the latest
pub made_kept : (g : Geometry) (publication : Publication) (stream : List (ℕ × Frame)) (d : Datagram) → AreMembers g publication stream → IsMadeOf stream d → KeptBelow d.end d
made_kept g publication stream d members made =
    rw made.bytes (kept_run g publication stream d.is_closed d.position d.end made.messages made.pad members made.among.0 made.kinds.0 made.among.1 made.kinds.1 made.follows)

-- ---- near frames

near_message : (kind : FrameKind) (g : Geometry) (limit p : ℕ) (f : Frame) → kind ≡ Message → frame_position g f ≡ Some p → p + aligned_length f ≤ limit → is_near_of kind g limit f ≡ true
near_message Message g limit p f is at low = rw at (grind (arith, nat_tests, low))
near_message Pad g limit p f is at low = absurd (cc)
near_message Heartbeat g limit p f is at low = absurd (cc)

near_pad : (kind : FrameKind) (g : Geometry) (limit p : ℕ) (f : Frame) → kind ≡ Pad → frame_position g f ≡ Some p → p + 32 ≤ limit → is_near_of kind g limit f ≡ true
near_pad Pad g limit p f is at low = rw at (grind (arith, nat_tests, low))
near_pad Message g limit p f is at low = absurd (cc)
near_pad Heartbeat g limit p f is at low = absurd (cc)

near_heartbeat : (kind : FrameKind) (g : Geometry) (limit : ℕ) (f : Frame) → kind ≡ Heartbeat → is_near_of kind g limit f ≡ true
near_heartbeat Heartbeat g limit f is = refl
near_heartbeat Message g limit f is = absurd (cc)
near_heartbeat Pad g limit f is = absurd (cc)

near_run : (g : Geometry) (publication : Publication) (stream : List (ℕ × Frame)) (closed : Bool) (p q limit : ℕ) (messages pad : List (ℕ × Frame)) → AreMembers g publication stream
    → AreAmong stream messages → AreMessages messages → AreAmong stream pad → IsPadIf closed pad → IsChain p (messages ++ pad) q
    → p + length (stored_all messages ++ stored_all pad) ≤ limit → list_all (is_near g limit) (frames_of (messages ++ pad)) ≡ true
near_run g publication stream false p q limit [] [] members among kinds last is chain low = refl
near_run g publication stream false p q limit [] (m ∷ pad) members among kinds last is chain low = elim is [ ]
near_run g publication stream true p q limit [] [] members among kinds last is chain low = elim is [ ]
near_run g publication stream true p q limit [] (m ∷ n ∷ pad) members among kinds last is chain low = elim is [ ]
near_run g publication stream true p q limit [] (m ∷ []) members among kinds last is chain low =
    let size = length_pad m.1.kind m.1 is in
    let at = chain.0 in
    let here : is_near g limit m.1 ≡ true =
    near_pad m.1.kind g limit m.0 m.1 is (may_join g publication m.1 m.0 (member_of g publication m.0 m.1 stream members last.0).lies).at
    (omega (arith, size, at, low, length-append (stored m.1) [])) in
    rw here refl
near_run g publication stream closed p q limit (m ∷ ms) pad members among kinds last is chain low =
    let member = member_of g publication m.0 m.1 stream members among.0 in
    let size : length (stored m.1) ≡ aligned_length m.1 = length_message m.1 member.encodable kinds.0 in
    let at = chain.0 in
    let first = length-append (stored m.1 ++ stored_all ms) (stored_all pad) in
    let second = length-append (stored m.1) (stored_all ms) in
    let third = length-append (stored_all ms) (stored_all pad) in
    let here : is_near g limit m.1 ≡ true =
    near_message m.1.kind g limit m.0 m.1 kinds.0 (may_join g publication m.1 m.0 member.lies).at (omega (arith, size, at, low, first, second)) in
    rw here (near_run g publication stream closed (end_of m) q limit ms pad members among.1 kinds.1 last is chain.2 (omega (arith, size, at, low, first, second, third)))

-- each frame that is read from a datagram is near, if what is kept of the datagram ends within the stock
pub near_read : (g : Geometry) (publication : Publication) (stream : List (ℕ × Frame)) (d : Datagram) (fs : List Frame) (r : Received) → AreMembers g publication stream → r.geometry ≡ g
    → IsMadeOf stream d → KeptBelow (stock_end r) d → IsDatagram d.bytes fs → are_near r fs ≡ true
near_read g publication stream d fs r members same made kept reads =
    subst (λ (gs : List Frame). are_near r gs ≡ true) (one_list d.bytes (frames_of (made.messages ++ made.pad)) fs (is_datagram g publication stream d members made) reads)
    (rw same (near_run g publication stream d.is_closed d.position d.end (stock_end r) made.messages made.pad members made.among.0 made.kinds.0 made.among.1 made.kinds.1 made.follows
    (rw (← made.bytes) kept)))

pub near_lone : (f : Frame) (fs : List Frame) (r : Received) → f.kind ≡ Heartbeat → fs ≡ f ∷ [] → are_near r fs ≡ true
near_lone f fs r is lone =
    let here : is_near r.geometry (stock_end r) f ≡ true = near_heartbeat f.kind r.geometry (stock_end r) f is in
    rw (lone, here) refl
