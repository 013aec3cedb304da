-- A setup frame begins an image at the sender position.
use Rattle.std.proofs.Common.{◌≡◌, ◌∙◌, sym, ap, refl, ◌+◌, ◌-◌, ◌*◌, ◌/◌, ◌^◌, ◌≤ℤ◌, ◌+ℤ◌, ◌*ℤ◌, ℕ, ℤ, pos, negsuc, List, [], ◌∷◌, true, arith}
use Rattle.std.specs.Prelude.{unsigned_abs}
use Rattle.std.proofs.lemmas.Int.{ints}
use Rattle.std.proofs.lemmas.Nat.{pow-add}
use Rattle.frame_core.specs.declared.block.Publication.{Publication}
use Rattle.frame_core.specs.declared.frame.Frame.{Frame}
use Rattle.frame_core.specs.declared.geometry.Geometry.{Geometry}
use Rattle.frame_core.specs.declared.setup.Setup.{Setup}
use Rattle.frame_core.specs.FrameEncoding.{IsAligned}
use Rattle.frame_core.specs.Limits.{is_mtu, is_term_length}
use Rattle.frame_core.specs.Setup.{geometry_of}
use Rattle.frame_core.proofs.LimitsLemmas.{is_power}
use Rattle.image_core.specs.Rebuild.{end_of}
use Rattle.image_core.specs.Received.{IsBegun, IsChain, begun}
use Rattle.publication_core.specs.declared.datagram.Datagram.{Datagram}
use Rattle.publication_core.specs.Order.{AreRunsOf, laid_by}
use Rattle.publication_core.specs.Runs.{Call, after_calls}
use Rattle.publication_core.specs.Sending.{new_sending}
use Rattle.publication_core.specs.Signs.{IsSetupOf}
use Rattle.publication_core.proofs.OrderLemmas.{all_in_order}

-- ---- multiples of 32

chain_aligned : (p q : ℕ) (ms : List (ℕ × Frame)) → IsChain p ms q → IsAligned (pos p) → IsAligned (pos q)
chain_aligned p q [] chain is = rw (← chain) is
chain_aligned p q (m ∷ ms) chain is =
    chain_aligned (end_of m) q ms chain.2 (let begins = chain.0 in let at = is.1 in (is.0 + (unsigned_abs m.1.length + 31) / 32, ap pos (omega (arith, ints, at))))

runs_aligned : (p q : ℕ) (ds : List Datagram) (frames : List (ℕ × Frame)) → AreRunsOf p ds frames q → IsAligned (pos p) → IsAligned (pos q)
runs_aligned p q [] frames runs is = rw (← runs.1) is
runs_aligned p q (d ∷ ds) frames (run, rest, split, at, chain, bytes, others) is = runs_aligned d.end q ds rest others (chain_aligned p d.end run chain is)

term_aligned : (z : ℤ) → is_term_length z ≡ true → IsAligned z
term_aligned z is =
    let found = is_power z is in
    let low = found.1 in
    let split : 2 ^ (5 + (found.0 - 5)) ≡ 2 ^ 5 * 2 ^ (found.0 - 5) = pow-add 2 5 (found.0 - 5) in
    let same : 5 + (found.0 - 5) ≡ found.0 = omega (arith, low) in
    let whole = rw same at split in (2 ^ (found.0 - 5), found.3 ∙ ap pos whole)

rest_aligned : (terms offset size : ℤ) (p : ℕ) → pos 0 ≤ℤ terms → pos 0 ≤ℤ offset → pos p ≡ terms *ℤ size +ℤ offset → IsAligned size → IsAligned (pos p) → IsAligned offset
rest_aligned (negsuc t) offset size p low above sum by whole = absurd (omega (arith, ints, low))
rest_aligned (pos t) (negsuc o) size p low above sum by whole = absurd (omega (arith, ints, above))
rest_aligned (pos t) (pos o) size p low above sum by whole =
    let is = rw by.1 at sum in (whole.0 - t * by.0, ap pos (omega (arith, ints, is, whole.1)))

-- ---- images

same_geometry : (g : Geometry) (publication : Publication) (p : ℕ) (s : Setup) → IsSetupOf g publication p s → geometry_of s ≡ g
same_geometry g publication p s is = rw (is.initial_term_id, is.term_length, is.mtu) refl

same_publication : (g : Geometry) (publication : Publication) (p : ℕ) (s : Setup) → IsSetupOf g publication p s
    → begun g publication p ≡ begun g (record { session_id = s.session_id; stream_id = s.stream_id }) p
same_publication g publication p s is = rw (is.session_id, is.stream_id) refl

begins : (g : Geometry) (publication : Publication) (p : ℕ) (s : Setup) → is_term_length g.term_length ≡ true → is_mtu g.mtu ≡ true → IsAligned (pos p) → IsSetupOf g publication p s
    → IsBegun s (begun g publication p)
begins g publication p s terms mtu aligned is =
    let at = is.at in
    let same = same_geometry g publication p s is in
    record {
      position = p;
      joins = record {
        term_length = rw is.term_length terms;
        mtu = rw is.mtu mtu;
        offset = rest_aligned _ s.term_offset g.term_length p at.since at.low at.sum (term_aligned g.term_length terms) aligned;
        joins = rw same at;
      };
      begins = same_publication g publication p s is ∙ ap (λ (it : Geometry). begun it (record { session_id = s.session_id; stream_id = s.stream_id }) p) (sym same);
    }

-- after any calls
pub all_begin : (g : Geometry) (publication : Publication) (from to : ℕ) (cs : List Call) (s : Setup) → is_term_length g.term_length ≡ true → is_mtu g.mtu ≡ true → IsAligned (pos from)
    → IsChain from (laid_by cs) to → IsSetupOf g publication (after_calls cs (new_sending g publication from)).flow.position s
    → IsBegun s (begun g publication (after_calls cs (new_sending g publication from)).flow.position)
all_begin g publication from to cs s terms mtu aligned chain is =
    let order = all_in_order g publication from to cs chain in
    begins g publication _ s terms mtu (runs_aligned from _ _ order.sent order.went aligned) is
