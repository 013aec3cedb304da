-- What was taken makes no difference.
use Rattle.std.proofs.Common.{◌≡◌, ◌∙◌, sym, ap, refl, ◌+◌, ◌≤◌, ℕ, List, [], ◌∷◌, ◌++◌, Bool, Some, None, append_assoc, pos, ◌+ℤ◌, arith}
use Rattle.std.specs.Prelude.{max, Option, if◌then◌else◌}
use Rattle.std.specs.Ordering.{nat_cmp}
use Rattle.std.specs.BTreeMap.{insert_entry}
use Rattle.frame_core.specs.declared.frame.FrameKind.{FrameKind}
use Rattle.frame_core.specs.declared.frame.FrameKind.TheVariants.{Pad, Message, Heartbeat}
use Rattle.frame_core.specs.declared.frame.Frame.{Frame}
use Rattle.frame_core.specs.FrameEncoding.{aligned_length}
use Rattle.image_core.specs.declared.fate.Fate.{Fate}
use Rattle.image_core.specs.declared.fate.Fate.TheVariants.{Joins, Tells, Drops}
use Rattle.image_core.specs.Rebuild.{end_of, chain_end, next_start}
use Rattle.image_core.specs.Received.{Received, after_frame, fate, fate_of, frame_fate, gap_end, heartbeat_fate, is_free, is_open, rebuilt, received, received_all, window}
use Rattle.image_core.specs.Received.{IsChain, IsUnseen, StandsFor}
use Rattle.image_core.specs.Take.{IsGap}
use Rattle.frame_core.specs.declared.nak.Nak.{Nak}
use Rattle.image_core.proofs.ChainLemmas.{chain_append, chain_low, chain_over, chain_up}
use Rattle.image_core.proofs.FateLemmas.{by_kind}
use Rattle.image_core.proofs.KeptLemmas.{open_parts}
use Rattle.std.proofs.lemmas.Bool.Decides.{nat_tests}

-- a chain that was taken lies before what is asked there
free_over : (p q x end : ℕ) (taken ms : List (ℕ × Frame)) → IsChain p taken q → q ≤ x → is_free x end (taken ++ ms) ≡ is_free x end ms
free_over p q x end [] ms chain past = refl
free_over p q x end (m ∷ taken) ms chain past = grind (arith, chain_up (end_of m) q taken chain.2, free_over (end_of m) q x end taken ms chain.2)

insert_over : (p q x : ℕ) (f : Frame) (taken ms : List (ℕ × Frame)) → IsChain p taken q → q ≤ x → insert_entry nat_cmp (taken ++ ms) x f ≡ taken ++ insert_entry nat_cmp ms x f
insert_over p q x f [] ms chain past = refl
insert_over p q x f (m ∷ taken) ms chain past = grind (arith, nat_tests, chain_up (end_of m) q taken chain.2, insert_over (end_of m) q x f taken ms chain.2)

next_over : (p q x other : ℕ) (taken ms : List (ℕ × Frame)) → IsChain p taken q → q ≤ x → next_start x other (taken ++ ms) ≡ next_start x other ms
next_over p q x other [] ms chain past = refl
next_over p q x other (m ∷ taken) ms chain past = grind (arith, chain_up (end_of m) q taken chain.2, next_over (end_of m) q x other taken ms chain.2)

rebuilt_same : (all r : Received) → StandsFor all r → rebuilt all ≡ rebuilt r
rebuilt_same all r s = ap (chain_end all.from) s.joined ∙ chain_over all.from r.from s.taken r.joined s.chain

open_same : (all r : Received) → StandsFor all r → (p end : ℕ) → is_open all p end ≡ is_open r p end
open_same all r s p end =
    let window_same : window all.geometry ≡ window r.geometry = ap window s.geometry in
    let free : is_free p end all.joined ≡ is_free p end (s.taken ++ r.joined) = ap (is_free p end) s.joined in
    grind (arith, rebuilt_same all r s, window_same, free, chain_low r.from r.joined, free_over all.from r.from p end s.taken r.joined s.chain)

gap_same : (all r : Received) → StandsFor all r → gap_end all ≡ gap_end r
gap_same all r s =
    let low = chain_low r.from r.joined in
    rw (rebuilt_same all r s, s.high, s.geometry, s.joined, next_over all.from r.from (rebuilt r) r.high s.taken r.joined s.chain low) refl

frame_same : (all r : Received) → StandsFor all r → (f : Frame) (o : Option ℕ) → frame_fate all f o ≡ frame_fate r f o
frame_same all r s f None = refl
frame_same all r s f (Some p) = ap (λ (b : Bool). if b then Joins p else Drops) (open_same all r s p (p + aligned_length f))

fate_same : (all r : Received) → StandsFor all r → (f : Frame) (kind : FrameKind) → fate_of kind all f ≡ fate_of kind r f
fate_same all r s f Pad = frame_same all r s f _ ∙ ap (frame_fate r f) (rw (s.geometry, s.publication) refl)
fate_same all r s f Message = frame_same all r s f _ ∙ ap (frame_fate r f) (rw (s.geometry, s.publication) refl)
fate_same all r s f Heartbeat = ap heartbeat_fate (rw (s.geometry, s.publication) refl)

-- a frame that joins lies past the rebuild position
joins_past : (r : Received) (f : Frame) (p : ℕ) (kind : FrameKind) → fate_of kind r f ≡ Joins p → rebuilt r ≤ p
joins_past r f p kind =
    by_kind (λ (it : Fate). it ≡ Joins p → rebuilt r ≤ p) r f kind
    (λ q lies opens is. let same : q ≡ p = cc in let beyond = (open_parts r q (q + aligned_length f) opens).beyond in omega arith)
    (λ q is. absurd cc)
    (λ is. absurd cc)

after_stands : (all r : Received) → StandsFor all r → (f : Frame) (it : Fate) → ((p : ℕ) → it ≡ Joins p → rebuilt r ≤ p) → StandsFor (after_frame all f it) (after_frame r f it)
after_stands all r s f (Joins p) past =
    let beyond = past p refl in
    let low = chain_low r.from r.joined in
    record {
      taken = s.taken;
      geometry = s.geometry;
      publication = s.publication;
      chain = s.chain;
      joined = ap (λ (ms : List (ℕ × Frame)). insert_entry nat_cmp ms p f) s.joined ∙ insert_over all.from r.from p f s.taken r.joined s.chain (omega arith);
      high = ap (λ (h : ℕ). max h (p + aligned_length f)) s.high;
    }
after_stands all r s f (Tells p) past = record {
  taken = s.taken;
  geometry = s.geometry;
  publication = s.publication;
  chain = s.chain;
  joined = s.joined;
  high = ap (λ (h : ℕ). max h p) s.high;
}
after_stands all r s f Drops past = s

received_stands : (all r : Received) → StandsFor all r → (f : Frame) → StandsFor (received all f) (received r f)
received_stands all r s f =
    rw (fate_same all r s f f.kind) (after_stands all r s f (fate r f) (λ p is. joins_past r f p f.kind is))

pub all_stand : (all r : Received) → StandsFor all r → (fs : List Frame) → StandsFor (received_all all fs) (received_all r fs)
all_stand all r s [] = s
all_stand all r s (f ∷ fs) = all_stand (received all f) (received r f) (received_stands all r s f) fs

pub unseen : (all r : Received) → StandsFor all r → IsUnseen all r
unseen all r s = record {
  rebuilt = rebuilt_same all r s;
  gap = gap_same all r s;
  fates = λ f. fate_same all r s f f.kind;
  further = λ fs. all_stand all r s fs;
}

-- what stands for all still does where a chain of its first frames was taken
pub taken_stands : (all old new : Received) (gone : List (ℕ × Frame)) → StandsFor all old → IsChain old.from gone new.from → old.joined ≡ gone ++ new.joined
    → new ≡ record old { from = new.from; joined = new.joined } → StandsFor all new
taken_stands all old new gone s chain left same =
    rw same (record {
      taken = s.taken ++ gone;
      geometry = s.geometry;
      publication = s.publication;
      chain = chain_append all.from old.from new.from s.taken gone s.chain chain;
      joined = s.joined ∙ ap (λ (ms : List (ℕ × Frame)). s.taken ++ ms) left ∙ sym (append_assoc s.taken gone new.joined);
      high = s.high;
    })

-- a gap is one of all that was received
pub gap_whole : (all r : Received) (n : Nak) → StandsFor all r → IsGap r n → IsGap all n
gap_whole all r n s is =
    let same = unseen all r s in
    record {
      missing = let missing = is.missing in omega (arith, same.rebuilt, s.high);
      session_id = rw s.publication is.session_id;
      stream_id = rw s.publication is.stream_id;
      begins = rw (s.geometry, same.rebuilt) is.begins;
      ends = ap (λ (p : ℕ). pos p +ℤ n.length) same.rebuilt ∙ is.ends ∙ ap pos (sym same.gap);
      range = is.range;
    }

pub none_whole : (all r : Received) → StandsFor all r → rebuilt r ≡ r.high → rebuilt all ≡ all.high
none_whole all r s is = (unseen all r s).rebuilt ∙ is ∙ sym s.high

pub rebuilt_whole : (all r : Received) → StandsFor all r → rebuilt r ≡ rebuilt all
rebuilt_whole all r s = sym (rebuilt_same all r s)

-- some frames and then others
pub received-append : (r : Received) (fs gs : List Frame) → received_all r (fs ++ gs) ≡ received_all (received_all r fs) gs
received-append r [] gs = refl
received-append r (f ∷ fs) gs = received-append (received r f) fs gs
