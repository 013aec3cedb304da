-- Frames that stand one after another.
use Rattle.std.proofs.Common.{◌≡◌, ◌≢◌, ◌∙◌, sym, ap, refl, ℕ, ◌+◌, ◌<◌, ◌⊎◌, inl, inr, List, [], ◌∷◌, ◌++◌, length, drop, length-drop, subst, arith}
use Rattle.std.proofs.lemmas.List.{drop-drop}
use Rattle.frame_core.specs.declared.frame.FrameKind.TheVariants.{Heartbeat}
use Rattle.frame_core.specs.declared.frame.Frame.{Frame}
use Rattle.frame_core.specs.Front.{IsFront}
use Rattle.frame_core.specs.Block.{AreEncodable}
use Rattle.frame_core.specs.Datagram.{Leads, HasNoFront, BeginsWithHeartbeat, IsLoneHeartbeat, IsDatagram, IsBadAt}
use Rattle.frame_core.proofs.FrontLemmas.{front_uses, one_front}

-- one more frame behind those that lead
pub leads_more : (bytes : List ℕ) (fs : List Frame) (end : ℕ) (f : Frame) (used : ℕ) → Leads bytes fs end → IsFront (drop end bytes) f used → f.kind ≢ Heartbeat
    → Leads bytes (fs ++ f ∷ []) (end + used)
leads_more bytes [] end f used leads front kind =
    let here : drop end bytes ≡ bytes = ap (λ (n : ℕ). drop n bytes) leads in
    (used, 0, subst (λ (bs : List ℕ). IsFront bs f used) here front, kind, refl, omega (arith, leads))
leads_more bytes (g ∷ gs) end f used leads front kind =
    let first = leads.0 in
    let rest = leads.1 in
    let behind : drop end bytes ≡ drop rest (drop first bytes) = ap (λ (n : ℕ). drop n bytes) leads.5 ∙ sym (drop-drop rest first bytes) in
    let more = leads_more (drop first bytes) gs rest f used leads.4 (subst (λ (bs : List ℕ). IsFront bs f used) behind front) kind in
    (first, rest + used, leads.2, leads.3, more, omega (arith, leads.5))

-- nothing stands in front of no bytes
pub bad_empty : (bytes : List ℕ) → length bytes ≡ 0 → IsBadAt bytes 0
bad_empty bytes none = record {
  before = [];
  leads = refl;
  goes_on = inr refl;
  bad = inl (λ f used front. omega (arith, front_uses bytes f used front));
}

-- no frame stands where those end that lead
pub bad_front : (bytes rest : List ℕ) (fs : List Frame) (end : ℕ) → Leads bytes fs end → end < length bytes → rest ≡ drop end bytes → HasNoFront rest → IsBadAt bytes end
bad_front bytes rest fs end leads more is none = record {
  before = fs;
  leads = leads;
  goes_on = inl more;
  bad = inl (λ f used front. none f used (subst (λ (bs : List ℕ). IsFront bs f used) (sym is) front));
}

-- those that lead use bytes
pub leads_nothing : (bytes : List ℕ) (fs : List Frame) → Leads bytes fs 0 → fs ≡ []
leads_nothing bytes [] leads = refl
leads_nothing bytes (f ∷ fs) leads = absurd (omega (arith, front_uses bytes f leads.0 leads.2, leads.5))

-- a heartbeat at the start is a datagram
pub lone_heartbeat : (bytes rest : List ℕ) (fs gs : List Frame) (end : ℕ) (f : Frame) (used : ℕ) → Leads bytes fs end → end ≡ 0 → rest ≡ drop end bytes
    → IsFront rest f used → f.kind ≡ Heartbeat → gs ≡ fs ++ f ∷ [] → IsDatagram bytes gs
lone_heartbeat bytes rest fs gs end f used leads start is front kind list =
    let none : fs ≡ [] = leads_nothing bytes fs (subst (λ (n : ℕ). Leads bytes fs n) start leads) in
    let here : rest ≡ bytes = is ∙ ap (λ (n : ℕ). drop n bytes) start in
    inr (f, used, subst (λ (bs : List ℕ). IsFront bs f used) here front, kind, list ∙ ap (λ (hs : List Frame). hs ++ f ∷ []) none)

-- no frame but a heartbeat stands at an offset
record Stops (bytes : List ℕ) (end : ℕ) : Type 0 where
  none : (f : Frame) (used : ℕ) → IsFront (drop end bytes) f used → f.kind ≢ Heartbeat → ⊥

-- the offset seen from behind the first frame
stops_behind : (bytes : List ℕ) (first rest end : ℕ) → end ≡ first + rest → Stops bytes end → Stops (drop first bytes) rest
stops_behind bytes first rest end is stops = record {
  none = λ f used front kind.
      stops.none f used (subst (λ (bs : List ℕ). IsFront bs f used) (drop-drop rest first bytes ∙ ap (λ (k : ℕ). drop k bytes) (sym is)) front) kind;
}

-- frames that lead to an offset where they stop are the only ones
one_run : (bytes : List ℕ) (fs gs : List Frame) (m n : ℕ) → Leads bytes fs m → Leads bytes gs n → Stops bytes m → Stops bytes n → (fs ≡ gs) × (m ≡ n)
one_run bytes [] [] m n here there stops others = (refl, here ∙ sym there)
one_run bytes [] (g ∷ gs) m n here there stops others =
    absurd (stops.none g there.0 (subst (λ (k : ℕ). IsFront (drop k bytes) g there.0) (sym here) there.2) there.3)
one_run bytes (f ∷ fs) [] m n here there stops others =
    absurd (others.none f here.0 (subst (λ (k : ℕ). IsFront (drop k bytes) f here.0) (sym there) here.2) here.3)
one_run bytes (f ∷ fs) (g ∷ gs) m n here there stops others =
    let first = one_front bytes f g here.0 there.0 here.2 there.2 in
    let same : drop there.0 bytes ≡ drop here.0 bytes = ap (λ (k : ℕ). drop k bytes) (sym first.1) in
    let behind = one_run (drop here.0 bytes) fs gs here.1 there.1
    here.4
    (subst (λ (bs : List ℕ). Leads bs gs there.1) same there.4)
    (stops_behind bytes here.0 here.1 m here.5 stops)
    (stops_behind bytes here.0 there.1 n (there.5 ∙ ap (λ (k : ℕ). k + there.1) (sym first.1)) others) in
    (cc, here.5 ∙ omega (arith, first.1, behind.1) ∙ sym there.5)

-- nothing stands behind the last byte
stops_at_end : (bytes : List ℕ) → Stops bytes (length bytes)
stops_at_end bytes = record {
  none = λ f used front kind. omega (arith, front_uses (drop (length bytes) bytes) f used front, length-drop (length bytes) bytes);
}

-- a heartbeat stops
stops_at_heartbeat : (bytes : List ℕ) (end : ℕ) (h : Frame) (size : ℕ) → IsFront (drop end bytes) h size → h.kind ≡ Heartbeat → Stops bytes end
stops_at_heartbeat bytes end h size front is = record {
  none = λ f used other kind. kind (ap (λ (g : Frame). g.kind) (one_front (drop end bytes) f h used size other front).0 ∙ is);
}

-- a bad frame stops
stops_at_bad : (bytes : List ℕ) (end : ℕ) → HasNoFront (drop end bytes) ⊎ ((0 < end) × BeginsWithHeartbeat (drop end bytes)) → Stops bytes end
stops_at_bad bytes end (inl none) = record { none = λ f used front kind. none f used front }
stops_at_bad bytes end (inr (late, heartbeat)) = stops_at_heartbeat bytes end heartbeat.0 heartbeat.1 heartbeat.2 heartbeat.3

-- frames up to the end are no heartbeat
not_both : (bytes : List ℕ) (fs gs : List Frame) → (0 < length bytes) × Leads bytes fs (length bytes) → IsLoneHeartbeat bytes gs → ⊥
not_both bytes fs gs here alone =
    let run = one_run bytes fs [] (length bytes) 0 here.1 refl (stops_at_end bytes) (stops_at_heartbeat bytes 0 alone.0 alone.1 alone.2 alone.3) in
    omega (arith, run.1, here.0)

-- a datagram has one list of frames
pub one_list : (bytes : List ℕ) (fs gs : List Frame) → IsDatagram bytes fs → IsDatagram bytes gs → fs ≡ gs
one_list bytes fs gs (inl here) (inl there) = (one_run bytes fs gs (length bytes) (length bytes) here.1 there.1 (stops_at_end bytes) (stops_at_end bytes)).0
one_list bytes fs gs (inl here) (inr alone) = absurd (not_both bytes fs gs here alone)
one_list bytes fs gs (inr alone) (inl there) = absurd (not_both bytes gs fs there alone)
one_list bytes fs gs (inr alone) (inr other) =
    let same = one_front bytes alone.0 other.0 alone.1 other.1 alone.2 other.2 in alone.4 ∙ ap (λ (f : Frame). f ∷ []) same.0 ∙ sym other.4

-- a datagram is bad at one offset
pub one_offset : (bytes : List ℕ) (m n : ℕ) → IsBadAt bytes m → IsBadAt bytes n → m ≡ n
one_offset bytes m n here there =
    (one_run bytes here.before there.before m n here.leads there.leads (stops_at_bad bytes m here.bad) (stops_at_bad bytes n there.bad)).1

-- a datagram is not bad
pub not_bad : (bytes : List ℕ) (fs : List Frame) (n : ℕ) → IsDatagram bytes fs → IsBadAt bytes n → ⊥
not_bad bytes fs n (inl here) bad =
    let run = one_run bytes fs bad.before (length bytes) n here.1 bad.leads (stops_at_end bytes) (stops_at_bad bytes n bad.bad) in
    elim bad.goes_on [ inl more ↦ omega (arith, run.1, more) | inr start ↦ omega (arith, run.1, start, here.0) ]
not_bad bytes fs n (inr alone) bad =
    let run = one_run bytes [] bad.before 0 n refl bad.leads (stops_at_heartbeat bytes 0 alone.0 alone.1 alone.2 alone.3) (stops_at_bad bytes n bad.bad) in
    elim bad.bad [ inl none ↦ none alone.0 alone.1 (subst (λ (k : ℕ). IsFront (drop k bytes) alone.0 alone.1) run.1 alone.2) | inr late ↦ omega (arith, run.1, late.0) ]

-- the frames of a datagram have an encoding
leading_encodable : (bytes : List ℕ) (fs : List Frame) (end : ℕ) → Leads bytes fs end → AreEncodable fs
leading_encodable bytes [] end leads = tt
leading_encodable bytes (f ∷ fs) end leads = (leads.2.encodable, leading_encodable (drop leads.0 bytes) fs leads.1 leads.4)

pub datagram_encodable : (bytes : List ℕ) (fs : List Frame) → IsDatagram bytes fs → AreEncodable fs
datagram_encodable bytes fs (inl whole) = leading_encodable bytes fs _ whole.1
datagram_encodable bytes fs (inr alone) = subst AreEncodable (sym alone.4) (alone.2.encodable, tt)
