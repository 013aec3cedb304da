-- What holds of each datagram, whatever was asked for again.
use Rattle.std.proofs.Common.{◌≡◌, refl, ◌+◌, ℕ, List, [], ◌∷◌, ◌++◌, Bool, true, false, Option, Some, None}
use Rattle.std.specs.Prelude.{◌&&◌, map, nat_le, unsigned_abs}
use Rattle.std.specs.List.{AllByRecursion}
use Rattle.std.proofs.lemmas.Bool.{cond_both}
use Rattle.frame_core.specs.declared.frame.Frame.{Frame}
use Rattle.frame_core.specs.declared.geometry.Geometry.{Geometry}
use Rattle.frame_core.specs.declared.nak.Nak.{Nak}
use Rattle.frame_core.specs.Position.{position_of}
use Rattle.publication_core.specs.declared.datagram.Datagram.{Datagram}
use Rattle.publication_core.specs.Datagrams.{after_repeat, laid, marked, may_repeat, meets, repeated, unconsumed}
use Rattle.publication_core.specs.Flows.{after_datagram, may_go}
use Rattle.publication_core.specs.Runs.{Call, sending_after, after_first, Lay, Hear, Ask, Send, Repeat, NoteSetup, NoteHeartbeat, End}
use Rattle.publication_core.specs.Sending.{Sending, after_repeat_request, is_nak_of}

-- what was asked for again, and when it was repeated, makes no difference
abbrev pub IsUnmarked : (Datagram → Type 0) → Type 0
IsUnmarked P = (d : Datagram) (is_repeat_asked : Bool) (again_at : Option ℕ) → P d → P (record d { is_repeat_asked = is_repeat_asked; again_at = again_at })

pub each_end : (P : Datagram → Type 0) (d : Datagram) (ds : List Datagram) → AllByRecursion P ds → P d → AllByRecursion P (ds ++ d ∷ [])
each_end P d [] all is = (is, tt)
each_end P d (x ∷ ds) all is = (all.0, each_end P d ds all.1 is)

pub each_unconsumed : (P : Datagram → Type 0) (consumed : ℕ) (ds : List Datagram) → AllByRecursion P ds → AllByRecursion P (unconsumed consumed ds)
each_unconsumed P consumed [] all = tt
each_unconsumed P consumed (d ∷ ds) all =
    cond_both (nat_le d.end consumed) (unconsumed consumed ds) (d ∷ ds) (λ (it : List Datagram). AllByRecursion P it) (λ gone. each_unconsumed P consumed ds all.1) (λ kept. all)

pub each_marked : (P : Datagram → Type 0) (now from to : ℕ) (ds : List Datagram) → IsUnmarked P → AllByRecursion P ds → AllByRecursion P (map (marked now from to) ds)
each_marked P now from to [] same all = tt
each_marked P now from to (d ∷ ds) same all = (
  cond_both (meets from to d && may_repeat now d.again_at) (record d { is_repeat_asked = true }) d (λ (it : Datagram). P it)
      (λ asked. same d true d.again_at all.0)
      (λ other. all.0),
  each_marked P now from to ds same all.1,
)

pub each_repeat : (P : Datagram → Type 0) (now : ℕ) (ds : List Datagram) → IsUnmarked P → AllByRecursion P ds → AllByRecursion P (after_repeat now ds)
each_repeat P now [] same all = tt
each_repeat P now (d ∷ ds) same all =
    cond_both d.is_repeat_asked (repeated now d ∷ ds) (d ∷ after_repeat now ds) (λ (it : List Datagram). AllByRecursion P it)
    (λ asked. (same d false (Some now) all.0, all.1))
    (λ other. (all.0, each_repeat P now ds same all.1))

-- ---- calls

-- it holds of each that was sent and of each that waits
pub record AreEach (g : Geometry) (P : Datagram → Type 0) (s : Sending) : Type 0 where
  pub geometry : s.geometry ≡ g
  pub sent : AllByRecursion P s.sent
  pub waiting : AllByRecursion P s.waiting

each_request : (g : Geometry) (P : Datagram → Type 0) (now : ℕ) (nak : Nak) (found : Option ℕ) (s : Sending) → IsUnmarked P → AreEach g P s → AreEach g P (after_repeat_request now nak found s)
each_request g P now nak None s same all = all
each_request g P now nak (Some p) s same all =
    record { geometry = all.geometry; sent = each_marked P now p (p + unsigned_abs nak.length) s.sent same all.sent; waiting = all.waiting }

each_first : (g : Geometry) (P : Datagram → Type 0) (now : ℕ) (ds : List Datagram) (s : Sending) → AllByRecursion P ds → AreEach g P s → AreEach g P (after_first now ds s)
each_first g P now [] s waiting all = all
each_first g P now (d ∷ ds) s waiting all =
    cond_both (may_go s.geometry s.flow d) (record s { flow = after_datagram now d.end s.flow; sent = s.sent ++ d ∷ []; waiting = ds }) s (λ (it : Sending). AreEach g P it)
    (λ may. record { geometry = all.geometry; sent = each_end P d s.sent all.sent waiting.0; waiting = waiting.1 })
    (λ held. all)

-- it holds of each after a call, if it does after a frame is laid
pub each_call : (g : Geometry) (P : Datagram → Type 0) (c : Call) (s : Sending) → IsUnmarked P → ((p : ℕ) (f : Frame) → c ≡ Lay p f → AllByRecursion P (laid s.geometry p f s.waiting))
    → AreEach g P s → AreEach g P (sending_after c s)
each_call g P (Lay p f) s same lays all = record { geometry = all.geometry; sent = all.sent; waiting = lays p f refl }
each_call g P (Hear now status) s same lays all = record { geometry = all.geometry; sent = each_unconsumed P _ s.sent all.sent; waiting = all.waiting }
each_call g P (Ask now nak) s same lays all =
    cond_both (is_nak_of s.publication nak) (after_repeat_request now nak (position_of s.geometry nak.term_id nak.term_offset) s) s (λ (it : Sending). AreEach g P it)
    (λ ours. each_request g P now nak (position_of s.geometry nak.term_id nak.term_offset) s same all)
    (λ other. all)
each_call g P (Send now) s same lays all = each_first g P now s.waiting s all.waiting all
each_call g P (Repeat now) s same lays all = record { geometry = all.geometry; sent = each_repeat P now s.sent same all.sent; waiting = all.waiting }
each_call g P (NoteSetup now) s same lays all = record { geometry = all.geometry; sent = all.sent; waiting = all.waiting }
each_call g P (NoteHeartbeat now) s same lays all = record { geometry = all.geometry; sent = all.sent; waiting = all.waiting }
each_call g P End s same lays all = record { geometry = all.geometry; sent = all.sent; waiting = all.waiting }
