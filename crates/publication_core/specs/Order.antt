-- The order in which a sender sends: docs/PROTOCOL.md, "Publications of recordings".
use Rattle.std.specs.Prelude.{◌≡◌, ◌++◌, ℕ, List, [], ◌∷◌}
use Rattle.frame_core.specs.declared.frame.Frame.{Frame}
use Rattle.image_core.specs.Received.{IsChain}
use Rattle.publication_core.specs.declared.datagram.Datagram.{Datagram}
use Rattle.publication_core.specs.Meeting.{first_waiting_of}
use Rattle.publication_core.specs.Runs.{Call, sending_after, stored_all, Lay, Send}
use Rattle.publication_core.specs.Sending.{Sending}

-- the frames that are laid, in order
abbrev pub laid_of : Call → List (ℕ × Frame)
laid_of (Lay p f) = (p, f) ∷ []
laid_of call = []

abbrev pub laid_by : List Call → List (ℕ × Frame)
laid_by [] = []
laid_by (c ∷ cs) = laid_of c ++ laid_by cs

-- the datagrams that are sent for the first time, in order
abbrev pub firsts_of : Call → Sending → List Datagram
firsts_of (Send now) s = first_waiting_of s s.waiting
firsts_of call s = []

abbrev pub firsts : List Call → Sending → List Datagram
firsts [] s = []
firsts (c ∷ cs) s = firsts_of c s ++ firsts cs (sending_after c s)

-- some datagrams have these frames, each where the one before it ends, from a position to another
abbrev pub AreRunsOf : ℕ → List Datagram → List (ℕ × Frame) → ℕ → Type 0
AreRunsOf p [] frames q = (frames ≡ []) × (p ≡ q)
AreRunsOf p (d ∷ ds) frames q =
    (run rest : List (ℕ × Frame)) × (frames ≡ run ++ rest) × (d.position ≡ p) × IsChain p run d.end × (d.bytes ≡ stored_all run) × AreRunsOf d.end ds rest q

-- of the frames that were laid the first ones were sent, each once, up to the sender position, and the others wait
pub record SendsInOrder (from : ℕ) (laid : List (ℕ × Frame)) (firsts : List Datagram) (new : Sending) (to : ℕ) : Type 0 where
  pub sent : List (ℕ × Frame)
  pub rest : List (ℕ × Frame)
  pub split : laid ≡ sent ++ rest
  pub went : AreRunsOf from firsts sent new.flow.position
  pub waits : AreRunsOf new.flow.position new.waiting rest to
