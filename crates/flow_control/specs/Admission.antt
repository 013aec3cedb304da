-- What status messages admit, if they have a bound: docs/PROTOCOL.md, "Status messages and NAKs of a receiver".
use Rattle.std.specs.Prelude.{◌≡◌, ◌≤◌, ◌+◌, ◌≤ℤ◌, ◌+ℤ◌, ℕ, ℤ, pos, List, [], ◌∷◌, Option, Some, IfSome}
use Rattle.frame_core.specs.declared.geometry.Geometry.{Geometry}
use Rattle.frame_core.specs.declared.status.StatusMessage.{StatusMessage}
use Rattle.frame_core.specs.Position.{HasPosition}
use Rattle.image_core.specs.Received.{Received}
use Rattle.flow_control.specs.declared.feedback.Feedback.{Feedback}
use Rattle.flow_control.specs.Feedback.{GivesStatus}
use Rattle.flow_control.specs.Windows.{five_sixteenths, settled_bound}

-- what a status message admits, its window past the position that it names, ends at a limit at most
pub record AdmitsUpTo (g : Geometry) (limit : ℤ) (s : StatusMessage) : Type 0 where
  pub position : ℕ
  pub names : HasPosition g s.consumption_term_id s.consumption_term_offset (pos position)
  pub within : (pos position +ℤ s.receiver_window) ≤ℤ limit

-- one call for a status message: when, the greatest window, up to where the stream was settled then, and by which receiver; of which image, what its sender had been sent, what was given, and what the sender has been sent then
pub record StatusCall : Type 0 where
  pub time : ℕ
  pub most : ℤ
  pub settled : ℕ
  pub receiver_id : ℤ
  pub image : Received
  pub before : Feedback
  pub given : Option StatusMessage
  pub after : Feedback

-- it was made with the bound of what was settled, and a window of at most five sixteenths of a term
pub record IsBoundCall (g : Geometry) (c : StatusCall) : Type 0 where
  pub terms : c.image.geometry ≡ g
  pub least : pos 0 ≤ℤ c.most
  pub most : c.most ≤ℤ pos (five_sixteenths g)
  pub gives : GivesStatus c.time c.most (Some (settled_bound g c.most c.settled)) c.receiver_id c.image c.before c.given c.after

-- such calls were made of the images of a stream, the first of them first. What is settled does not fall: from one position, over what was settled at each call, to another
abbrev pub AreBoundCalls : Geometry → ℕ → List StatusCall → ℕ → Type 0
AreBoundCalls g from [] to = from ≤ to
AreBoundCalls g from (c ∷ cs) to = IsBoundCall g c × (from ≤ c.settled) × AreBoundCalls g c.settled cs to

-- what a call gave, if it gave a status message, admits nothing more than five sixteenths of a term past a settled position
abbrev pub AdmitsPast : Geometry → ℕ → StatusCall → Type 0
AdmitsPast g settled c = IfSome c.given (AdmitsUpTo g (pos (settled + five_sixteenths g)))
