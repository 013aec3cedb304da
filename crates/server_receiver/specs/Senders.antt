-- What the senders of images are sent by a receiver of the public standard: docs/PROTOCOL.md, "Status messages and NAKs of a
-- receiver".
use Rattle.std.specs.Prelude.{◌≡◌, ℕ, Bool, false, if◌then◌else◌, MatchBool, List, [], ◌∷◌, ◌++◌, length, nat_lt, not, slice_get, slice_set, Option, None, Some, is_some}
use Rattle.std.specs.declared.net.socket_addr.SocketAddr.{SocketAddr}
use Rattle.frame_core.specs.declared.block.Publication.{Publication}
use Rattle.frame_core.specs.declared.nak.Nak.{Nak}
use Rattle.frame_core.specs.declared.status.StatusMessage.{StatusMessage}
use Rattle.frame_core.specs.Nak.{encoded_nak}
use Rattle.frame_core.specs.Status.{encoded_status}
use Rattle.image_core.specs.Received.{Received}
use Rattle.flow_control.specs.declared.feedback.Feedback.{Feedback}
use Rattle.flow_control.specs.declared.setups.SetupRequest.{SetupRequest}
use Rattle.flow_control.specs.Feedback.{GivesRequest, GivesStatus, has_passed, is_live, is_status_due}
use Rattle.flow_control.specs.Setups.{after_asking, may_ask, setup_request_of}
use Rattle.server_receiver.specs.declared.admission.Admission.{Admission}
use Rattle.server_receiver.specs.declared.senders.Receiver.{Receiver}
use Rattle.server_receiver.specs.declared.senders.ImageSender.{ImageSender}
use Rattle.server_receiver.specs.declared.images.DatagramOutcome.{DatagramOutcome}
use Rattle.server_receiver.specs.declared.images.DatagramOutcome.TheVariants.{Frames, Joined, SetUp, Unknown}

-- the receiver, the senders of its images by the images' places, and the publications that were asked for a setup frame
pub record SendersState : Type 0 where
  pub receiver : Receiver
  pub senders : List ImageSender
  pub setups : List SetupRequest

-- the last status message is forgotten, so that another one is due at once
abbrev pub StatusForgotten : ImageSender → ImageSender → Type 0
StatusForgotten old new = new ≡ record old { feedback = record old.feedback { status = None } }

-- ---- where an image's datagrams come from

-- the sender of a new image, whose setup frame came from there
abbrev pub new_sender : Option SocketAddr → ℕ → ImageSender
new_sender from now = record { address = from; seen = now; feedback = record { heard = now; status = None; request = None } }

-- that of a new image at a place, in place of the one before it; or one more, if there are fewer than 64
abbrev pub with_sender : ℕ → Option SocketAddr → ℕ → List ImageSender → List ImageSender
with_sender i from now senders =
    if nat_lt i (length senders) then slice_set senders i (new_sender from now)
    else if nat_lt (length senders) 64 then senders ++ new_sender from now ∷ [] else senders

-- a datagram of the publication came from an address
pub record Hears (from : Option SocketAddr) (now : ℕ) (old new : ImageSender) : Type 0 where
  pub address : new.address ≡ old.address
  pub here : old.address ≡ from → new.seen ≡ now
  pub elsewhere : (old.address ≡ from → ⊥) → new.seen ≡ old.seen
  pub feedback : new.feedback ≡ record old.feedback { heard = now }

-- nothing came from the sender's address for 2,000 milliseconds
abbrev pub is_silent : ℕ → ImageSender → Bool
is_silent now sender = has_passed 2000 sender.seen now

-- A setup frame did. It is the sender's from now on if the old address is silent.
abbrev pub SetsUp : Option SocketAddr → ℕ → ImageSender → ImageSender → Type 0
SetsUp from now old new =
    MatchBool (is_silent now old) (new ≡ record { address = from; seen = now; feedback = record old.feedback { heard = now } }) (Hears from now old new)

-- the sender of the image at a place changes so, and all others stay
abbrev pub ChangesAt : ℕ → Option ImageSender → List ImageSender → List ImageSender → (ImageSender → ImageSender → Type 0) → Type 0
ChangesAt i None olds news Changes = news ≡ olds
ChangesAt i (Some sender) olds news Changes = (after : ImageSender) × Changes sender after × (news ≡ slice_set olds i after)

-- a datagram came from an address
abbrev pub Notes : DatagramOutcome → Option SocketAddr → ℕ → List ImageSender → List ImageSender → Type 0
Notes (Joined i point) from now olds news = news ≡ with_sender i from now olds
Notes (SetUp i) from now olds news = ChangesAt i (slice_get olds i) olds news (SetsUp from now)
Notes (Frames i is_lost) from now olds news = ChangesAt i (slice_get olds i) olds news (Hears from now)
Notes came from now olds news = news ≡ olds

-- ---- what is sent

module _ {E : Type 0} (puts : E → SocketAddr → List ℕ → E → Type 0) where
  -- a status message, or a NAK, was sent to an address, if there was one
  abbrev pub PutsStatus : SocketAddr → Option StatusMessage → E → E → Type 0
  PutsStatus to None old new = new ≡ old
  PutsStatus to (Some status) old new = puts old to (encoded_status status) new

  abbrev pub PutsNak : SocketAddr → Option Nak → E → E → Type 0
  PutsNak to None old new = new ≡ old
  PutsNak to (Some nak) old new = puts old to (encoded_nak nak) new

  -- the status message that is due was sent, if the sender is admitted anything; else none is due
  abbrev pub SendsStatusDue : Option Admission → ℕ → Receiver → Received → SocketAddr → Feedback → E → Feedback → E → Type 0
  SendsStatusDue None now receiver image to old end new later = (new ≡ old) × (later ≡ end)
  SendsStatusDue (Some a) now receiver image to old end new later =
      (status : Option StatusMessage) × GivesStatus now a.most a.bound receiver.id image old status new × PutsStatus to status end later

  -- then the NAK that is due
  abbrev pub SendsRequestDue : ℕ → Received → SocketAddr → Feedback → E → Feedback → E → Bool → Type 0
  SendsRequestDue now image to old end new later asked =
      (nak : Option Nak) × GivesRequest now image old nak new × PutsNak to nak end later × (asked ≡ is_some nak)

  -- what is due to the sender of an image was sent to where its setup frame came from
  pub record TendsTo (admission : Option Admission) (now : ℕ) (receiver : Receiver) (image : Received) (to : SocketAddr) (old : ImageSender) (end : E) (new : ImageSender) (later : E) (asked : Bool) : Type 0 where
    pub between : Feedback
    pub meanwhile : E
    pub status : SendsStatusDue admission now receiver image to old.feedback end between meanwhile
    pub request : SendsRequestDue now image to between meanwhile new.feedback later asked
    pub same : new ≡ record old { feedback = new.feedback }

  abbrev pub TendsIf : Option Admission → ℕ → Receiver → Received → Option SocketAddr → ImageSender → E → ImageSender → E → Bool → Type 0
  TendsIf admission now receiver image None old end new later asked = (new ≡ old) × (later ≡ end) × (asked ≡ false)
  TendsIf admission now receiver image (Some to) old end new later asked = TendsTo admission now receiver image to old end new later asked

  -- to the sender of the image at a place; all others stay
  abbrev pub TendsAt : Option ImageSender → ℕ → Option Admission → ℕ → Received → SendersState → E → SendersState → E → Bool → Type 0
  TendsAt None i admission now image old end new later asked = (new ≡ old) × (later ≡ end) × (asked ≡ false)
  TendsAt (Some sender) i admission now image old end new later asked =
      (after : ImageSender) × TendsIf admission now old.receiver image sender.address sender end after later asked
      × (new ≡ record old { senders = slice_set old.senders i after })

  abbrev pub Tends : ℕ → Option Admission → ℕ → Received → SendersState → E → SendersState → E → Bool → Type 0
  Tends i admission now image old end new later asked =
      TendsAt (slice_get old.senders i) i admission now image old end new later asked

  -- a publication without an image is asked for its setup frame, where its frames came from, if it is time for it
  abbrev pub AsksPublication : Publication → SocketAddr → ℕ → SendersState → E → SendersState → E → Type 0
  AsksPublication publication to now old end new later =
      (new ≡ record old { setups = after_asking publication now old.setups })
      × MatchBool (may_ask publication now old.setups)
      (puts end to (encoded_status (setup_request_of publication old.receiver.id)) later)
      (later ≡ end)

  -- so it is after frames of an unknown publication; after anything else nothing is asked
  abbrev pub AsksForSetup : DatagramOutcome → Option SocketAddr → ℕ → SendersState → E → SendersState → E → Type 0
  AsksForSetup (Unknown publication) (Some to) now old end new later = AsksPublication publication to now old end new later
  AsksForSetup came from now old end new later = (new ≡ old) × (later ≡ end)

-- a status message is due to the sender of an image that is admitted so much
abbrev pub is_due_by : Option Admission → ℕ → Received → Feedback → Bool
is_due_by None now image feedback = false
is_due_by (Some a) now image feedback = is_status_due now a.most a.bound image feedback

abbrev pub is_status_due_to : Option ImageSender → Option Admission → ℕ → Received → Bool
is_status_due_to None admission now image = false
is_status_due_to (Some sender) admission now image = is_due_by admission now image sender.feedback

-- ---- when a publication was heard, where its image's sender is, and what is given back

-- where the sender of an image is
abbrev pub address_of : Option ImageSender → Option SocketAddr
address_of None = None
address_of (Some sender) = sender.address

-- when something of the publication of an image came last
abbrev pub heard_of : Option ImageSender → ℕ
heard_of None = 0
heard_of (Some sender) = sender.feedback.heard

-- the image at a place is not live: no datagram of its publication came for 10,000 milliseconds
abbrev pub is_gone : ℕ → Option ImageSender → Bool
is_gone now None = false
is_gone now (Some sender) = not (is_live now sender.feedback)
