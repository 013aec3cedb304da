-- Whose frames an image takes: docs/PROTOCOL.md, "Whose frames an image takes".
use Rattle.std.specs.Prelude.{◌≡◌, ◌⊎◌, ◌&&◌, ℕ, nat_le, not, Bool, false, if◌then◌else◌, List, length, Option, Some, None}
use Rattle.std.specs.Ordering.{int_eq}
use Rattle.std.specs.declared.net.socket_addr.SocketAddr.{SocketAddr}
use Rattle.frame_core.specs.declared.block.Publication.{Publication}
use Rattle.frame_core.specs.declared.geometry.Geometry.{Geometry}
use Rattle.frame_core.specs.declared.setup.Setup.{Setup}
use Rattle.frame_core.specs.FrameEncoding.{i32_at}
use Rattle.frame_core.specs.Setup.{HasNoSetup, IsSetup}
use Rattle.image_core.specs.Received.{Received}
use Rattle.server_receiver.specs.Datagrams.{image_with}
use Rattle.server_receiver.specs.Senders.{is_silent}
use Rattle.server_receiver.specs.declared.senders.ImageSender.{ImageSender}
use Rattle.server_receiver.specs.declared.strangers.Provenance.{Provenance}
use Rattle.server_receiver.specs.declared.strangers.Provenance.TheVariants.{Asks, Foreign, Moves, Own}

-- the publication that a datagram names, where a frame and a setup frame do
abbrev pub named_publication : List ℕ → Option Publication
named_publication bytes =
    if nat_le 32 (length bytes) then Some (record { session_id = i32_at bytes 12; stream_id = i32_at bytes 16 }) else None

-- the image of the publication that a datagram names, by its place
abbrev pub image_by : Option Publication → List (Option Received) → Option ℕ
image_by None images = None
image_by (Some publication) images = image_with publication images

abbrev pub image_named : List ℕ → List (Option Received) → Option ℕ
image_named bytes images = image_by (named_publication bytes) images

-- something came from another address than the image's sender
abbrev pub IsElsewhere : Option SocketAddr → Option ImageSender → Type 0
IsElsewhere from None = ⊥
IsElsewhere from (Some sender) = sender.address ≡ from → ⊥

-- nothing came from the sender of the image at a place for 2,000 milliseconds
abbrev pub is_sender_silent : ℕ → Option ImageSender → Bool
is_sender_silent now None = false
is_sender_silent now (Some sender) = is_silent now sender

-- a setup frame has these terms
abbrev pub has_setup_terms : Geometry → Setup → Bool
has_setup_terms g s = int_eq s.initial_term_id g.initial_term_id && int_eq s.term_length g.term_length && int_eq s.mtu g.mtu

abbrev pub has_terms_of : Option Received → Setup → Bool
has_terms_of None s = false
has_terms_of (Some image) s = has_setup_terms image.geometry s

-- whether a datagram is a setup frame with the terms of an image
abbrev pub SetsUpImage : List ℕ → Option Received → Bool → Type 0
SetsUpImage datagram image sets_up =
    ((setup : Setup) × IsSetup datagram setup × (sets_up ≡ has_terms_of image setup))
    ⊎ (HasNoSetup datagram × (sets_up ≡ false))

-- What a datagram of an image's publication is. From another address it is dropped, unless the sender is silent: then a setup
-- frame with the image's terms moves the image to that address, and for anything else that is asked for a setup frame.
abbrev pub strange_provenance : Bool → Bool → Provenance
strange_provenance is_silent sets_up = if not is_silent then Foreign else if sets_up then Moves else Asks

abbrev pub provenance_of : Bool → Bool → Bool → Provenance
provenance_of is_elsewhere is_silent sets_up = if is_elsewhere then strange_provenance is_silent sets_up else Own
