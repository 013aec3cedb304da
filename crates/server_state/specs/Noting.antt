-- What a call that was answered changes of the pairs, and which pairs and misfits are reported: docs/ARCHITECTURE.md, "Images and recorder
-- sessions".
use Rattle.std.specs.List.{position, zip}
use Rattle.std.specs.Ordering.{int_eq}
use Rattle.std.specs.Prelude.{◌≡◌, ◌<◌, ◌==◌, ◌&&◌, ◌||◌, ℕ, ℤ, pos, int_lt, is_some, not, unsigned_abs, if◌then◌else◌, Bool, true, false, List, [], ◌∷◌, Option, None, Some, Result, Ok, slice_index_or, slice_set}
use Rattle.frame_core.specs.declared.block.Publication.{Publication}
use Rattle.frame_core.specs.declared.refusal.Refusal.{Refusal}
use Rattle.archive_model.specs.declared.command.ExtendFields.{ExtendFields}
use Rattle.archive_model.specs.declared.command.StartFields.{StartFields}
use Rattle.archive_model.specs.declared.reply.Reply.{Reply}
use Rattle.archive_model.specs.declared.reply.Reply.TheVariants as replies
use Rattle.control_core.specs.declared.event.Event.{Event}
use Rattle.control_core.specs.declared.event.Event.TheVariants.{Ask, Settle, SettleAll}
use Rattle.control_core.specs.declared.request.Request.TheVariants as requests
use Rattle.stream_pairs.specs.declared.points.StreamPoint.{StreamPoint}
use Rattle.stream_pairs.specs.declared.pairs.JoinedImage.{JoinedImage}
use Rattle.stream_pairs.specs.declared.pairs.SessionSlot.{SessionSlot}
use Rattle.stream_pairs.specs.Pairs.{PairsState, after_opened, after_refused, after_released, after_settled, after_stopped, feeds, image_at, image_in, image_with, is_fed, is_index, is_point, seat_for, seat_of, slot_of}
use Rattle.server_state.specs.declared.pairing.FedSession.{FedSession}
use Rattle.server_state.specs.declared.pairing.ImageKey.{ImageKey}
use Rattle.server_state.specs.declared.pairing.Misfit.{Misfit}

-- where a recording stands once it was started, or extended
abbrev pub start_point : StartFields → StreamPoint
start_point f = record {
  publication = record { session_id = f.session_id; stream_id = f.stream_id };
  geometry = record { initial_term_id = f.initial_term_id; term_length = f.term_length; mtu = f.mtu };
  position = f.start_position;
}

abbrev pub extend_point : ExtendFields → StreamPoint
extend_point f = record {
  publication = record { session_id = f.session_id; stream_id = f.stream_id };
  geometry = record { initial_term_id = f.initial_term_id; term_length = f.term_length; mtu = f.mtu };
  position = f.join_position;
}

-- ---- what a call that was answered changes

-- the seat of a session that was opened, whose number is not below 0: that of its own number; or any that is free, if seats are
-- given back
abbrev pub seat_of_opening : Bool → ℤ → PairsState → Option ℕ
seat_of_opening gives_back session s = if gives_back then seat_for session s else Some (unsigned_abs session)

abbrev pub session_opened_at : Option ℕ → ℤ → ℤ → StreamPoint → PairsState → PairsState
session_opened_at None session recording point s = s
session_opened_at (Some n) session recording point s = after_opened n session recording point s

abbrev pub after_opening : Bool → ℤ → ℤ → StreamPoint → PairsState → PairsState
after_opening gives_back session recording point s =
    if int_lt session (pos 0) then s else session_opened_at (seat_of_opening gives_back session s) session recording point s

-- the session at a seat is recorded up to a position
abbrev pub settled_at : Option ℕ → ℤ → PairsState → PairsState
settled_at None position s = s
settled_at (Some n) position s = after_settled n position s

abbrev pub after_settling : ℤ → ℤ → PairsState → PairsState
after_settling session position s = settled_at (seat_of session s) position s

-- sessions that were settled together are recorded, each up to its own position, if it has one
abbrev pub after_settling_to : ℤ → Option ℤ → PairsState → PairsState
after_settling_to session None s = s
after_settling_to session (Some position) s = after_settling session position s

abbrev pub after_settlings : List (ℤ × Option ℤ) → PairsState → PairsState
after_settlings [] s = s
after_settlings (settling ∷ settlings) s = after_settlings settlings (after_settling_to settling.0 settling.1 s)

-- a recording was stopped, and its session's seat is given back, or not
abbrev pub after_stopping : Bool → ℤ → PairsState → PairsState
after_stopping gives_back recording s = if gives_back then after_released recording s else after_stopped recording s

-- the call was answered by this reply
abbrev pub after_noted : Bool → Event → Reply → PairsState → PairsState
after_noted gives_back (Ask (requests.Start fields)) (replies.Started recording session) s = after_opening gives_back session recording (start_point fields) s
after_noted gives_back (Ask (requests.Extend fields)) (replies.Extended session) s = after_opening gives_back session fields.recording (extend_point fields) s
after_noted gives_back (Settle session) (replies.Settled position) s = after_settling session position s
after_noted gives_back (SettleAll sessions) (replies.SettledAll positions) s = after_settlings (zip sessions positions) s
after_noted gives_back (Ask (requests.Stop recording timestamp)) (replies.Stopped position) s = after_stopping gives_back recording s
after_noted gives_back event reply s = s

-- the answer opens a session
abbrev pub opens_session : Result Reply Refusal → Bool
opens_session (Ok (replies.Started recording session)) = true
opens_session (Ok (replies.Extended session)) = true
opens_session outcome = false

-- ---- images and sessions by their numbers

-- the image at a place
abbrev pub image_key : ℕ → Option JoinedImage → Option ImageKey
image_key i None = None
image_key i (Some image) = Some (record { place = i; number = image.number })

abbrev pub image_key_at : ℕ → PairsState → Option ImageKey
image_key_at i s = image_key i (image_in i s)

abbrev pub key_at_place : Option ℕ → PairsState → Option ImageKey
key_at_place None s = None
key_at_place (Some i) s = image_key_at i s

-- the image that feeds the session at a seat
abbrev pub fed_key : ℕ → PairsState → Option ImageKey
fed_key n s = key_at_place (image_at n s) s

-- the image of a number is at the place
abbrev pub image_has_number : ℕ → Option JoinedImage → Bool
image_has_number number None = false
image_has_number number (Some image) = image.number == number

abbrev pub has_key : ImageKey → PairsState → Bool
has_key key s = image_has_number key.number (image_in key.place s)

-- the session at a seat
abbrev pub seated : ℕ → Option SessionSlot → Option FedSession
seated n None = None
seated n (Some slot) = Some (record { seat = n; session = slot.session })

abbrev pub seated_session : ℕ → PairsState → Option FedSession
seated_session n s = seated n (slot_of n s)

abbrev pub fed_at : Option ℕ → PairsState → Option FedSession
fed_at None s = None
fed_at (Some n) s = seated_session n s

-- the session that an image feeds, which is at its place still
abbrev pub fed_session : ImageKey → PairsState → Option FedSession
fed_session key s = if has_key key s then fed_at (position (feeds key.place) s.slots) s else None

-- the image at a place was lost, or its session has ended and gave its seat back
abbrev pub is_lost_image : Option JoinedImage → Bool
is_lost_image None = false
is_lost_image (Some image) = image.is_lost

abbrev pub is_over_at : ℕ → PairsState → Bool
is_over_at i s = is_lost_image (image_in i s)

-- the image at a place, if it waits for a session: it feeds none, and was not lost
abbrev pub waits : ℕ → JoinedImage → PairsState → Option JoinedImage
waits i image s = if image.is_lost || is_fed i s then None else Some image

abbrev pub waiting_of : ℕ → Option JoinedImage → PairsState → Option JoinedImage
waiting_of i None s = None
waiting_of i (Some image) s = waits i image s

abbrev pub waiting_image : ℕ → PairsState → Option JoinedImage
waiting_image i s = waiting_of i (image_in i s) s

-- the session at a seat was refused, and loses its image
abbrev pub after_refusing : Option ℕ → PairsState → PairsState
after_refusing None s = s
after_refusing (Some n) s = after_refused n s

abbrev pub lost_key : Option ℕ → PairsState → Option ImageKey
lost_key None s = None
lost_key (Some n) s = fed_key n s

-- ---- pairs that are reported

-- the number of an image, unless it is the one that was reported
abbrev pub unless_reported : Option ImageKey → Option ℕ → Option ℕ
unless_reported None reported = None
unless_reported (Some key) reported = if is_index key.number reported then None else Some key.number

abbrev pub unreported_image : ℕ → PairsState → List (Option ℕ) → Option ℕ
unreported_image n pairs reported = unless_reported (fed_key n pairs) (slice_index_or reported n None)

-- the least seat with an image that was not reported; or there is none
abbrev pub ReportsNext : PairsState → List (Option ℕ) → Option (ℕ × ℕ) → List (Option ℕ) → Type 0
ReportsNext pairs old None new = (new ≡ old) × ((n : ℕ) → n < 64 → unreported_image n pairs old ≡ None)
ReportsNext pairs old (Some pair) new =
    (pair.0 < 64) × (unreported_image pair.0 pairs old ≡ Some pair.1)
    × ((n : ℕ) → n < pair.0 → unreported_image n pairs old ≡ None) × (new ≡ slice_set old pair.0 (Some pair.1))

-- ---- images and sessions of one publication that don't fit

-- a session is open, and no image feeds it
abbrev pub is_unfed : SessionSlot → Bool
is_unfed slot = slot.is_open && not (is_some slot.image)

-- the image of a publication, if it waits for a session
abbrev pub waiting_at : Option ℕ → PairsState → Option JoinedImage
waiting_at None s = None
waiting_at (Some i) s = waiting_image i s

abbrev pub waiting_with : Publication → PairsState → Option JoinedImage
waiting_with publication s = waiting_at (image_with publication s) s

-- a session and an image of its publication: they fit if the recording stands where the image joined
abbrev pub misfit_with : SessionSlot → JoinedImage → Option Misfit
misfit_with slot image =
    if is_point image.join slot.point then None
    else Some (record { image = image.number; session = slot.session; joined = image.join; recorded = slot.point })

abbrev pub misfit_by : SessionSlot → Option JoinedImage → Option Misfit
misfit_by slot None = None
misfit_by slot (Some image) = misfit_with slot image

abbrev pub misfit_of : SessionSlot → PairsState → Option Misfit
misfit_of slot s = misfit_by slot (waiting_with slot.point.publication s)

-- the session at a seat and the image that don't fit
abbrev pub misfit_in : Option SessionSlot → PairsState → Option Misfit
misfit_in None s = None
misfit_in (Some slot) s = if is_unfed slot then misfit_of slot s else None

abbrev pub misfit_at : ℕ → PairsState → Option Misfit
misfit_at n s = misfit_in (slot_of n s) s

-- a misfit was reported: it is of this image and session
abbrev pub is_reported : Misfit → Option Misfit → Bool
is_reported misfit None = false
is_reported misfit (Some reported) = reported.image == misfit.image && int_eq reported.session misfit.session

abbrev pub unless_misfit_reported : Option Misfit → Option Misfit → Option Misfit
unless_misfit_reported None reported = None
unless_misfit_reported (Some misfit) reported = if is_reported misfit reported then None else Some misfit

abbrev pub unreported_misfit : ℕ → PairsState → List (Option Misfit) → Option Misfit
unreported_misfit n pairs reported = unless_misfit_reported (misfit_at n pairs) (slice_index_or reported n None)

-- the least seat with a misfit that was not reported; or there is none
abbrev pub ReportsMisfit : PairsState → List (Option Misfit) → Option Misfit → List (Option Misfit) → Type 0
ReportsMisfit pairs old None new = (new ≡ old) × ((n : ℕ) → n < 64 → unreported_misfit n pairs old ≡ None)
ReportsMisfit pairs old (Some misfit) new =
    (seat : ℕ) × (seat < 64) × (unreported_misfit seat pairs old ≡ Some misfit)
    × ((n : ℕ) → n < seat → unreported_misfit n pairs old ≡ None) × (new ≡ slice_set old seat (Some misfit))
