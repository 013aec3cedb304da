-- Where a publication goes on before its setup frame: docs/PROTOCOL.md, "Where an image joins".
use Rattle.std.specs.Prelude.{◌≡◌, ◌<◌, ◌==◌, ◌&&◌, ◌+◌, ◌/◌, ◌-ℤ◌, ℕ, ℤ, pos, min, int_le, int_lt, is_some, not, unsigned_abs, if◌then◌else◌, Bool, true, false, List, Option, None, Some, slice_index_or, slice_set}
use Rattle.frame_core.specs.declared.geometry.Geometry.{Geometry}
use Rattle.stream_pairs.specs.declared.pairs.SessionSlot.{SessionSlot}
use Rattle.stream_pairs.specs.declared.points.StreamPoint.{StreamPoint}
use Rattle.stream_pairs.specs.Pairs.{PairsState, has_publication, has_terms, slot_of}
use Rattle.server_state.specs.declared.pairing.ImageKey.{ImageKey}
use Rattle.server_state.specs.declared.origins.Found.{Found}
use Rattle.server_state.specs.declared.origins.Origin.{Origin}
use Rattle.server_state.specs.declared.resuming.Resumes.{Resumes}
use Rattle.server_state.specs.declared.resuming.Resumes.TheVariants.{NoRepeat, WasLost, Yes}
use Rattle.server_state.specs.declared.resuming.Stand.{Stand}

-- ---- how far back

-- the reach of a publication, in bytes: half a term, and the longest message, which is an eighth of a term and at most 16 MiB
abbrev pub resume_reach : Geometry → ℕ
resume_reach g = unsigned_abs g.term_length / 2 + min (unsigned_abs g.term_length / 8) 16777216

-- a position lies before the point where a publication joined, and within reach of it
abbrev pub is_within_reach : StreamPoint → ℤ → Bool
is_within_reach join p = int_le (pos 0) p && int_lt p join.position && int_le (join.position -ℤ p) (pos (resume_reach join.geometry))

-- two points are of one stream: of the same publication, with the same terms
abbrev pub is_one_stream : StreamPoint → StreamPoint → Bool
is_one_stream join p = has_publication join.publication p && has_terms join.geometry p

-- a publication that joined at a point may go on at another one
abbrev pub is_resumable : StreamPoint → StreamPoint → Bool
is_resumable join p = is_one_stream join p && is_within_reach join p.position

-- ---- sessions

-- a session that is open and has no image stands where a publication may go on that joined at a point
abbrev pub is_resumable_slot : StreamPoint → SessionSlot → Bool
is_resumable_slot join slot = slot.is_open && not (is_some slot.image) && is_resumable join slot.point

-- which recording stands where, by its session
abbrev pub slot_stand : StreamPoint → Option SessionSlot → Option Stand
slot_stand join None = None
slot_stand join (Some slot) =
    if is_resumable_slot join slot then Some (record { recording = slot.recording; position = slot.point.position }) else None

abbrev pub seat_stand : ℕ → StreamPoint → PairsState → Option Stand
seat_stand n join s = slot_stand join (slot_of n s)

-- the one of the least seat; or no session stands so
abbrev pub GoesOnAt : StreamPoint → PairsState → Option Stand → Type 0
GoesOnAt join s None = (n : ℕ) → n < 64 → seat_stand n join s ≡ None
GoesOnAt join s (Some stand) =
    (n : ℕ) × (n < 64) × (seat_stand n join s ≡ Some stand) × ((m : ℕ) → m < n → seat_stand m join s ≡ None)

-- ---- where images come from

-- an image may go on before its setup frame: none of its publication was given up, or lost, lately
abbrev pub may_resume : Resumes → Bool
may_resume Yes = true
may_resume NoRepeat = false
may_resume WasLost = false

-- what is known of the image of a number
abbrev pub origin_with : ℕ → Option Origin → Option Origin
origin_with number None = None
origin_with number (Some origin) = if origin.number == number then Some origin else None

abbrev pub origin_of : ImageKey → List (Option Origin) → Option Origin
origin_of key origins = origin_with key.number (slice_index_or origins key.place None)

-- what is known of it changes so, if it is at its place still
abbrev pub changed_origin : ImageKey → Option Origin → (Origin → Origin) → List (Option Origin) → List (Option Origin)
changed_origin key None change origins = origins
changed_origin key (Some origin) change origins = slice_set origins key.place (Some (change origin))

-- the recording thread has looked for a recording of it
abbrev pub after_finding : ImageKey → Found → List (Option Origin) → List (Option Origin)
after_finding key found origins = changed_origin key (origin_of key origins) (λ origin. record origin { found = found }) origins

-- a block of it was refused
abbrev pub after_loss : ImageKey → List (Option Origin) → List (Option Origin)
after_loss key origins = changed_origin key (origin_of key origins) (λ origin. record origin { is_refused = true }) origins
