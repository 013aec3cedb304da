-- A document has no float.
use Rattle.std.proofs.Common.{◌≡◌, ℕ, ℤ, pos, negsuc, Bool, true, false, List, [], ◌∷◌, Ordering, Less, Equal, Greater, nat_cmp, refl, true≢false}
use Rattle.std.specs.Prelude.{◌||◌, if◌then◌else◌}
use Rattle.std.specs.Cmp.Lexicographic.{slice_cmp}
use Rattle.std.specs.Ordering.{match_ordering}
use Rattle.disk_core.specs.declared.file_id.FileId.{FileId}
use Rattle.archive_model.specs.declared.registration.Registration.{Registration}
use Rattle.archive_model.specs.Register.{RegisterState}
use Rattle.control_core.specs.Desk.{DeskState}
use Rattle.serde_json.specs.Data.{Data, Members, member, no_members, null, put}
use Rattle.serde_json.specs.Find.{is_float, of_integer}
use Rattle.serde_json.specs.Written.{has_float, members_have_float}
use Rattle.archive_report.specs.declared.summary.Measured.{Measured}
use Rattle.archive_report.specs.declared.summary.Total.{Total}
use Rattle.archive_report.specs.Dates.{is_before_start}
use Rattle.archive_report.specs.DocumentData.{archive_in_total, date_data, document_data, each_of, recording_data, stale_data, stop_data, unknown_data, with_dates, with_extent, with_lengths, with_stream}

halves : (a b : Bool) → (a || b) ≡ false → (a ≡ false) × (b ≡ false)
halves false b e = (refl, e)
halves true b e = absurd (true≢false e)

by_order : (o : Ordering) (a b c : Members) → members_have_float a ≡ false → members_have_float b ≡ false → members_have_float c ≡ false → members_have_float (match_ordering o a b c) ≡ false
by_order Less a b c less equal greater = less
by_order Equal a b c less equal greater = equal
by_order Greater a b c less equal greater = greater

put_one : (k : List ℕ) (d : Data) (ms : Members) → has_float d ≡ false → members_have_float ms ≡ false → members_have_float (put k d ms) ≡ false
put_one k d no_members one others = rw one
put_one k d (member l e ms) one others =
    let parts = halves (has_float e) (members_have_float ms) others in
    by_order (slice_cmp nat_cmp k l) _ _ _ (rw (one, parts.0, parts.1)) (rw (one, parts.1)) (rw (parts.0, put_one k d ms one parts.1))

each_one : {X : Type 0} (f : X → Data) (xs : List X) → ((x : X) → has_float (f x) ≡ false) → has_float (each_of f xs) ≡ false
each_one f [] one = refl
each_one f (x ∷ xs) one = rw (one x, each_one f xs one)

integer : (z : ℤ) → is_float (of_integer z) ≡ false
integer (pos n) = refl
integer (negsuc n) = refl

date : (time : ℤ) → has_float (date_data time) ≡ false
date (pos ms) = refl
date (negsuc n) = refl

chosen : (b : Bool) (d : Data) → has_float d ≡ false → has_float (if b then null else d) ≡ false
chosen true d none = refl
chosen false d none = none

stop : (start time : ℤ) → has_float (stop_data start time) ≡ false
stop start time = chosen (is_before_start start time) (date_data time) (date time)

stream : (r : Registration) (ms : Members) → members_have_float ms ≡ false → members_have_float (with_stream r ms) ≡ false
unfolding with_stream
stream r ms none = search (put_one, integer, none) depth 8

dates : (r : Registration) (ms : Members) → members_have_float ms ≡ false → members_have_float (with_dates r ms) ≡ false
unfolding with_dates
dates r ms none = search (put_one, integer, date, stop, none)

extent : (t : Total) (r : Registration) (ms : Members) → members_have_float ms ≡ false → members_have_float (with_extent t r ms) ≡ false
unfolding with_extent
extent t r ms none = search (put_one, integer, none) depth 8

lengths : (r : Registration) (ms : Members) → members_have_float ms ≡ false → members_have_float (with_lengths r ms) ≡ false
unfolding with_lengths
lengths r ms none = search (put_one, integer, none)

pub recording : (files : List Measured) (r : Registration) → has_float (recording_data files r) ≡ false
unfolding recording_data
recording files r = lengths r _ (extent _ r _ (dates r _ (stream r _ refl)))

stale : (g : RegisterState) (file : FileId) → has_float (stale_data g file) ≡ false
unfolding stale_data
stale g file = refl

unknown : (file : FileId) → has_float (unknown_data file) ≡ false
unfolding unknown_data
unknown file = refl

archive : (t : Total) (d : DeskState) (rs ss us : Data) → has_float rs ≡ false → has_float ss ≡ false → has_float us ≡ false → has_float (archive_in_total t d rs ss us) ≡ false
unfolding archive_in_total
archive t d rs ss us r s u = rw (r, s, u)

pub no_float : (d : DeskState) (files : List Measured) (ss us : List FileId) → has_float (document_data d files ss us) ≡ false
unfolding document_data
no_float d files ss us = archive _ d _ _ _ (each_one _ d.register.recordings (recording files)) (each_one _ ss (stale d.register)) (each_one _ us unknown)
