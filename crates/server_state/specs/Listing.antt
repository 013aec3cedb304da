-- The answer to the line `images`: docs/SERVING.md, "Which images there are".
use Rattle.std.specs.Prelude.{◌++◌, ℕ, ℤ, List, [], Option, None, Some, codes, decimal, if◌then◌else◌}
use Rattle.std.specs.List.{enumerate_from, flat_map, position}
use Rattle.std.specs.Fmt.{signed_decimal}
use Rattle.stream_pairs.specs.declared.points.StreamPoint.{StreamPoint}
use Rattle.stream_pairs.specs.declared.pairs.JoinedImage.{JoinedImage}
use Rattle.stream_pairs.specs.declared.pairs.SessionSlot.{SessionSlot}
use Rattle.stream_pairs.specs.Pairs.{PairsState, feeds, image_count, slot_of}

-- a number after a blank, and the rest of a line
abbrev pub with_number : ℤ → List ℕ → List ℕ
with_number z rest = codes " " ++ (signed_decimal z ++ rest)

-- the recorder session that an image feeds, by its number, or that it feeds none
abbrev pub session_text : Option ℤ → List ℕ
session_text None = codes "-"
session_text (Some session) = signed_decimal session

-- an image: its number, whose it is, its terms, where it joined, and the session that it feeds
abbrev pub image_line_with : ℕ → StreamPoint → List ℕ → List ℕ
image_line_with i p session =
    codes "image " ++ (decimal i ++ with_number p.publication.session_id (with_number p.publication.stream_id (
    with_number p.geometry.initial_term_id (with_number p.geometry.term_length (with_number p.geometry.mtu (
    with_number p.position (codes " " ++ (session ++ codes "\n"))))))))

abbrev pub image_line : ℕ → StreamPoint → Option ℤ → List ℕ
image_line i p session = image_line_with i p (session_text session)

abbrev pub number_of_slot : Option SessionSlot → Option ℤ
number_of_slot None = None
number_of_slot (Some slot) = Some slot.session

abbrev pub number_at : Option ℕ → PairsState → Option ℤ
number_at None s = None
number_at (Some n) s = number_of_slot (slot_of n s)

-- the number of the session that the image at a place feeds
abbrev pub fed_number : ℕ → PairsState → Option ℤ
fed_number i s = number_at (position (feeds i) s.slots) s

-- the line of an image, with its number; none of one whose place was given back
abbrev pub numbered_line : PairsState → ℕ × JoinedImage → List ℕ
numbered_line s placed = if placed.1.has_left then [] else image_line placed.1.number placed.1.join (fed_number placed.0 s)

-- a line for each image
abbrev pub image_lines : PairsState → List ℕ
image_lines s = flat_map (numbered_line s) (enumerate_from 0 s.images)

-- the answer to the line `images`
abbrev pub images_text : PairsState → List ℕ
images_text s = image_lines s ++ (codes "end " ++ (decimal (image_count s) ++ codes "\n"))
