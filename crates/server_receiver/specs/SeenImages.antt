-- How many datagrams came for images, and when the last one did: docs/SERVING.md, "Metrics".
use Rattle.std.specs.Prelude.{◌+◌, ◌-◌, ◌^◌, ℕ, min, Option, None, Some, slice_index_or, slice_set}
use Rattle.server_receiver.specs.declared.seen_images.SeenImage.{SeenImage}
use Rattle.server_receiver.specs.declared.seen_images.SeenImages.{SeenImages}

-- nothing was seen of an image
abbrev pub nothing_seen : SeenImage
nothing_seen = record { datagrams = 0; last = None }

-- what was seen of the image at a place
abbrev pub images_seen_at : ℕ → SeenImages → SeenImage
images_seen_at place s = slice_index_or s.seen place nothing_seen

-- a datagram came for the image at a place; when is not known yet
abbrev pub one_more : SeenImage → SeenImage
one_more seen = record seen { datagrams = min (seen.datagrams + 1) (2 ^ 64 - 1) }

abbrev pub seen_after_datagram : ℕ → SeenImages → SeenImages
seen_after_datagram place s = record { seen = slice_set s.seen place (one_more (images_seen_at place s)); heard = Some place }

-- the last datagram came at a time, if it was not known when
abbrev pub last_at : ℕ → SeenImage → SeenImage
last_at now seen = record seen { last = Some now }

abbrev pub heard_by : ℕ → Option ℕ → SeenImages → SeenImages
heard_by now None s = s
heard_by now (Some place) s = record { seen = slice_set s.seen place (last_at now (images_seen_at place s)); heard = None }

abbrev pub heard_at : ℕ → SeenImages → SeenImages
heard_at now s = heard_by now s.heard s

-- how long ago the last datagram came; 0 if that is not known
abbrev pub silent : ℕ → Option ℕ → ℕ
silent now None = 0
silent now (Some last) = now - last
