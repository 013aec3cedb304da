-- What is measured of images, and which datagrams came late or again: docs/SERVING.md, "Metrics".
use Rattle.std.specs.Prelude.{◌-◌, ◌*◌, ℕ, ℤ, pos, Bool, false, Option, None, Some, int_le, unsigned_abs, if◌then◌else◌}
use Rattle.std.specs.Ordering.{int_eq}
use Rattle.frame_core.specs.declared.nak.Nak.{Nak}
use Rattle.image_core.specs.Received.{Received, rebuilt}
use Rattle.metrics_text.specs.declared.measures.ImageMeasures.{ImageMeasures}
use Rattle.server_receiver.specs.declared.gaps.SeenGap.{SeenGap}
use Rattle.server_receiver.specs.declared.metering.ImageTraffic.{ImageTraffic}

-- ---- datagrams that came late or again

-- frames that begin here came late or again, if frames that begin there or further came before
abbrev pub is_late : Option ℤ → Option ℤ → Bool
is_late (Some begins) (Some farthest) = int_le begins farthest
is_late begins farthest = false

-- where the farthest frames begin
abbrev pub farther : Option ℤ → Option ℤ → Option ℤ
farther None farthest = farthest
farther begins None = begins
farther (Some begins) (Some farthest) = if int_le begins farthest then Some farthest else Some begins

-- ---- gaps

-- the gap at a position was seen before
abbrev pub is_seen : ℤ → Option SeenGap → Bool
is_seen position None = false
is_seen position (Some gap) = int_eq gap.position position

-- the gap at a position is seen now: since when it has stood
abbrev pub gap_now : ℤ → ℕ → Option SeenGap → SeenGap
gap_now position now None = record { position = position; since = now }
gap_now position now (Some gap) = if int_eq gap.position position then gap else record { position = position; since = now }

abbrev pub gap_seen : Option ℤ → ℕ → Option SeenGap → Option SeenGap
gap_seen None now seen = None
gap_seen (Some position) now seen = Some (gap_now position now seen)

-- for how many milliseconds it has stood; 0 if there is no gap
abbrev pub stood : ℕ → Option SeenGap → ℕ
stood now None = 0
stood now (Some gap) = now - gap.since

-- how many bytes of it are asked for; 0 if nothing is
abbrev pub asked_bytes : Option Nak → ℕ
asked_bytes None = 0
asked_bytes (Some n) = unsigned_abs n.length

-- ---- images

-- what is measured of an image with this number, of which so much was counted
abbrev pub image_measured : ℕ → Received → ImageTraffic → ImageMeasures
image_measured number image traffic = record {
  image = number;
  stream_id = image.publication.stream_id;
  session_id = image.publication.session_id;
  rebuilt = pos (rebuilt image);
  consumed = pos image.from;
  gap_micros = traffic.gap_millis * 1000;
  gap_bytes = traffic.gap_bytes;
  hole_bytes = traffic.hole_bytes;
  datagrams = traffic.datagrams;
  naks = traffic.naks;
  lost = traffic.lost;
  silent_micros = traffic.silent_millis * 1000;
}
