-- The layouts and the geometry of the tests on segment files.
use Rattle.std.proofs.Common.{◌≡◌, ◌≤◌, ◌*◌, ℕ, pos, refl, ap, arith}
use Rattle.std.proofs.lemmas.Int.{ints}
use Rattle.std.specs.Prelude.{unsigned_abs}
use Rattle.frame_core.specs.declared.geometry.Geometry.{Geometry}
use Rattle.frame_core.specs.Limits.{is_mtu}
use Rattle.frame_core.proofs.LimitsLemmas.{power_is}
use Rattle.segment_store.specs.declared.layout.Layout.{Layout}
use Rattle.segment_store.specs.Layout.{IsLayout, IsGeometryOf}

-- terms of 65,536 bytes, segments of two
pub layout_fits : (l : Layout) (k : ℕ) → l.term_length ≡ pos 65536 → l.segment_length ≡ pos 131072 → l.start_position ≡ pos (32 * k) → 32 * k ≤ 65632 → IsLayout l
layout_fits l k term segment start low = record {
  term = power_is l.term_length 16 (omega arith) (omega arith) term;
  segment = power_is l.segment_length 17 (omega arith) (omega arith) segment;
  no_less = omega (arith, ints, term, segment);
  start = k;
  start_is = start;
  in_terms = omega (arith, low, ap unsigned_abs term);
}

-- the layouts and the geometry of the tests
abbrev pub layout_at_0 : Layout
layout_at_0 = record { recording = pos 0; stream_id = pos 1001; start_position = pos 0; term_length = pos 65536; segment_length = pos 131072 }

pub layout_of_the_tests : IsLayout layout_at_0
layout_of_the_tests = layout_fits layout_at_0 0 refl refl refl (omega arith)

abbrev pub layout_mid_stream : Layout
layout_mid_stream = record { recording = pos 0; stream_id = pos 1001; start_position = pos 65632; term_length = pos 65536; segment_length = pos 131072 }

pub layout_from_mid_stream : IsLayout layout_mid_stream
layout_from_mid_stream = layout_fits layout_mid_stream 2051 refl refl refl (omega arith)

abbrev pub geometry_at_0 : Geometry
geometry_at_0 = record { initial_term_id = pos 42; term_length = pos 65536; mtu = pos 1408 }

pub geometry_of_the_tests : IsGeometryOf layout_at_0 geometry_at_0
unfolding is_mtu
geometry_of_the_tests = record { term = refl; mtu = refl }

-- the longest terms and segments
abbrev pub layout_long : Layout
layout_long = record { recording = pos 0; stream_id = pos 1001; start_position = pos 0; term_length = pos 1073741824; segment_length = pos 1073741824 }

pub layout_of_long_terms : IsLayout layout_long
layout_of_long_terms = record {
  term = power_is (pos 1073741824) 30 (omega arith) (omega arith) refl;
  segment = power_is (pos 1073741824) 30 (omega arith) (omega arith) refl;
  no_less = omega (arith, ints);
  start = 0;
  start_is = refl;
  in_terms = omega arith;
}

abbrev pub geometry_long : Geometry
geometry_long = record { initial_term_id = pos 42; term_length = pos 1073741824; mtu = pos 1408 }

pub geometry_of_long_terms : IsGeometryOf layout_long geometry_long
unfolding is_mtu
geometry_of_long_terms = record { term = refl; mtu = refl }
