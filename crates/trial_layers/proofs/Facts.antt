-- The layout and the terms of the measured recording are in their limits.
use Rattle.std.proofs.Common.{◌≡◌, ◌*◌, ◌^◌, ◌≤◌, pos, refl, arith}
use Rattle.std.proofs.lemmas.Int.{ints}
use Rattle.frame_core.specs.declared.geometry.Geometry.{Geometry}
use Rattle.frame_core.specs.Limits.{is_mtu}
use Rattle.frame_core.proofs.LimitsLemmas.{power_is}
use Rattle.segment_store.specs.declared.layout.Layout.{Layout}
use Rattle.segment_store.specs.Layout.{IsLayout, IsGeometryOf}

abbrev pub layout_at_0 : Layout
layout_at_0 = record { recording = pos 0; stream_id = pos 1001; start_position = pos 0; term_length = pos 1073741824; segment_length = pos 1073741824 }

pub layout_fits : IsLayout layout_at_0
layout_fits = record {
  term = power_is layout_at_0.term_length 30 (omega arith) (omega arith) refl;
  segment = power_is layout_at_0.segment_length 30 (omega arith) (omega arith) refl;
  no_less = omega (arith, ints);
  start = 0;
  start_is = refl;
  in_terms = omega arith;
}

abbrev pub geometry_at_0 : Geometry
geometry_at_0 = record { initial_term_id = pos 42; term_length = pos 1073741824; mtu = pos 1408 }

pub geometry_fits : IsGeometryOf layout_at_0 geometry_at_0
unfolding is_mtu
geometry_fits = record { term = refl; mtu = refl }
