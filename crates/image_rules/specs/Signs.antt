-- Signs that what comes from an image's address is of another publication: docs/PROTOCOL.md, "Whose frames an image takes".
use Rattle.std.specs.Prelude.{◌≡◌, ◌≢◌, ◌⊎◌, ◌<ℤ◌, ◌-◌, ◌&&◌, ℕ, ℤ, nat_le, int_lt, Bool, false, Option, None, Some, if◌then◌else◌}
use Rattle.frame_core.specs.declared.geometry.Geometry.{Geometry}
use Rattle.frame_core.specs.declared.setup.Setup.{Setup}
use Rattle.frame_core.specs.Setup.{HasJoinPosition, geometry_of}
use Rattle.image_rules.specs.Ending.{are_same_terms}
use Rattle.image_rules.specs.declared.signs.UnaskedFrames.{UnaskedFrames}

-- a setup frame has other terms than the image, or its position is before the mark
abbrev pub IsSetupSign : Geometry → ℤ → Setup → Type 0
IsSetupSign g mark s = (are_same_terms (geometry_of s) g ≡ false) ⊎ ((p : ℤ) × HasJoinPosition s p × (p <ℤ mark))

-- a heartbeat is before the mark, and nothing else of the publication came in the 50 milliseconds before it
abbrev pub is_heartbeat_sign : ℤ → ℤ → ℕ → ℕ → Bool
is_heartbeat_sign mark position heard time = int_lt position mark && nat_le 50 (time - heard)

-- a frame that comes again unasked is the third one within 1,000 milliseconds
abbrev pub is_third_after : ℕ → Option ℕ → Bool
is_third_after time None = false
is_third_after time (Some before) = nat_le (time - before) 1000

abbrev pub is_third : ℕ → UnaskedFrames → Bool
is_third time u = is_third_after time u.before

-- what is known of such frames after one that came
abbrev pub after_unasked : ℕ → UnaskedFrames → UnaskedFrames
after_unasked time u = if is_third time u then record { last = None; before = None } else record { last = Some time; before = u.last }
