use Rattle.std.proofs.Common.{◌≡◌, ◌*ℤ◌, pos, subst, arith}
use Rattle.std.proofs.lemmas.Int.{to_z-of_z}
use Rattle.jiff_core.specs.DateTime.{civil_nanos}
use Rattle.jiff_core.specs.Timestamp.{IsTimestampNanos}
use Rattle.jiff_core.proofs.SignedLemmas.{signed_arith}
use Rattle.archive_report.proofs.CalendarLemmas.{date_is}
use Rattle.archive_report.proofs.dates.civil_of.Goals as goal

pub returns-in-Ok-clause-dated : goal.returns-in-Ok-clause-dated
returns-in-Ok-clause-dated c =
    let value : c.in-Ok.instant.nanosecond ≡ c.args.time *ℤ pos 1_000_000 = simp (to_z-of_z, c.ranges.time) at c.in-Ok.ensures.value in
    let civil : civil_nanos c.to_datetime.result ≡ c.args.time *ℤ pos 1_000_000 = omega (arith, signed_arith, value, c.to_datetime.ensures) in
    date_is c.to_datetime.result c.args.time c.requires (subst IsTimestampNanos value c.in-Ok.instant.in_range) civil
