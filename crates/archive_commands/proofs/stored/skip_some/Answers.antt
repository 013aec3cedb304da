use Rattle.std.proofs.Common.{arith, rules, subst}
use Rattle.std.specs.Io.BufRead.{FillKeeps}
use Rattle.archive_commands.proofs.StoredLemmas.{Passes-shown, at_end}
use Rattle.archive_commands.proofs.stored.skip_some.Goals as goal

pub returns-then-is_empty-clause-skipped : goal.returns-then-is_empty-clause-skipped
returns-then-is_empty-clause-skipped g c =
    let rested = c.fill_buf.follows.lender-at-none in
    let filled = subst (FillKeeps _ (g.R.Read.remaining rested) (g.R.BufRead.consumable_len rested)) c.in-Ok.is c.fill_buf.follows.holds-at-none in
    at_end _ _ c.in-Ok.shown.now c.in-Ok.ensures.end filled.0 (search rules)

pub returns-clause-skipped : goal.returns-clause-skipped
returns-clause-skipped g c =
    let rested = c.fill_buf.follows.lender-at-none in
    let filled = subst (FillKeeps _ (g.R.Read.remaining rested) (g.R.BufRead.consumable_len rested)) c.in-Ok.is c.fill_buf.follows.holds-at-none in
    let least = c.min-count.ensures in
    (omega (arith, least), Passes-shown _ _ _ _ c.in-Ok.shown.now c.min-count.result (omega (arith, least)) c.in-Ok.ensures.front c.in-Ok.ensures.end filled.0 filled.1 c.consume.ensures.bytes)
