use Rattle.std.proofs.Common.{sym, append-nil, take, length, ◌+◌, [], ◌∷◌, arith, subst, take_all, le_refl, ◌∙◌}
use Rattle.std.specs.Io.BufRead.{FillKeeps}
use Rattle.tool_core.proofs.PartsLemmas.{MovesText-shown, take_with_end}
use Rattle.tool_core.proofs.lines.take_part.Goals as goal

pub returns-in_ok-add-in-Some-clause-taken : goal.returns-in_ok-add-in-Some-clause-taken
returns-in_ok-add-in-Some-clause-taken g c =
    let rested = c.fill_buf.follows.lender-at-none in
    let filled = subst (FillKeeps _ (g.R.Read.remaining rested) (g.R.BufRead.consumable_len rested)) c.in-Ok.is c.fill_buf.follows.holds-at-none in
    let shown = c.in-Ok.shown.now in
    let found = c.in-Some.ensures.found in
    MovesText-shown _ _ _ _ _ _ shown (c.in-Some.at + 1) (take c.in-Some.at shown) (10 ∷ [])
    (omega (arith, found.0)) (take_with_end shown c.in-Some.at found.0 found.1) found.2 c.in_ok-add-in-Some.ensures
    c.in-Ok.ensures.front c.in-Ok.ensures.end filled.0 filled.1 c.consume.ensures.bytes

pub returns-in_ok-add-in-None-clause-taken : goal.returns-in_ok-add-in-None-clause-taken
returns-in_ok-add-in-None-clause-taken g c =
    let rested = c.fill_buf.follows.lender-at-none in
    let filled = subst (FillKeeps _ (g.R.Read.remaining rested) (g.R.BufRead.consumable_len rested)) c.in-Ok.is c.fill_buf.follows.holds-at-none in
    let shown = c.in-Ok.shown.now in
    MovesText-shown _ _ _ _ _ _ shown (length shown) shown []
    (le_refl _) (take_all (length shown) shown (le_refl _) ∙ sym (append-nil shown)) c.in-None.ensures.none c.in_ok-add-in-None.ensures
    c.in-Ok.ensures.front c.in-Ok.ensures.end filled.0 filled.1 c.consume-in-None.ensures.bytes
