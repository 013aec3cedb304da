use Rattle.std.proofs.Common.{◌≡◌}
use Rattle.replay_core.specs.Gathering.{KeepsParts}
use Rattle.replay_core.specs.Pages.{kept}
use Rattle.replay_core.proofs.gathering.keep_pages.Given as goal

abbrev pub invariant-loop-index : goal.invariant-loop-index
invariant-loop-index l = KeepsParts l.fn.source l.fn.position l.fn.window (kept l.fn.pages) (kept l.pages) × (l.pages.gathered ≡ l.fn.pages.gathered)
