use Rattle.std.proofs.Common.{◌≡◌, ◌-◌}
use Rattle.replay_core.specs.Pages.{kept}
use Rattle.replay_core.proofs.TakingLemmas.{HasHanded}
use Rattle.replay_core.proofs.replay.Replay.hand_on.Given as goal

abbrev pub invariant-loop-taken : goal.invariant-loop-taken
invariant-loop-taken g l =
    HasHanded g.T.FrameTaker.takes l.fn.taker l.taker (g.D.Disk.life l.fn.store.disk.now) (g.D.Disk.life l.store.disk.now) l.fn.store.layout l.fn.store.geometry l.fn.store.generation (kept l.fn.store.pages.now) (kept l.store.pages.now) l.fn.recorded l.fn.self.bound l.fn.most l.fn.self.next l.at l.taken
    × (l.store.layout ≡ l.fn.store.layout) × (l.store.geometry ≡ l.fn.store.geometry) × (l.store.generation ≡ l.fn.store.generation) × (l.store.disk.ghost_name ≡ l.fn.store.disk.ghost_name)
    × (l.store.pages.ghost_name ≡ l.fn.store.pages.ghost_name)

abbrev pub decreases-loop-taken : goal.decreases-loop-taken
decreases-loop-taken g l = l.fn.most - l.taken
