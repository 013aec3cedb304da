-- A call that is refused changes nothing.
use Rattle.std.proofs.Common.{◌≡◌, refl, sym, subst, inr, ℕ, ◌≤◌, List, ◌∷◌}
use Rattle.disk_core.specs.declared.file_id.FileId.{FileId}
use Rattle.disk_core.specs.DiskImage.{FileState}
use Rattle.disk_core.specs.Life.{Steps}
use Rattle.host_disk.specs.Events.{Event, refused}
use Rattle.host_disk.specs.Replay.{life_at}

pub refused_steps : (file : FileId) (Change : FileState → FileState → Type 0) (old new : List Event) (faults more at : ℕ)
    → ((state : FileState) → Change state state) → new ≡ refused file at ∷ old → faults ≤ more → Steps file Change (life_at old faults) (life_at new more)
refused_steps file Change old new faults more at same noted rises = subst (λ (events : List Event). Steps file Change (life_at old faults) (life_at events more)) (sym noted) (record {
  obeyed = λ obeys. obeys;
  this = same _;
  others = λ other differs. refl;
  time = inr (refl, refl);
  faults = rises;
})
