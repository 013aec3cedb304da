-- What an engine keeps of its recordings' pages: docs/STORAGE.md, "Pages".
use Rattle.std.specs.Prelude.{◌≡◌, ◌+◌, ◌-◌, ◌*◌, ◌/◌, ◌^◌, ◌<◌, ◌≤◌, ◌<ℤ◌, ◌≤ℤ◌, ℕ, pos, min, Contains, IsTrue, Some, Result, Ok, Vec, unsigned_abs}
use Rattle.std.specs.declared.alloc.Global.{Global}
use Rattle.disk_core.specs.DiskImage.{DiskImage, reads}
use Rattle.disk_core.specs.Life.{Life}
use Rattle.frame_core.specs.declared.refusal.Refusal.{Refusal}
use Rattle.replay_core.specs.declared.cache.PageKey.{PageKey}
use Rattle.replay_core.specs.Pages.{Agrees, Pages}
use Rattle.archive_model.specs.declared.registration.Registration.{Registration}
use Rattle.archive_model.specs.declared.reply.Reply.{Reply}
use Rattle.archive_model.specs.declared.reply.Reply.TheVariants.{Truncated}
use Rattle.archive_model.specs.Register.{RegisterState, registration_in}
use Rattle.recording_reads.specs.Recording.{layout_of}

-- A page of a recording lies whole below the recorded position, and has what the disk has from the start on.
pub record IsPageOf (image : DiskImage) (number : ℕ) (page : Vec ℕ Global) (r : Registration) : Type 0 where
  pub below : pos (4096 * (number + 1)) ≤ℤ r.recorded
  pub agrees : (position : ℕ) → unsigned_abs r.descriptor.start_position ≤ position → position / 4096 ≡ number → Agrees image (layout_of r.descriptor) position page.items

-- What is kept of a page: its recording's id was given; its generation is no later than the present one, and not the last;
-- and it is a page of its recording, where that is there and the generation is the present one.
pub record KeepsPage (image : DiskImage) (g : RegisterState) (generation : ℕ) (key : PageKey) (page : Vec ℕ Global) : Type 0 where
  pub given : key.recording <ℤ g.next
  pub past : key.generation ≤ generation
  pub keeps : key.generation < 2 ^ 64 - 1
  pub present : key.generation ≡ generation → (r : Registration) → registration_in g key.recording ≡ Some r → IsPageOf image key.number page r

-- each page that is kept is so, where the disk obeys the crash model
abbrev pub KeepsPages : Life → RegisterState → ℕ → Pages → Type 0
KeepsPages life g generation pages = IsTrue life.obeys → (key : PageKey) (page : Vec ℕ Global) → Contains pages (key, page) → KeepsPage (reads life.now) g generation key page

-- the generation behind an accepted truncation is the next one, up to the last
abbrev pub generation_after : Result Reply Refusal → ℕ → ℕ
generation_after (Ok (Truncated position)) generation = min (generation + 1) (2 ^ 64 - 1)
generation_after _ generation = generation
