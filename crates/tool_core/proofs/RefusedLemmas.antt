-- Disks whose catalogue is refused.
use Rattle.std.proofs.Common.{◌≡◌, ◌⊎◌, ◌∙◌, List, inl, inr, sym, subst}
use Rattle.frame_core.specs.declared.refusal.Refusal.{Refusal}
use Rattle.frame_core.specs.declared.refusal.Refusal.TheVariants.{DeviceFault, NoMemory}
use Rattle.disk_core.specs.declared.file_id.FileId.{FileId}
use Rattle.disk_core.specs.DiskImage.{DiskImage, reads}
use Rattle.disk_core.specs.Life.{Life}
use Rattle.catalogue_log.specs.declared.bank.BankHeader.{BankHeader}
use Rattle.catalogue_entries.specs.declared.entry.Entry.{Entry}
use Rattle.catalogue_log.specs.Catalogue.{IsCatalogue, IsOfNoImage, RefusesCatalogue}
use Rattle.catalogue_log.proofs.CallerLemmas as catalogues
use Rattle.tool_core.specs.Left.{IsRefused, IsRefusedBy}

-- it is the same by what the disk reads as
refused_as : (old new : Life) (why : Refusal) → reads old.now ≡ reads new.now → IsRefusedBy old why → IsRefusedBy new why
refused_as old new NoMemory same is = absurd is
refused_as old new DeviceFault same is = absurd is
refused_as old new why same is = subst (λ (image : DiskImage). RefusesCatalogue image why) same is

-- where each file reads as before
pub refused_still : (old new : Life) (image : DiskImage) (why : Refusal) → ((file : FileId) → reads new.now file ≡ reads old.now file) → IsRefused old image why → IsRefused new image why
refused_still old new image why same is =
    (refused_as old new why (catalogues.same_image (reads old.now) (reads new.now) (λ file. sym (same file))) is.0, λ file. same file ∙ is.1 file)

-- such a refusal is no fault and no want of memory
of_image : (life : Life) (why : Refusal) → IsRefusedBy life why → IsOfNoImage why → ⊥
of_image life why is (inl fault) = subst (IsRefusedBy life) fault is
of_image life why is (inr memory) = subst (IsRefusedBy life) memory is

refuses : (life : Life) (why : Refusal) → IsRefusedBy life why → RefusesCatalogue (reads life.now) why
refuses life NoMemory is = absurd is
refuses life DeviceFault is = absurd is
refuses life why is = is

-- there is no catalogue then
pub no_catalogue : (life : Life) (why : Refusal) (h : BankHeader) (es : List Entry) → IsRefusedBy life why → IsCatalogue (reads life.now) h es → ⊥
no_catalogue life why h es is catalogue = of_image life why is (catalogues.not_refused (reads life.now) h es why catalogue (refuses life why is))

-- an image is refused by one refusal, but for want of memory and a fault
abbrev OneOf : Refusal → Refusal → Type 0
OneOf why refusal = (refusal ≡ why) ⊎ ((refusal ≡ NoMemory) ⊎ (refusal ≡ DeviceFault))

pub refused_once : (life : Life) (why refusal : Refusal) → IsRefusedBy life why → RefusesCatalogue (reads life.now) refusal → OneOf why refusal
refused_once life why refusal is again = elim (catalogues.refused_once (reads life.now) why refusal (refuses life why is) again) [
  | inl same ↦ inl (sym same)
  | inr (inl mine) ↦ absurd (of_image life why is mine)
  | inr (inr (inl fault)) ↦ inr (inr fault)
  | inr (inr (inr memory)) ↦ inr (inl memory)
]
