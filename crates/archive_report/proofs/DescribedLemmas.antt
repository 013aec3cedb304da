-- The files of an archive that is only looked at, asked one after another, and what is written of them.
use Rattle.std.proofs.Common.{◌≡◌, ◌∙◌, ◌+◌, ◌<◌, ◌++◌, sym, subst, inr, ℕ, ℤ, IsTrue, List, [], ◌∷◌, get_or, length, map, take, Option}
use Rattle.std.specs.Prelude.{IsSome}
use Rattle.std.proofs.Math.Path.{fun_ext}
use Rattle.std.proofs.lemmas.List.{map-append, take_more}
use Rattle.disk_core.specs.declared.file_id.FileId.{FileId}
use Rattle.disk_core.specs.DiskImage.{DiskImage, reads}
use Rattle.disk_core.specs.FileNames.{AreFilesWith}
use Rattle.disk_core.specs.Life.{Life}
use Rattle.segment_store.specs.Stale.{AreStale}
use Rattle.archive_model.specs.Register.{RegisterState}
use Rattle.engine_core.specs.Moves.{registered_keeps}
use Rattle.archive_commands.specs.Reports.{KnowsAsked}
use Rattle.archive_commands.specs.declared.commands.Stop.{Stop}
use Rattle.archive_commands.specs.declared.commands.Stop.TheVariants as stops
use Rattle.archive_view.specs.declared.view.ArchiveView.{ArchiveView}
use Rattle.archive_view.specs.ReadOnly.{IsOnlyRead}
use Rattle.archive_view.specs.Viewed.{desk_of}
use Rattle.archive_report.specs.declared.form.Form.{Form}
use Rattle.archive_report.specs.declared.summary.Measured.{Measured}
use Rattle.archive_report.specs.Describing.{DescribesView, FailsToDescribe, FailsView, HasDescribed, IsLookedOn}
use Rattle.archive_report.specs.Files.{ShowsFiles, measured_on}
use Rattle.archive_report.specs.Viewing.{ShowsDesk, inner}
use Rattle.archive_report.proofs.ReportLemmas.{look_on, read_on}

-- ---- files that are asked

-- a disk that was only read reads as before
same_image : (old new : Life) → IsOnlyRead old new → reads new.now ≡ reads old.now
same_image old new read = fun_ext read.same

-- the same files and lengths of an image that is the same
shows_same : (image other : DiskImage) (g : RegisterState) (files : List Measured) (stale : List FileId) → other ≡ image → ShowsFiles other g files stale → ShowsFiles image g files stale
shows_same image other g files stale same shows = subst (λ (i : DiskImage). ShowsFiles i g files stale) same shows

module _ {D : Type 0} (life : D → Life) where
  -- one length more
  pub more_measured : (old mid new : ArchiveView D) (items pushed : List Measured) (files : List FileId) (i : ℕ) (d : FileId) (m : Measured) → IsLookedOn life old mid → IsLookedOn life mid new → i < length files
      → (IsTrue (inner life mid).obeys → items ≡ map (measured_on (reads (inner life old).now)) (take i files))
      → (IsTrue (inner life new).obeys → m ≡ measured_on (reads (inner life mid).now) (get_or files i d))
      → pushed ≡ items ++ m ∷ [] → IsTrue (inner life new).obeys → pushed ≡ map (measured_on (reads (inner life old).now)) (take (i + 1) files)
  more_measured old mid new items pushed files i d m first last within so_far one is obeys =
      let image = reads (inner life old).now in
      let before = so_far (last.inside.obeyed obeys) in
      let this : m ≡ measured_on image (get_or files i d) = subst (λ (i' : DiskImage). m ≡ measured_on i' (get_or files i d)) (same_image (inner life old) (inner life mid) first.inside) (one obeys) in
      is ∙ rw (before, this, take_more files i d within) (sym (map-append (measured_on image) (take i files) (get_or files i d ∷ [])))

  -- all of them
  pub files_shown : (first stales lists last : ArchiveView D) (names : List FileId) (files : List Measured) (stale : List FileId) → IsLookedOn life first stales → IsLookedOn life stales lists → IsLookedOn life lists last
      → (IsTrue (inner life stales).obeys → AreStale (reads (inner life first).now) (registered_keeps (desk_of first).register) stale)
      → (IsTrue (inner life lists).obeys → AreFilesWith (λ file. IsSome (reads (inner life stales).now file)) names)
      → (IsTrue (inner life last).obeys → files ≡ map (measured_on (reads (inner life lists).now)) names)
      → IsTrue (inner life last).obeys → ShowsFiles (reads (inner life first).now) (desk_of first).register files stale
  files_shown first stales lists last names files stale one two three swept listed measured obeys =
      let there = three.inside.obeyed obeys in
      let then = look_on life first stales lists one two in
      record {
        names = names;
        all = subst (λ (i : DiskImage). AreFilesWith (λ file. IsSome (i file)) names) (same_image (inner life first) (inner life stales) one.inside) (listed there);
        measured = subst (λ (i : DiskImage). files ≡ map (measured_on i) names) (same_image (inner life first) (inner life lists) then.inside) (measured obeys);
        stales = swept (two.inside.obeyed there);
      }

  -- ---- what is written of a disk

  -- the desk that was seen is that of the disk after further looks
  shown_on : (old back : Life) (seen last : ArchiveView D) → ShowsDesk old (inner life seen) (desk_of seen) → IsLookedOn life seen last → back ≡ inner life last → ShowsDesk old back (desk_of seen)
  shown_on old back seen last shown look is = subst (λ (l : Life). ShowsDesk old l (desk_of seen)) (sym is) (record {
    inside = read_on old (inner life seen) (inner life last) shown.inside look.inside;
    log = shown.log;
    seen = λ obeys. shown.seen (look.inside.obeyed obeys);
  })

  pub described_on : (asked : Option ℤ) (old back : Life) (seen last : ArchiveView D) (form : Form) (contents written : Option (List ℕ)) → ShowsDesk old (inner life seen) (desk_of seen) → KnowsAsked asked (desk_of seen) → IsLookedOn life seen last → DescribesView life asked seen last form contents written
      → back ≡ inner life last → HasDescribed asked old back form contents written
  described_on asked old back seen last form contents written shown there look did is = record {
    desk = desk_of seen;
    shown = shown_on old back seen last shown look is;
    there = there;
    files = did.files;
    stale = did.stale;
    seen = λ obeys. shows_same (reads old.now) (reads (inner life seen).now) (desk_of seen).register did.files did.stale (same_image old (inner life seen) shown.inside)
        (did.seen (subst (λ (l : Life). IsTrue l.obeys) is obeys));
    told = did.told;
  }

  pub undescribed_on : (asked : Option ℤ) (old : Life) (disk : D) (seen last : ArchiveView D) (why : Stop) (contents written : Option (List ℕ)) → ShowsDesk old (inner life seen) (desk_of seen) → IsLookedOn life seen last → FailsView why contents written
      → life disk ≡ inner life last → FailsToDescribe life asked old disk why contents written
  undescribed_on asked old disk seen last (stops.Refused refusal) contents written shown look fails is =
      (inr (record { desk = desk_of seen; shown = shown_on old (life disk) seen last shown look is; unasked = fails.0 }), fails.1)
  undescribed_on asked old disk seen last (stops.Cut end) contents written shown look fails is =
      record { desk = desk_of seen; shown = shown_on old (life disk) seen last shown look is; told = fails }
