-- How a run of device calls goes on.
use Rattle.std.proofs.Common.{◌≡◌, ◌≢◌, ◌⊎◌, ◌≤◌, List, [], ◌∷◌, ◌++◌, length, drop, inl, inr, ⊎_elim, sym, ap, ◌∙◌, subst, arith, append_assoc, append-nil, length-append}
use Rattle.std.proofs.lemmas.List.{drop-append-le}
use Rattle.std.proofs.Math.Seq.{drop-append_seam}
use Rattle.disk_core.specs.declared.file_id.FileId.{FileId}
use Rattle.disk_core.specs.DiskImage.{DiskImage, FileState, Files, LeavesFile, MayLeave, reads}
use Rattle.disk_core.specs.Calls.{IsSynced}
use Rattle.disk_core.specs.Life.{Life, moments, moment, AnyLeaves, MayHaveLeft, IsQuiet, Steps, LeavesOnly}
use Rattle.disk_core.proofs.FileLemmas.{same_file}
use Rattle.disk_core.proofs.DiskImageLemmas.{synced_left}

any_append : (some more : List Files) (image : DiskImage) → AnyLeaves (some ++ more) image → AnyLeaves some image ⊎ AnyLeaves more image
any_append [] more image left = inr left
any_append (files ∷ some) more image left = elim left [
  | inl here ↦ inl (inl here)
  | inr later ↦ ⊎_elim (λ l. inl (inr l)) (λ r. inr r) (any_append some more image later)
]

-- since this moment there is no other
pub only_now : (life : Life) (image : DiskImage) → MayHaveLeft life (moment life) image → MayLeave life.now image
only_now life image left =
    let now : AnyLeaves (life.now ∷ []) image = subst (λ (states : List Files). AnyLeaves states image) (drop-append_seam life.past (life.now ∷ [])) left in
    elim now [ inl here ↦ here | inr none ↦ absurd none ]

any_later : (some more : List Files) (image : DiskImage) → AnyLeaves more image → AnyLeaves (some ++ more) image
any_later [] more image left = left
any_later (files ∷ some) more image left = inr (any_later some more image left)

-- what every image since the first call has, each has that a crash may leave now
pub now_leaves : (old new : Life) (P : DiskImage → Type 0) → LeavesOnly old new P → (image : DiskImage) → MayLeave new.now image → P image
now_leaves old new P only image left =
    let short : moment old ≤ length new.past =
    omega (arith, ap length only.extends, length-append (moments old) only.since, length-append old.past (old.now ∷ []), length-append new.past (new.now ∷ [])) in
    let split : drop (moment old) (moments new) ≡ drop (moment old) new.past ++ new.now ∷ [] = drop-append-le (moment old) new.past (new.now ∷ []) short in
    only.each image
    (subst (λ (states : List Files). AnyLeaves states image) (sym split) (any_later (drop (moment old) new.past) (new.now ∷ []) image (inl left)))

-- before the first call
pub started : (old : Life) (P : DiskImage → Type 0) → ((image : DiskImage) → MayLeave old.now image → P image) → LeavesOnly old old P
started old P here = record {
  since = [];
  extends = sym (append-nil (moments old));
  each = λ image left. here image (only_now old image left);
}

-- later moments, in which a crash leaves what has P
pub goes_on_by : (old mid new : Life) (P : DiskImage → Type 0) (more : List Files) → LeavesOnly old mid P → moments new ≡ moments mid ++ more
    → ((image : DiskImage) → AnyLeaves more image → P image) → LeavesOnly old new P
goes_on_by old mid new P more so_far extends here = record {
  since = so_far.since ++ more;
  extends = extends ∙ ap (λ (states : List Files). states ++ more) so_far.extends ∙ append_assoc (moments old) so_far.since more;
  each = λ image left.
      let short : moment old ≤ length (moments mid) =
      omega (arith, ap length so_far.extends, length-append (moments old) so_far.since, length-append old.past (old.now ∷ [])) in
      let split : drop (moment old) (moments new) ≡ drop (moment old) (moments mid) ++ more =
      ap (λ (states : List Files). drop (moment old) states) extends ∙ drop-append-le (moment old) (moments mid) more short in
      ⊎_elim (so_far.each image) (here image)
      (any_append (drop (moment old) (moments mid)) more image (subst (λ (states : List Files). AnyLeaves states image) split left));
}

-- no moment more
same_moments : (old mid new : Life) (P : DiskImage → Type 0) → LeavesOnly old mid P → new.past ≡ mid.past → new.now ≡ mid.now → LeavesOnly old new P
same_moments old mid new P so_far past now =
    let same : moments new ≡ moments mid ++ [] = ap (λ (p : List Files). p ++ new.now ∷ []) past ∙ ap (λ (n : Files). mid.past ++ n ∷ []) now ∙ sym (append-nil (moments mid)) in
    goes_on_by old mid new P [] so_far same (λ image none. absurd none)

-- a call that changes nothing
pub goes_quiet : (old mid new : Life) (P : DiskImage → Type 0) → LeavesOnly old mid P → IsQuiet mid new → LeavesOnly old new P
goes_quiet old mid new P so_far quiet = same_moments old mid new P so_far quiet.past quiet.now

-- a call after which a crash leaves what has P
pub goes_on : (old mid new : Life) (P : DiskImage → Type 0) (file : FileId) (Change : FileState → FileState → Type 0) → LeavesOnly old mid P → Steps file Change mid new
    → ((image : DiskImage) → MayLeave new.now image → P image) → LeavesOnly old new P
goes_on old mid new P file Change so_far step here = elim step.time [
  | inl later ↦ goes_on_by old mid new P (new.now ∷ []) so_far later (λ image left. elim left [ inl now ↦ here image now | inr none ↦ absurd none ])
  | inr still ↦ same_moments old mid new P so_far still.0 still.1
]

-- what one of the later moments leaves, a moment since then has left
later_part : (mid new : Life) (since : List Files) → moments new ≡ moments mid ++ since → (image : DiskImage) → AnyLeaves since image → MayHaveLeft new (moment mid) image
later_part mid new since extends image left =
    let split : drop (moment mid) (moments new) ≡ mid.now ∷ since =
    ap (λ (states : List Files). drop (moment mid) states) (extends ∙ append_assoc mid.past (mid.now ∷ []) since) ∙ drop-append_seam mid.past (mid.now ∷ since) in
    subst (λ (states : List Files). AnyLeaves states image) (sym split) (inr left)

-- a part that has a clause of its own on each moment
pub goes_on_part : (old mid new : Life) (P Q : DiskImage → Type 0) → LeavesOnly old mid P → LeavesOnly mid new Q
    → ((image : DiskImage) → Q image → P image) → LeavesOnly old new P
goes_on_part old mid new P Q so_far part follows =
    goes_on_by old mid new P part.since so_far part.extends
    (λ image left. follows image (part.each image (later_part mid new part.since part.extends image left)))

-- a weaker fact of each moment
pub weaker : (old new : Life) (P Q : DiskImage → Type 0) → LeavesOnly old new Q → ((image : DiskImage) → Q image → P image) → LeavesOnly old new P
weaker old new P Q so_far follows = record {
  since = so_far.since;
  extends = so_far.extends;
  each = λ image left. follows image (so_far.each image left);
}

-- of another file than the one that a call may change, a crash leaves what it might leave before
pub others_left : (file other : FileId) (Change : FileState → FileState → Type 0) (old new : Life) (image : DiskImage) → Steps file Change old new → other ≢ file
    → MayLeave new.now image → LeavesFile (old.now other) (image other)
others_left file other Change old new image step differs left =
    subst (λ (state : FileState). LeavesFile state (image other)) (step.others other differs) (left other)

-- after a call that changes nothing, a crash leaves what it might leave before
pub quiet_left : (old new : Life) (image : DiskImage) → IsQuiet old new → MayLeave new.now image → MayLeave old.now image
quiet_left old new image quiet left = subst (λ (files : Files). MayLeave files image) quiet.now left

-- a sync, also a failed one, leaves what might have been left before
pub sync_leaves : (file : FileId) (old new : Life) → MayLeave old.now (reads old.now) → Steps file IsSynced old new
    → (image : DiskImage) → MayLeave new.now image → MayLeave old.now image
sync_leaves file old new stays step image left other = elim (same_file other file) [
  | inl is ↦ subst (λ (f : FileId). LeavesFile (old.now f) (image f)) (sym is)
      (synced_left (old.now file) (new.now file) (image file) (stays file) step.this (left file))
  | inr differs ↦ others_left file other IsSynced old new image step differs left
]

-- each moment of a sync leaves what might have been left before
pub sync_moments : (file : FileId) (old new : Life) → MayLeave old.now (reads old.now) → Steps file IsSynced old new → LeavesOnly old new (MayLeave old.now)
sync_moments file old new stays step =
    goes_on old old new (MayLeave old.now) file IsSynced (started old (MayLeave old.now) (λ image left. left)) step (sync_leaves file old new stays step)
