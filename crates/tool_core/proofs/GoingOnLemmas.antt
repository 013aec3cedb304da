-- A script begins where one ended.
use Rattle.std.proofs.Common.{◌≡◌, ◌∙◌, refl, inl, inr, sym, ap, subst, ℕ, pos, Bool, true, false, List, [], ◌∷◌, length, arith, ◌⊎◌, ◌≢◌, ◌≤◌, ◌<◌, ◌==◌, nat_le, eqb-true, eq-eqb, leb-true}
use Rattle.std.proofs.lemmas.Bool.Decides.{nat_tests}
use Rattle.std.proofs.Math.Path.{fun_ext}
use Rattle.std.specs.Prelude.{Option, None, count_by}
use Rattle.disk_core.specs.DiskImage.{DiskImage, Files, MayLeave, begun, durable, reads}
use Rattle.disk_core.specs.Life.{Life}
use Rattle.disk_core.proofs.CallerLemmas.{durable_left}
use Rattle.archive_model.specs.declared.command.Command.TheVariants.{Restart}
use Rattle.archive_model.specs.Commands.{after}
use Rattle.archive_model.specs.State.{State, active_count}
use Rattle.catalogue_entries.specs.declared.entry.Entry.{Entry}
use Rattle.catalogue_log.specs.declared.bank.BankHeader.{BankHeader}
use Rattle.catalogue_log.specs.Banks.{bank_in, epoch_of, other_of}
use Rattle.catalogue_log.specs.Catalogue.{IsCatalogue}
use Rattle.catalogue_log.specs.LogState.{Banks, IsUsable, TellsBanks}
use Rattle.catalogue_entries.specs.Fold.{counts}
use Rattle.control_core.specs.Exact.{Archive, opened_archive}
use Rattle.engine_core.specs.Opened.{IsFresh, LeavesEither}
use Rattle.engine_core.specs.Recovery.{IsEither, Recovers, RecoversTo}
use Rattle.tool_core.specs.Left.{LeavesArchive, LeavesBanks, LeavesShut, LeavesStanding}
use Rattle.tool_core.specs.Script.{GoesOnFrom, GoesOnFromEither}
use Rattle.tool_core.specs.ScriptLines.{closed_in, doubtful, opened}
use Rattle.tool_core.proofs.BeginLemmas.{catalogue_is_there}
use Rattle.tool_core.proofs.OpeningLemmas.{leaves_one, reopened_fresh}
use Rattle.tool_core.proofs.StandingLemmas.{recovers_as}

goes_on : (life : Life) (a : Archive) (b : Banks) (left : LeavesArchive life a) → Recovers (reads life.now) a.state → IsCatalogue (reads life.now) left.header left.entries → TellsBanks (reads life.now) b → GoesOnFrom a b life
goes_on life a b left was catalogue told = inr (
  catalogue_is_there (reads life.now) left.header left.entries catalogue,
  record {
    state = a.state;
    other = a.state;
    leaves = leaves_one life a left;
    recovers = was;
    fresh = reopened_fresh life (reads life.now) a left catalogue;
  },
  told,
)

-- in which nothing is in doubt
certain : (life : Life) (a : Archive) → a.doubt ≡ None → LeavesStanding life (opened a) → LeavesArchive life a
certain life a none leaves = subst (λ (o : Option State). LeavesShut life (closed_in a o)) none leaves

pub on_its_disk : (life : Life) (a : Archive) (b : Banks) → a.doubt ≡ None → LeavesStanding life (opened a) → LeavesBanks life b → MayLeave life.now (reads life.now) → GoesOnFrom a b life
on_its_disk life a b none leaves banks may =
    let left = certain life a none leaves in
    goes_on life a b left (left.recovers (reads life.now) may) (left.catalogue (reads life.now) may) (banks (reads life.now) may)

-- a disk that is begun from an image leaves it alone
one_image : (left : Life) (image : DiskImage) → left.now ≡ begun image → (other : DiskImage) → MayLeave left.now other → other ≡ image
one_image left image is other may_be =
    let here : MayLeave (begun image) other = subst (λ (files : Files). MayLeave files other) is may_be in
    fun_ext (λ file. durable_left (image file) (durable (image file)) (other file) refl (here file))

pub behind_a_crash : (life left : Life) (a : Archive) (b : Banks) (image : DiskImage) → a.doubt ≡ None → LeavesStanding life (opened a) → LeavesBanks life b → MayLeave life.now image → left.now ≡ begun image → GoesOnFrom a b left
behind_a_crash life left a b image none stands banks may is =
    let leaves = certain life a none stands in
    goes_on left a b (record {
      recovers = λ other may_be. subst (λ (i : DiskImage). Recovers i a.state) (sym (one_image left image is other may_be)) (leaves.recovers image may);
      header = leaves.header;
      entries = leaves.entries;
      catalogue = λ other may_be. subst (λ (i : DiskImage). IsCatalogue i leaves.header leaves.entries) (sym (one_image left image is other may_be)) (leaves.catalogue image may);
      counted = leaves.counted;
      limit = leaves.limit;
      version = leaves.version;
    })
    (subst (λ (files : Files). Recovers (reads files) a.state) (sym is) (leaves.recovers image may))
    (subst (λ (files : Files). IsCatalogue (reads files) leaves.header leaves.entries) (sym is) (leaves.catalogue image may))
    (subst (λ (files : Files). TellsBanks (reads files) b) (sym is) (banks image may))

-- ---- one of two states

equal_or_not : (a b : ℕ) → (a ≡ b) ⊎ (a ≢ b)
equal_or_not a b = by (a == b) refl
  where
    by : (t : Bool) → (a == b) ≡ t → (a ≡ b) ⊎ (a ≢ b)
    by true is = inl (eqb-true a b is)
    by false is = inr (λ same. let wrong : false ≡ true = sym is ∙ eq-eqb a b same in cc)

long_or_short : (n : ℕ) → (32 ≤ n) ⊎ (n < 32)
long_or_short n = by (nat_le 32 n) refl
  where
    by : (t : Bool) → nat_le 32 n ≡ t → (32 ≤ n) ⊎ (n < 32)
    by true is = inl (leb-true _ _ is)
    by false is = inr (grind (arith, nat_tests, is))

-- a compaction may write a bank, or not
usable_or_not : (bank : List ℕ) → (spare : Bool) × IsUsable spare bank
usable_or_not [] = (false, λ spare. elim spare [ inl closed ↦ closed | inr long ↦ omega (arith, long) ])
usable_or_not (gate ∷ rest) = elim (equal_or_not gate 1) [
  | inl gated ↦ elim (long_or_short (length (gate ∷ rest))) [
    | inl long ↦ (true, inr long)
    | inr short ↦ (false, λ spare. elim spare [ inl closed ↦ closed gated | inr long ↦ omega (arith, long, short) ])
  ]
  | inr closed ↦ (true, inl closed)
]

-- where there is a catalogue, its banks tell what a compaction would ask of them
some_banks : (image : DiskImage) (h : BankHeader) (es : List Entry) → IsCatalogue image h es → (b : Banks) × TellsBanks image b
some_banks image h es is =
    let other = usable_or_not (bank_in image (other_of is.bank)) in
    (record { epoch = epoch_of (bank_in image is.bank); spare = other.0 }, record { bank = is.bank; in_use = is.in_use; epoch = refl; spare = other.1 })

-- the other of them
swapped : (life : Life) (s u x : State) → IsEither s u x → LeavesEither life s u → (other : State) × LeavesEither life x other
swapped life s u x (inl same) leaves = (u, subst (λ (y : State). LeavesEither life y u) (sym same) leaves)
swapped life s u x (inr same) leaves = (
  s,
  subst (λ (y : State). LeavesEither life y s) (sym same)
      (λ image may. recovers_as (IsEither s u) (IsEither u s) image (λ y either. elim either [ inl one ↦ inr one | inr one ↦ inl one ]) (leaves image may)),
)

restart_of : (life : Life) (s u : State) → LeavesEither life s u → RecoversTo (IsEither s u) (reads life.now) → GoesOnFromEither s u life
restart_of life s u leaves to =
    let is = to.recovers in
    let a : Archive = opened_archive (after to.state Restart) (count_by counts is.entries) is.header.history_limit is.header.version in
    let fresh : IsFresh (reads life.now) (after to.state Restart) a = record { header = is.header; entries = is.entries; catalogue = is.catalogue; is = refl } in
    let both = swapped life s u to.state to.is leaves in
    let banks = some_banks (reads life.now) is.header is.entries is.catalogue in (
      pos (active_count to.state),
      a,
      banks.0,
      record { read = to.state; is = to.is; recovers = is; stopped = refl; fresh = fresh },
      inr (
        catalogue_is_there (reads life.now) is.header is.entries is.catalogue,
        record { state = to.state; other = both.0; leaves = both.1; recovers = is; fresh = fresh },
        banks.1,
      ),
    )

pub in_doubt : (life : Life) (s u : State) → LeavesStanding life (doubtful s u) → MayLeave life.now (reads life.now) → GoesOnFromEither s u life
in_doubt life s u leaves may = restart_of life s u leaves (leaves (reads life.now) may)

pub in_doubt_crashed : (life left : Life) (s u : State) (image : DiskImage) → LeavesStanding life (doubtful s u) → MayLeave life.now image → left.now ≡ begun image → GoesOnFromEither s u left
in_doubt_crashed life left s u image leaves may is =
    restart_of left s u
    (λ other may_be. subst (λ (i : DiskImage). RecoversTo (IsEither s u) i) (sym (one_image left image is other may_be)) (leaves image may))
    (subst (λ (files : Files). RecoversTo (IsEither s u) (reads files)) (sym is) (leaves image may))
