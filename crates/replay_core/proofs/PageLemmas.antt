-- Where the bytes of a page lie, and what is gathered from pages.
use Rattle.std.proofs.Common.{◌≡◌, ◌∙◌, inl, inr, sym, ap, ap₂, subst, refl, ℕ, ℤ, pos, ◌+◌, ◌-◌, ◌*◌, ◌/◌, ◌%◌, ◌^◌, ◌<◌, ◌≤◌, List, ◌++◌, length, take, drop, get_or, min, Contains, length-append, length-take, length-drop, arith}
use Rattle.std.proofs.lemmas.Int.{ints}
use Rattle.std.proofs.lemmas.Bool.{cases_lt}
use Rattle.std.proofs.lemmas.List.{get_or_append_left, get_or-append-add, get_or-take, get_or-drop, take_min}
use Rattle.std.proofs.lemmas.Nat.{mod-pow-add, pow-add, div-add-mod'}
use Rattle.std.proofs.Math.Nat.{add-mul-mod_self_right, mul_assoc}
use Rattle.std.specs.Prelude.{IsTrue, unsigned_abs}
use Rattle.disk_core.specs.DiskImage.{DiskImage, Files, bytes_of, reads}
use Rattle.disk_core.specs.declared.file_id.FileId.TheVariants.{Segment}
use Rattle.disk_core.specs.Life.{Life, IsQuiet}
use Rattle.frame_core.specs.Segment.{first_base}
use Rattle.frame_core.proofs.LimitsLemmas.{is_power}
use Rattle.segment_store.specs.declared.layout.Layout.{Layout}
use Rattle.segment_store.specs.Layout.{IsLayout, base_of, file_of, offset_of}
use Rattle.segment_store.specs.Reading.{AreReadAt}
use Rattle.segment_store.proofs.LayoutLemmas.{base_before, same_base, same_base_between}
use Rattle.replay_core.specs.declared.cache.PageKey.{PageKey}
use Rattle.replay_core.specs.declared.gathering.Source.{Source}
use Rattle.replay_core.specs.Gathering.{AddsKept, AddsPart, AreGathered, Gathers, IsPartOf, KeepsParts, MayKeep, StaysKept}
use Rattle.replay_core.specs.Pages.{Agrees, AgreeAt, AgreeOver, HasByte, IsRead, KeepsRead, Pages, key_at}

-- a page begins in the segment of each of its positions, by exponents of the lengths
inside_by : (start p j k : ℕ) → start ≤ p → p % 4096 ≤ (p - first_base start (2 ^ (k + 12))) % 2 ^ (j + 12)
inside_by start p j k from =
    let w : ℕ = 2 ^ (k + 12) in
    let first : ℕ = start - start % w in
    let whole : start / w * w + start % w ≡ start = div-add-mod' start w in
    let x : ℕ = p - first in
    let small : w ≡ 2 ^ k * 4096 = pow-add 2 k 12 in
    let first_is : start / w * w ≡ start / w * 2 ^ k * 4096 = ap (λ (n : ℕ). start / w * n) small ∙ sym (mul_assoc (start / w) (2 ^ k) 4096) in
    let p_is : p ≡ x + start / w * 2 ^ k * 4096 = omega (arith, from, whole, first_is) in
    let rest : p % 4096 ≡ x % 4096 = ap (λ (n : ℕ). n % 4096) p_is ∙ add-mul-mod_self_right x (start / w * 2 ^ k) 4096 in
    let split : x % 2 ^ (j + 12) ≡ (x / 4096 % 2 ^ j) * 4096 + x % 4096 = mod-pow-add x j 12 in
    omega (arith, rest, split)

pub page_inside : (l : Layout) (p : ℕ) → IsLayout l → unsigned_abs l.start_position ≤ p → p % 4096 ≤ offset_of l p
unfolding base_of
page_inside l p layout from =
    let term = is_power l.term_length layout.term in
    let segment = is_power l.segment_length layout.segment in
    let term_is : unsigned_abs l.term_length ≡ 2 ^ (term.0 - 12 + 12) = ap unsigned_abs term.3 ∙ ap (λ (n : ℕ). 2 ^ n) (omega (arith, term.1)) in
    let segment_is : unsigned_abs l.segment_length ≡ 2 ^ (segment.0 - 12 + 12) = ap unsigned_abs segment.3 ∙ ap (λ (n : ℕ). 2 ^ n) (omega (arith, segment.1)) in
    let inside = inside_by (unsigned_abs l.start_position) p (segment.0 - 12) (term.0 - 12) from in
    let here : p % 4096 ≤ (p - first_base (unsigned_abs l.start_position) (unsigned_abs l.term_length)) % unsigned_abs l.segment_length = rw (term_is, segment_is) inside in
    omega (arith, here)

-- positions of pages from a position's on that lie in its term have its base
pub same_page_base : (l : Layout) (p q : ℕ) → IsLayout l → unsigned_abs l.start_position ≤ p → unsigned_abs l.start_position ≤ q
    → p / 4096 ≤ q / 4096 → p % unsigned_abs l.term_length + q < unsigned_abs l.term_length + p → base_of l q ≡ base_of l p
same_page_base l p q layout from other pages inside = elim (cases_lt q p) [
  | inl less ↦
      let begins : base_of l p ≤ q = omega (arith, base_before l p, page_inside l p layout from, pages, less) in
      same_base_between l p q layout other (omega (arith, less)) begins
  | inr more ↦
      let behind : p + (q - p) ≡ q = omega (arith, more) in
      sym (ap (base_of l) behind) ∙ same_base l p (q - p) layout from (omega (arith, inside, more))
]

-- ---- parts of a file

-- what was read at an offset of a file stands there
pub read_stands : (file window : List ℕ) (at : ℕ) → AreReadAt file at window → (k : ℕ) → k < length window → (at + k < length file) × (get_or file (at + k) 0 ≡ get_or window k 0)
read_stands file window at read k inside =
    let long : length window ≡ min read.asked (length file - at) = ap length read.are ∙ length-take read.asked (drop at file) ∙ ap (min read.asked) (length-drop at file) in (
      omega (arith, long, inside),
      sym (get_or-drop at file k 0) ∙ sym (get_or-take read.asked (drop at file) k 0 (omega (arith, long, inside))) ∙ ap (λ (bs : List ℕ). get_or bs k 0) (sym read.are),
    )

-- a part of what was read, by where it ends
pub part_is : (window : List ℕ) (begin end index : ℕ) → begin ≡ index * 4096 → begin < length window → end ≡ min (length window) (begin + 4096)
    → take (end - begin) (drop begin window) ≡ take 4096 (drop (4096 * index) window)
part_is window begin end index begin_is some end_is =
    let short : end - begin ≡ min 4096 (length (drop begin window)) = omega (arith, end_is, some, length-drop begin window) in
    ap (λ (n : ℕ). take n (drop begin window)) short ∙ take_min 4096 (drop begin window) ∙ ap (λ (n : ℕ). take 4096 (drop n window)) (omega (arith, begin_is))

-- and so does a part of it
part_stands : (window page : List ℕ) (begin k : ℕ) → page ≡ take 4096 (drop begin window) → k < length page
    → (k < 4096) × (begin + k < length window) × (get_or page k 0 ≡ get_or window (begin + k) 0)
part_stands window page begin k are inside =
    let long : length page ≡ min 4096 (length window - begin) = ap length are ∙ length-take 4096 (drop begin window) ∙ ap (min 4096) (length-drop begin window) in (
      omega (arith, long, inside),
      omega (arith, long, inside),
      ap (λ (bs : List ℕ). get_or bs k 0) are ∙ get_or-take 4096 (drop begin window) k 0 (omega (arith, long, inside)) ∙ get_or-drop begin window k 0,
    )

-- a byte of a file that is that of a position is the one that the disk has there
has_byte : (image : DiskImage) (l : Layout) (p q at : ℕ) (byte : ℕ) → base_of l q ≡ base_of l p → at ≡ q - base_of l p
    → (at < length (bytes_of (image (file_of l p)))) × (get_or (bytes_of (image (file_of l p))) at 0 ≡ byte) → HasByte image l q byte
has_byte image l p q at byte base at_is there =
    let file : bytes_of (image (file_of l q)) ≡ bytes_of (image (file_of l p)) = ap (λ (b : ℕ). bytes_of (image (Segment l.recording (pos b)))) base in
    let offset : offset_of l q ≡ at = omega (arith, base, at_is) in
    record {
      inside = omega (arith, ap length file, offset, there.0);
      is = ap₂ (λ (bs : List ℕ) (n : ℕ). get_or bs n 0) file offset ∙ there.1;
    }

-- ---- gathered bytes

-- bytes that were gathered, and more that are the disk's where pages agree with it
gathers_on : (image : DiskImage) (s : Source) (base : Pages) (first : ℕ) (before after added : List ℕ) → after ≡ before ++ added → AreGathered image s base first before
    → ((k : ℕ) → k < length added → AgreeAt image s.layout s.generation base (first + length before + k) → HasByte image s.layout (first + length before + k) (get_or added k 0))
    → AreGathered image s base first after
gathers_on image s base first before after added is gathered more k inside agrees = elim (cases_lt k (length before)) [
  | inl less ↦ subst (HasByte image s.layout (first + k)) (sym (ap (λ (bs : List ℕ). get_or bs k 0) is ∙ get_or_append_left before added 0 k less)) (gathered k less agrees)
  | inr beyond ↦
      let j : ℕ = k - length before in
      let k_is : length before + j ≡ k = omega (arith, beyond) in
      let q_is : first + length before + j ≡ first + k = omega (arith, beyond) in
      let byte : get_or after k 0 ≡ get_or added j 0 =
      ap (λ (bs : List ℕ). get_or bs k 0) is ∙ sym (ap (λ (n : ℕ). get_or (before ++ added) n 0) k_is) ∙ get_or-append-add before added j 0 in
      let short : j < length added = omega (arith, inside, ap length is, length-append before added, beyond) in
      subst (λ (q : ℕ). HasByte image s.layout q (get_or after k 0)) q_is
      (subst (HasByte image s.layout (first + length before + j)) (sym byte) (more j short (subst (AgreeAt image s.layout s.generation base) (sym q_is) agrees)))
]

-- what is gathered from a page that is kept is the disk's
kept_gathered : (obeys : Type 0) (image : DiskImage) (s : Source) (base old : Pages) (first p : ℕ) (before after : List ℕ) → unsigned_abs s.layout.start_position ≤ first
    → first + length before ≡ p → obeys → KeepsRead obeys image s.layout s.generation s.limit base old → AddsKept old (key_at s.layout s.generation p) (p % 4096) before after
    → AreGathered image s base first before → AreGathered image s base first after
kept_gathered obeys image s base old first p before after start at here keeps (inl same) gathered = subst (AreGathered image s base first) (sym same) gathered
kept_gathered obeys image s base old first p before after start at here keeps (inr (page, there, adds)) gathered = gathers_on image s base first before after adds.added adds.is gathered
    (λ k inside agrees.
    let one = adds.each k inside in
    let short : p % 4096 + k < 4096 = elim adds.short [ inl room ↦ omega (arith, room, inside) | inr none ↦ absurd (omega (arith, none, inside)) ] in
    let q : ℕ = first + length before + k in
    let number : p / 4096 ≡ q / 4096 = omega (arith, at, short) in
    let rest : q % 4096 ≡ p % 4096 + k = omega (arith, at, short) in
    let agree : Agrees image s.layout q page.items = elim (keeps (key_at s.layout s.generation p) page there) [
      | inl was ↦ agrees page (subst (λ (n : ℕ). Contains base (record { recording = s.layout.recording; generation = s.generation; number = n }, page)) number was)
      | inr read ↦ read.agrees here q (omega (arith, start)) (sym number)
    ] in
    subst (HasByte image s.layout q) (ap (λ (n : ℕ). get_or page.items n 0) rest ∙ sym one.1) (agree (omega (arith, rest, one.0))))

-- ---- a window

module _ (image : DiskImage) (s : Source) (p : ℕ) (window : List ℕ) (layout : IsLayout s.layout) (from : unsigned_abs s.layout.start_position ≤ p)
    (count : ℕ) (may : MayKeep s p count) (few : length window ≤ 4096 * count) where
  abbrev l : Layout
  l = s.layout

  -- it is what stands in the position's file from the beginning of its page on
  abbrev pub IsWindow : Type 0
  IsWindow = AreReadAt (bytes_of (image (file_of l p))) (offset_of l p - p % 4096) window

  -- a byte of it is that of its position
  window_byte : IsWindow → (k q : ℕ) → k < length window → unsigned_abs l.start_position ≤ q → q + p % 4096 ≡ p + k → HasByte image l q (get_or window k 0)
  window_byte read k q inside start is =
      let base : base_of l q ≡ base_of l p = same_page_base l p q layout from start (omega (arith, is)) (omega (arith, is, may.in_term, few, inside)) in
      let there = read_stands (bytes_of (image (file_of l p))) window (offset_of l p - p % 4096) read k inside in
      has_byte image l p q (offset_of l p - p % 4096 + k) (get_or window k 0) base (omega (arith, is, base_before l p, page_inside l p layout from)) there

  -- a part of it is a page that was read
  pub part_read : (obeys : Type 0) → (obeys → IsWindow) → (key : PageKey) (page : List ℕ) → IsPartOf s p window key page → IsRead obeys image l s.generation s.limit key page
  part_read obeys read key page part =
      let number : key.number ≡ p / 4096 + part.index = ap (λ (k : PageKey). k.number) part.key_is in
      record {
        recording = ap (λ (k : PageKey). k.recording) part.key_is;
        generation_is = ap (λ (k : PageKey). k.generation) part.key_is;
        keeps = may.keeps;
        below = omega (arith, ints, may.below, number, few, part.begins);
        agrees = λ here q start page_is inside.
            let part_of = part_stands window page (4096 * part.index) (q % 4096) part.are inside in
            subst (HasByte image l q) (sym part_of.2)
            (window_byte (read here) (4096 * part.index + q % 4096) q part_of.1 start (omega (arith, number, page_is)));
      }

  -- what is gathered from it is the disk's
  pub window_gathered : (obeys : Type 0) → (obeys → IsWindow) → (base : Pages) (first : ℕ) (before after : List ℕ) → first + length before ≡ p → AddsPart window (p % 4096) before after
      → obeys → AreGathered image s base first before → AreGathered image s base first after
  window_gathered obeys read base first before after at adds here gathered = gathers_on image s base first before after adds.added adds.is gathered
      (λ k inside agrees.
      let one = adds.each k inside in
      subst (λ (q : ℕ). HasByte image l q (get_or adds.added k 0)) (omega (arith, at)) (subst (HasByte image l (p + k)) (sym one.1)
      (window_byte (read here) (p % 4096 + k) (p + k) one.0 (omega (arith, from)) (omega arith))))

-- ---- steps

-- what was read is right under one condition where it is under another
read_as : (obeys other : Type 0) (image : DiskImage) (l : Layout) (generation : ℕ) (limit : ℤ) (key : PageKey) (page : List ℕ) → (other → obeys) → IsRead obeys image l generation limit key page
    → IsRead other image l generation limit key page
read_as obeys other image l generation limit key page weaker read = record {
  recording = read.recording;
  generation_is = read.generation_is;
  keeps = read.keeps;
  below = read.below;
  agrees = λ here. read.agrees (weaker here);
}

-- pages that are kept after a step were kept before it, or were read
pub keeps_on : (obeys earlier : Type 0) (image : DiskImage) (l : Layout) (generation : ℕ) (limit : ℤ) (old mid new : Pages) → (obeys → earlier)
    → KeepsRead earlier image l generation limit old mid → KeepsRead obeys image l generation limit mid new → KeepsRead obeys image l generation limit old new
keeps_on obeys earlier image l generation limit old mid new weaker first second key page there = elim (second key page there) [
  | inl was ↦ elim (first key page was) [ inl was_old ↦ inl was_old | inr read ↦ inr (read_as earlier obeys image l generation limit key page.items weaker read) ]
  | inr read ↦ inr read
]

-- what was read at a moment was read at an earlier one, where the disk obeys now
keeps_given : (obeys earlier : Type 0) (image : DiskImage) (l : Layout) (generation : ℕ) (limit : ℤ) (old new : Pages) → obeys → KeepsRead obeys image l generation limit old new
    → KeepsRead earlier image l generation limit old new
keeps_given obeys earlier image l generation limit old new here keeps key page there = elim (keeps key page there) [
  | inl was ↦ inl was
  | inr read ↦ inr (read_as obeys earlier image l generation limit key page.items (λ _. here) read)
]

-- pages that agree with the disk, and those that were read: they agree with it
pub agree_later : (obeys : Type 0) (image : DiskImage) (l : Layout) (generation : ℕ) (limit : ℤ) (old new : Pages) (from size : ℕ) → obeys → unsigned_abs l.start_position ≤ from
    → KeepsRead obeys image l generation limit old new → AgreeOver image l generation old from size → AgreeOver image l generation new from size
agree_later obeys image l generation limit old new from size here start keeps agree k inside page there = elim (keeps (key_at l generation (from + k)) page there) [
  | inl was ↦ agree k inside page was
  | inr read ↦ read.agrees here (from + k) (omega (arith, start)) refl
]

module _ (files : Files) (s : Source) (first : ℕ) where
  -- no step
  pub gathers_none : (obeys : Type 0) (pages : Pages) (bytes : List ℕ) → Gathers obeys files s first pages pages bytes bytes
  gathers_none obeys pages bytes = record { pages = λ key page there. inl there; bytes = λ base here keeps gathered. gathered }

  -- two steps
  pub gathers_twice : (obeys earlier : Type 0) (old mid new : Pages) (before between after : List ℕ) → (obeys → earlier)
      → Gathers earlier files s first old mid before between → Gathers obeys files s first mid new between after → Gathers obeys files s first old new before after
  gathers_twice obeys earlier old mid new before between after weaker one two = record {
    pages = keeps_on obeys earlier (reads files) s.layout s.generation s.limit old mid new weaker one.pages two.pages;
    bytes = λ base here keeps gathered.
        let were : KeepsRead obeys (reads files) s.layout s.generation s.limit old mid =
        keeps_on obeys earlier (reads files) s.layout s.generation s.limit old mid mid weaker one.pages (λ key page there. inl there) in
        two.bytes base here (keeps_on obeys obeys (reads files) s.layout s.generation s.limit base old mid (λ o. o) keeps were)
        (one.bytes base (weaker here) (keeps_given obeys earlier (reads files) s.layout s.generation s.limit base old here keeps) gathered);
  }

  -- a step from a page that is kept, if any
  pub gathers_kept : (obeys : Type 0) (old new : Pages) (p : ℕ) (before after : List ℕ) → unsigned_abs s.layout.start_position ≤ first → first + length before ≡ p
      → StaysKept old new → AddsKept old (key_at s.layout s.generation p) (p % 4096) before after → Gathers obeys files s first old new before after
  gathers_kept obeys old new p before after start at stays adds = record {
    pages = λ key page there. inl (stays key page there);
    bytes = λ base here keeps gathered. kept_gathered obeys (reads files) s base old first p before after start at here keeps adds gathered;
  }

  -- a step from pages that were read
  pub gathers_loaded : (obeys : Type 0) (old new : Pages) (p count : ℕ) (window before after : List ℕ) → IsLayout s.layout → unsigned_abs s.layout.start_position ≤ p → first + length before ≡ p
      → MayKeep s p count → length window ≤ 4096 * count → (obeys → AreReadAt (bytes_of (reads files (file_of s.layout p))) (offset_of s.layout p - p % 4096) window)
      → KeepsParts s p window old new → AddsPart window (p % 4096) before after → Gathers obeys files s first old new before after
  gathers_loaded obeys old new p count window before after layout start at may few read parts adds = record {
    pages = λ key page there. elim (parts key page there) [
      | inl was ↦ inl was
      | inr part ↦ inr (part_read (reads files) s p window layout start count may few obeys read key page.items part)
    ];
    bytes = λ base here keeps gathered. window_gathered (reads files) s p window layout start count may few obeys read base first before after at adds here gathered;
  }

-- what two calls gather one after the other
pub gathers_after : (old mid new : Life) (s : Source) (first : ℕ) (old_kept mid_kept new_kept : Pages) (before between after : List ℕ) → IsQuiet old mid → IsQuiet mid new
    → ((files : Files) → old.now ≡ files → Gathers (IsTrue mid.obeys) files s first old_kept mid_kept before between)
    → ((files : Files) → mid.now ≡ files → Gathers (IsTrue new.obeys) files s first mid_kept new_kept between after)
    → (files : Files) → old.now ≡ files → Gathers (IsTrue new.obeys) files s first old_kept new_kept before after
gathers_after old mid new s first old_kept mid_kept new_kept before between after quiet later one two files now =
    gathers_twice files s first (IsTrue new.obeys) (IsTrue mid.obeys) old_kept mid_kept new_kept before between after later.obeyed (one files now) (two files (quiet.now ∙ now))
