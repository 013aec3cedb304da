-- Pages that a reader of settled frames keeps.
use Rattle.std.proofs.Common.{◌≡◌, sym, refl, subst, inl, inr, ℕ, ℤ, ◌+◌, ◌≤◌, ◌*◌, ◌^◌, ◌≤ℤ◌, ◌&&◌, Bool, true, false, IsTrue, List, [], ◌∷◌, length, arith}
use Rattle.std.proofs.lemmas.Bool.Decides.{nat_tests}
use Rattle.std.proofs.lemmas.Int.{ints}
use Rattle.std.specs.Prelude.{int_le, nat_le, unsigned_abs}
use Rattle.disk_core.specs.DiskImage.{Files, reads}
use Rattle.disk_core.specs.Life.{Life, IsQuiet}
use Rattle.frame_core.specs.declared.frame.Frame.{Frame}
use Rattle.frame_core.specs.FrameEncoding.{aligned_length, encoded}
use Rattle.frame_core.specs.Limits.{is_mtu, is_term_length}
use Rattle.segment_store.specs.declared.layout.Layout.{Layout}
use Rattle.replay_core.specs.Pages.{AgreeOver, Agrees, KeepsRead, Pages}
use Rattle.replay_core.specs.Poll.{AgreeOn}
use Rattle.archive_model.specs.Descriptor.{is_aligned}
use Rattle.archive_model.specs.declared.registration.Registration.{Registration}
use Rattle.archive_model.proofs.AlignedLemmas.{aligned_of_units, aligned_units}
use Rattle.control_core.specs.declared.callers.OpenReplay.{OpenReplay}
use Rattle.recording_reads.specs.Settled.{IsReadable, PagesAgree, has_layout}

module _ (life : Life) (l : Layout) (generation : ℕ) (pages : Pages) (agree : PagesAgree life l pages) (obeys : IsTrue life.obeys) where
  -- they agree with the disk on so many bytes
  agree_over : (from size : ℕ) → unsigned_abs l.start_position ≤ from → AgreeOver (reads life.now) l generation pages from size
  agree_over from size start k less page has = agree obeys _ page has (from + k) (omega (arith, start)) refl

  -- and on whatever frames
  pub agree_on : (frames : List Frame) (from : ℕ) → unsigned_abs l.start_position ≤ from → AgreeOn (reads life.now) l generation pages from frames
  agree_on [] from start = tt
  agree_on (f ∷ fs) from start = (agree_over from (length (encoded f)) start, agree_on fs (from + aligned_length f) (omega (arith, start)))

-- those that are kept or read later do so too
pub still_agree : (old new : Life) (l : Layout) (generation : ℕ) (limit : ℤ) (before after : Pages) → IsQuiet old new → PagesAgree old l before
    → KeepsRead (IsTrue new.obeys) (reads old.now) l generation limit before after → PagesAgree new l after
still_agree old new l generation limit before after quiet agree keeps obeys key page has position from here =
    subst (λ (files : Files). Agrees (reads files) l position page.items) (sym quiet.now)
    (elim (keeps key page has) [
      | inl was ↦ agree (quiet.obeyed obeys) key page was position from here
      | inr read ↦ read.agrees obeys position from here
    ])

-- tests that all hold, and that not all hold
all_hold : (a b c d e f : Bool) → (a && b && c && d && e && f) ≡ true → (a ≡ true) × (b ≡ true) × (c ≡ true) × (d ≡ true) × (e ≡ true) × (f ≡ true)
all_hold true true true true true f is = (refl, refl, refl, refl, refl, is)
all_hold true true true true false f is = absurd (cc)
all_hold true true true false e f is = absurd (cc)
all_hold true true false d e f is = absurd (cc)
all_hold true false c d e f is = absurd (cc)
all_hold false b c d e f is = absurd (cc)

one_fails : (a b c d e f : Bool) → (a && b && c && d && e && f) ≡ false → a ≡ true → b ≡ true → c ≡ true → d ≡ true → e ≡ true → f ≡ true → ⊥
one_fails true true true true true f is one two three four five six = cc
one_fails true true true true false f is one two three four five six = cc
one_fails true true true false e f is one two three four five six = cc
one_fails true true false d e f is one two three four five six = cc
one_fails true false c d e f is one two three four five six = cc
one_fails false b c d e f is one two three four five six = cc

module _ (known : Registration) (replay : OpenReplay) where
  abbrev begins : Bool
  begins = nat_le (unsigned_abs known.descriptor.start_position) (2 ^ 31 * unsigned_abs known.descriptor.term_length)

  -- a replay that goes on from a recording's start on can be read exactly if that has a layout
  pub readable : has_layout known.descriptor ≡ true → known.descriptor.start_position ≤ℤ replay.next → IsReadable known replay
  readable has from =
      let d = known.descriptor in
      let parts = all_hold (is_term_length d.term_length) (is_term_length d.segment_length) (int_le d.term_length d.segment_length) (is_mtu d.mtu) (is_aligned d.start_position) begins has in
      let units = aligned_units d.start_position parts.4 in
      record {
        laid_out = record {
          layout = record {
            term = parts.0;
            segment = parts.1;
            no_less = grind (arith, parts.2);
            start = units.0;
            start_is = units.1;
            in_terms = grind (arith, ints, nat_tests, parts.5, units.1);
          };
          mtu = parts.3;
        };
        from_start = from;
      }

  pub unreadable : has_layout known.descriptor ≡ false → IsReadable known replay → ⊥
  unreadable has is =
      let d = known.descriptor in
      let layout = is.laid_out.layout in
      one_fails (is_term_length d.term_length) (is_term_length d.segment_length) (int_le d.term_length d.segment_length) (is_mtu d.mtu) (is_aligned d.start_position) begins has
      layout.term layout.segment (grind (arith, layout.no_less)) is.laid_out.mtu (aligned_of_units d.start_position (layout.start, layout.start_is)) (grind (arith, ints, nat_tests, layout.start_is, layout.in_terms))
