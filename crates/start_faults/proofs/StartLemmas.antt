-- What a start in range says of each word, and the other way round.
use Rattle.std.proofs.Common.{◌≡◌, Bool, true, false, refl, true≢false, sym}
use Rattle.std.specs.Prelude.{◌&&◌, not, find, int_le, is_some}
use Rattle.frame_core.specs.Limits.{is_mtu, is_term_length}
use Rattle.archive_model.specs.declared.command.StartFields.{StartFields}
use Rattle.archive_model.specs.Descriptor.{is_channel, is_in_range, is_layout, is_negative, is_source, is_start_position}
use Rattle.start_faults.specs.declared.word.StartWord.{StartWord}
use Rattle.start_faults.specs.declared.word.StartWord.TheVariants.{Source, TermLength, Mtu, SegmentLength, StartPosition, Timestamp, Channel}
use Rattle.start_faults.specs.StartFaults.{words, wrong_word}

first_of : (a b : Bool) → a && b ≡ true → a ≡ true
first_of true b is = refl
first_of false b is = is

second_of : (a b : Bool) → a && b ≡ true → b ≡ true
second_of true b is = is
second_of false b is = absurd (true≢false (sym is))

both : (a b : Bool) → a ≡ true → b ≡ true → a && b ≡ true
both true b first second = second
both false b first second = first

-- the words that keep their rules
abbrev keeps : (source term mtu segment start time channel : Bool) → StartWord → Bool
keeps source term mtu segment start time channel Source = source
keeps source term mtu segment start time channel TermLength = term
keeps source term mtu segment start time channel Mtu = mtu
keeps source term mtu segment start time channel SegmentLength = segment
keeps source term mtu segment start time channel StartPosition = start
keeps source term mtu segment start time channel Timestamp = time
keeps source term mtu segment start time channel Channel = channel

record AllKeep (source term mtu segment start time channel : Bool) : Type 0 where
  source_is : source ≡ true
  term_is : term ≡ true
  mtu_is : mtu ≡ true
  segment_is : segment ≡ true
  start_is : start ≡ true
  time_is : time ≡ true
  channel_is : channel ≡ true

abbrev named : (source term mtu segment start time channel : Bool) → Bool
named source term mtu segment start time channel = is_some (find (λ word. not (keeps source term mtu segment start time channel word)) words)

all_keep : (source term mtu segment start time channel : Bool) → named source term mtu segment start time channel ≡ false
    → AllKeep source term mtu segment start time channel
all_keep false term mtu segment start time channel none = absurd (true≢false none)
all_keep true false mtu segment start time channel none = absurd (true≢false none)
all_keep true true false segment start time channel none = absurd (true≢false none)
all_keep true true true false start time channel none = absurd (true≢false none)
all_keep true true true true false time channel none = absurd (true≢false none)
all_keep true true true true true false channel none = absurd (true≢false none)
all_keep true true true true true true false none = absurd (true≢false none)
all_keep true true true true true true true none = record { source_is = refl; term_is = refl; mtu_is = refl; segment_is = refl; start_is = refl; time_is = refl; channel_is = refl }

none_named : (source term mtu segment start time channel : Bool) → AllKeep source term mtu segment start time channel
    → named source term mtu segment start time channel ≡ false
none_named false term mtu segment start time channel keep = absurd (true≢false (sym keep.source_is))
none_named true false mtu segment start time channel keep = absurd (true≢false (sym keep.term_is))
none_named true true false segment start time channel keep = absurd (true≢false (sym keep.mtu_is))
none_named true true true false start time channel keep = absurd (true≢false (sym keep.segment_is))
none_named true true true true false time channel keep = absurd (true≢false (sym keep.start_is))
none_named true true true true true false channel keep = absurd (true≢false (sym keep.time_is))
none_named true true true true true true false keep = absurd (true≢false (sym keep.channel_is))
none_named true true true true true true true keep = refl

-- the parts of a range, and the range of its parts
module _ (term segment fits mtu start time channel source : Bool) where
  abbrev whole : Bool
  whole = ((term && segment && fits && mtu) && start && time) && (channel && source)

  parts : whole ≡ true → AllKeep source term mtu (segment && fits) start time channel
  parts range =
      let front = first_of (((term && segment && fits && mtu) && start) && time) (channel && source) range in
      let origin = second_of (((term && segment && fits && mtu) && start) && time) (channel && source) range in
      let begun = first_of ((term && segment && fits && mtu) && start) time front in
      let layout = first_of (term && segment && fits && mtu) start begun in
      let lengths = first_of (term && segment && fits) mtu layout in
      record {
        source_is = second_of channel source origin;
        term_is = first_of term segment (first_of (term && segment) fits lengths);
        mtu_is = second_of (term && segment && fits) mtu layout;
        segment_is = both segment fits (second_of term segment (first_of (term && segment) fits lengths)) (second_of (term && segment) fits lengths);
        start_is = second_of (term && segment && fits && mtu) start begun;
        time_is = second_of ((term && segment && fits && mtu) && start) time front;
        channel_is = first_of channel source origin;
      }

  range_of : AllKeep source term mtu (segment && fits) start time channel → whole ≡ true
  range_of keep =
      let lengths = both (term && segment) fits (both term segment keep.term_is (first_of segment fits keep.segment_is)) (second_of segment fits keep.segment_is) in
      let layout = both (term && segment && fits) mtu lengths keep.mtu_is in
      let begun = both (term && segment && fits && mtu) start layout keep.start_is in
      let front = both ((term && segment && fits && mtu) && start) time begun keep.time_is in
      both (((term && segment && fits && mtu) && start) && time) (channel && source) front (both channel source keep.channel_is keep.source_is)

module _ (f : StartFields) where
  pub in_range_of_none : is_some (wrong_word f) ≡ false → is_in_range f ≡ true
  unfolding wrong_word is_layout
  in_range_of_none none = range_of (is_term_length f.term_length) (is_term_length f.segment_length) (int_le f.term_length f.segment_length) (is_mtu f.mtu)
      (is_start_position f.start_position f.term_length) (not (is_negative f.timestamp)) (is_channel f.channel) (is_source f.source_identity)
      (all_keep (is_source f.source_identity) (is_term_length f.term_length) (is_mtu f.mtu) (is_term_length f.segment_length && int_le f.term_length f.segment_length)
      (is_start_position f.start_position f.term_length) (not (is_negative f.timestamp)) (is_channel f.channel) none)

  pub none_of_in_range : is_in_range f ≡ true → is_some (wrong_word f) ≡ false
  unfolding wrong_word is_layout
  none_of_in_range range = none_named (is_source f.source_identity) (is_term_length f.term_length) (is_mtu f.mtu) (is_term_length f.segment_length && int_le f.term_length f.segment_length)
      (is_start_position f.start_position f.term_length) (not (is_negative f.timestamp)) (is_channel f.channel)
      (parts (is_term_length f.term_length) (is_term_length f.segment_length) (int_le f.term_length f.segment_length) (is_mtu f.mtu)
      (is_start_position f.start_position f.term_length) (not (is_negative f.timestamp)) (is_channel f.channel) (is_source f.source_identity) range)
